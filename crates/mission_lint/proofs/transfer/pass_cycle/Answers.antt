use Rattle.std.proofs.Common.{◌≡◌, ◌≤◌, ◌∙◌, ℕ, List, [], ◌∷◌, map, subst, ap, arith}
use Rattle.context_blocks.specs.BlockSets.{blocks_where}
use Rattle.guards_model.specs.Channels.{has}
use Rattle.guards_model.specs.Missions.{written_blocks}
use Rattle.guards_model.specs.Tags.{StandFor}
use Rattle.guards_model.specs.Transfers.{planned_blocks}
use Rattle.task_table.specs.Tables.{TableValue, table_writes}
use Rattle.mission_lint.proofs.Length.{stand_for_list}
use Rattle.mission_lint.proofs.transfer.pass_cycle.Goals as goal

pub returns-clause-stands : goal.returns-clause-stands
returns-clause-stands c = λ cycles stands.
    let M = c.args.mission.now in
    let mid = c.wrote_all.new.self in
    let new = c.close_cycle.new.self in
    let list : List ℕ = written_blocks M c.args.cycle in
    let planned : c.plan-plan.result ≡ planned_blocks M.rules.blocks M.rules.sweep cycles =
    c.plan-plan.ensures.cycles cycles [] stands
    ∙ ap (λ b. planned_blocks b c.sweep_of.result cycles) c.requires
    ∙ ap (λ s. planned_blocks M.rules.blocks s cycles) c.sweep_of.ensures.value in
    let set : c.distinct_blocks.result ≡ blocks_where (has list) =
    c.distinct_blocks.ensures
    ∙ ap (λ (t : TableValue). blocks_where (has (map (λ write. write.block) (table_writes t c.args.cycle))))
    c.table.ensures in
    let few : mid.blocks ≤ 256 =
    omega (
      arith,
      c.wrote_all.ensures.blocks,
      c.requires,
      c.blocks_of-blocks.ensures.value,
      c.blocks_of-blocks.ensures.most,
    ) in
    let noted : StandFor mid cycles (blocks_where (has list)) =
    subst (λ (ws : List ℕ). StandFor mid cycles ws) set (c.wrote_all.ensures.cycles cycles stands) in
    subst (λ (p : List ℕ). StandFor new (record { planned = p; written = list } ∷ cycles) []) planned
    (c.close_cycle.ensures.cycles cycles list (stand_for_list mid cycles list few noted))
