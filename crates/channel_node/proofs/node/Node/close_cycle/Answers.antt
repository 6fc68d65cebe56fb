use Rattle.std.proofs.Common.{◌≡◌, ◌∙◌, sym, subst, ap, rules, Some, ℕ, List}
use Rattle.context_blocks.specs.BlockSets.{blocks_where}
use Rattle.guards_model.specs.Channels.{has}
use Rattle.guards_model.specs.Missions.{RulesValue, written_blocks}
use Rattle.guards_model.specs.Controls.{closed_by}
use Rattle.task_table.specs.Tables.{TableValue, table_writes}
use Rattle.std.specs.Prelude.{map}
use Rattle.guards_nodes.specs.NodeStates.{running, RunningValue}
use Rattle.guards_nodes.specs.NodeSteps.{after_close, plan_in}
use Rattle.channel_node.specs.Closing.{closed_value}
use Rattle.channel_node.proofs.NodeClosed.{closes}
use Rattle.channel_node.proofs.node.Node.close_cycle.Goals as goal

pub returns : goal.returns
returns c =
    let M = c.args.mission.now in
    let d = c.requires.decided in
    let r : RunningValue = c.in-Up.running in
    let ws : List ℕ = written_blocks c.args.mission.now c.args.cycle in
    let up : c.args.self.now.state ≡ running r = search rules in
    let same : r ≡ d.part = cc (sym up ∙ d.runs) in
    let had : r.progress.decided ≡ Some d.decided =
    subst (λ (x : RunningValue). x.progress.decided ≡ Some d.decided) (sym same) d.had in
    let set : c.distinct_blocks-written.result ≡ blocks_where (has ws) =
    c.distinct_blocks-written.ensures
    ∙ ap (λ (t : TableValue). blocks_where (has (map (λ write. write.block) (table_writes t c.args.cycle))))
    c.table.ensures in
    let chan : c.self.inside.channel ≡ c.args.self.now.channel = search rules in
    let same_rules : c.self.inside.rules ≡ c.args.self.now.rules = search rules in
    let state : c.close_cycle.new.self ≡ after_close M.rules ws d.decided r =
    c.close_cycle.ensures.state d.decided ws had set
    ∙ ap (λ (x : RulesValue). after_close x ws d.decided r) c.rules.ensures in
    let answer : closed_value c.close_cycle.result ≡ closed_by M.rules.last (plan_in M.rules r.held) ws r.held.control =
    c.close_cycle.ensures.answer ws set
    ∙ ap (λ (x : RulesValue). closed_by x.last (plan_in x r.held) ws r.held.control) c.rules.ensures in
    rw (chan, same_rules) (closes M c.args.cycle c.args.self.now r c.close_cycle.new.self d.decided
    (closed_value c.close_cycle.result) up had state answer)
