use Rattle.std.proofs.Common.{◌-◌, length, take, ap, sym, ◌∙◌}
use Rattle.guards_model.specs.Missions.{cycle_writes}
use Rattle.guards_model.specs.Tasks.{whole}
use Rattle.guards_base.specs.Padding.{padded}
use Rattle.guards_nodes.proofs.PaddedInputs.{whole_same}
use Rattle.task_table.specs.Tables.{TableValue, table_writes}
use Rattle.told_cycles.proofs.work.run_cycle.Goals as goal

pub do_writes-requires : goal.do_writes-requires
do_writes-requires g c = c.requires ∙ sym (ap (λ (t : TableValue). t.blocks) c.table.ensures)

pub returns : goal.returns
returns g c =
    let M = c.args.mission.now in
    let n = c.args.cycle in
    let words = take M.width c.args.inputs.now in
    c.do_writes.ensures
    ∙ ap (λ (t : TableValue). whole (table_writes t n) c.args.context.now n c.padded-inputs.result) c.table.ensures
    ∙ ap (whole (cycle_writes M n) c.args.context.now n) c.padded-inputs.ensures
    ∙ ap (λ k. whole (cycle_writes M n) c.args.context.now n (padded 4 (take k c.args.inputs.now))) c.width.ensures
    ∙ whole_same words (4 - length words) (cycle_writes M n) c.args.context.now n
