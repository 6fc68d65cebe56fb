use Rattle.std.proofs.Common.{length, take, ap, ◌∙◌}
use Rattle.guards_model.specs.Missions.{cycle_writes}
use Rattle.guards_model.specs.Tasks.{whole}
use Rattle.guards_model.specs.Texts.{LineValue}
use Rattle.told_cycles.proofs.ContextSizes.{apply_length}
use Rattle.told_cycles.proofs.work.run_line.Goals as goal

pub returns-clause-value : goal.returns-clause-value
returns-clause-value g c =
    let M = c.args.mission.now in
    let n = c.args.cycle in
    c.run_cycle.ensures ∙ ap (λ (l : LineValue). whole (cycle_writes M n) c.args.context.now n (take M.width l.inputs))
    c.line.view_is

pub returns-clause-blocks : goal.returns-clause-blocks
returns-clause-blocks g c =
    ap length c.run_cycle.ensures
    ∙ apply_length (cycle_writes c.args.mission.now c.args.cycle) c.args.context.now c.args.cycle _
    (length (cycle_writes c.args.mission.now c.args.cycle)) ∙ c.requires
