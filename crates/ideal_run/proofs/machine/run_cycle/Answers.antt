use Rattle.std.proofs.Common.{◌-◌, length, ap, sym, ◌∙◌}
use Rattle.guards_model.specs.Missions.{cycle_writes}
use Rattle.guards_model.specs.Tasks.{whole}
use Rattle.guards_nodes.proofs.PaddedInputs.{whole_same}
use Rattle.task_table.specs.Tables.{TableValue, table_writes}
use Rattle.guards_runs.specs.IdealMachine.{ideal, ideal_inputs}
use Rattle.ideal_run.proofs.IdealContexts.{ideal_length, ideal_next}
use Rattle.ideal_run.proofs.machine.run_cycle.Goals as goal

pub work-requires : goal.work-requires
work-requires g c =
    ap length c.requires ∙ ideal_length c.args.mission.now c.args.cycle ∙ c.prove_sizes.ensures.initial
    ∙ sym (ap (λ (t : TableValue). t.blocks) c.table.ensures)

pub returns-clause-context : goal.returns-clause-context
returns-clause-context g c =
    let M = c.args.mission.now in
    let n = c.args.cycle in
    c.work.ensures
    ∙ ap (λ (t : TableValue). whole (table_writes t n) c.args.context.now n c.inputs_of-inputs.result) c.table.ensures
    ∙ ap (λ ctx. whole (cycle_writes M n) ctx n c.inputs_of-inputs.result) c.requires
    ∙ ap (whole (cycle_writes M n) (ideal M n) n) c.inputs_of-inputs.ensures
    ∙ whole_same (ideal_inputs M n) (4 - M.width) (cycle_writes M n) (ideal M n) n
    ∙ sym (ideal_next M n)
