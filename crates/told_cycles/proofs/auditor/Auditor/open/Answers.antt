use Rattle.std.proofs.Common.{None, refl, ap, ◌∙◌, arith}
use Rattle.guards_model.specs.Records.{transfer_of_pair}
use Rattle.guards_model.specs.Transfers.{planned_blocks}
use Rattle.guards_audit.specs.Told.{next_cycle_number}
use Rattle.told_cycles.specs.declared.auditor.Place.TheVariants as at
use Rattle.told_cycles.proofs.OpenLemmas.{begins, sweep_low}
use Rattle.told_cycles.proofs.StandLemmas.{opens}
use Rattle.told_cycles.proofs.auditor.Auditor.open.Goals as goal

pub plan-plan-requires-clause-few : goal.plan-plan-requires-clause-few
plan-plan-requires-clause-few c =
    let k = c.requires.1.sweeps.stand in
    let after = c.restart_if.ensures c.args.mission.now.rules.blocks (next_cycle_number c.requires.0)
    c.requires.1.sweeps.cycles k in
    omega (arith, after.size, after.few)

pub plan-plan-requires-clause-low : goal.plan-plan-requires-clause-low
plan-plan-requires-clause-low c =
    let k = c.requires.1.sweeps.stand in
    let after = c.restart_if.ensures c.args.mission.now.rules.blocks (next_cycle_number c.requires.0)
    c.requires.1.sweeps.cycles k in
    omega (arith, after.size, after.low)

pub plan-plan-requires-clause-room : goal.plan-plan-requires-clause-room
plan-plan-requires-clause-room c =
    omega (
      arith,
      c.sweep_of.ensures,
      sweep_low c.args.mission.now (transfer_of_pair c.args.transfer) c.prove_mission.ensures,
    )

pub returns : goal.returns
returns c =
    let M = c.args.mission.now in
    λ told cycle active h fits.
    opens M told cycle active (transfer_of_pair c.args.transfer) c.args.self.now
    (record c.args.self.now {
      place = at.Amid;
      sweeps = c.restart_if.new.self;
      part = record {
        transfer = c.args.transfer;
        plan = c.plan-plan.result;
        first = None;
        lined = c.empty.result;
        traced = c.empty-2.result;
      };
    }) h fits refl
    (record { done = refl; active = refl; joined = refl; transfer = refl; counts = refl; words = refl }) refl refl refl
    c.empty.ensures c.empty-2.ensures
    (begins M told (transfer_of_pair c.args.transfer) c.args.self.now.sweeps c.restart_if.new.self c.starts_in.result
    c.args.self.now.done c.starts_in.ensures h.knows.done c.restart_if.ensures)
    (λ blocks next cycles k. c.plan-plan.ensures blocks next cycles k
    ∙ ap (λ n. planned_blocks blocks n cycles) c.sweep_of.ensures)
