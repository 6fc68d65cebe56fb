use Rattle.std.proofs.Common.{ℕ, subst}
use Rattle.std.specs.Prelude.{IsTrue}
use Rattle.guards_model.specs.Missions.{is_actuator}
use Rattle.mission_type.specs.Parts.{actuator_of}
use Rattle.mission_text.proofs.Making.{made}
use Rattle.mission_text.proofs.reading.mission_after.Goals as goal

pub invariant_of-result : goal.invariant_of-result
invariant_of-result c =
    rw c.rules.ensures
    (made c.args.core c.in_ok-initial.initial c.in_ok-table.table c.in_ok-outputs.outputs.items
    c.in_ok-sensors.sensors.items c.in_ok-script.script c.in_ok-actuator.actuator
    c.requires.rules c.requires.cycles c.requires.width c.requires.return_after c.in_ok-initial.ensures.whole
    c.in_ok-table.ensures.blocks c.in_ok-table.ensures.width c.in_ok-table.ensures.whole c.in_ok-outputs.ensures.whole
    c.in_ok-sensors.ensures.whole c.in_ok-script.ensures.fits
    (subst (λ (n : ℕ). IsTrue (is_actuator n (actuator_of n c.in_ok-actuator.actuator))) c.len.ensures
    c.in_ok-actuator.ensures.whole)
    c.in_ok-actuator.ensures.forward)
