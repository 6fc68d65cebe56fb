use Rattle.std.proofs.Common.{◌++◌, length, refl, sym, subst}
use Rattle.guards_runs.specs.Cycles.{cycle_at}
use Rattle.guards_runs.specs.Due.{slot_carries}
use Rattle.guards_world.specs.Passing.{AreDueCarries}
use Rattle.world_laws.proofs.SlotsEntered.{take_all, carries_slot, stops_slot, breaks_slot}
use Rattle.world_laws.proofs.cycle.slots_are_carried.Goals as goal

pub returns-clause-goes_on : goal.returns-clause-goes_on
returns-clause-goes_on c =
    λ M earlier current new steps slot w on inside carried goes.
    let carries = slot_carries w.done (cycle_at M (earlier ++ current) w.done) slot in
    carries_slot M earlier current new steps slot on w inside (length carries)
    (subst (λ ks. AreDueCarries M (earlier ++ current) w.done steps ks new) (sym (take_all carries)) carried) refl goes

pub returns-clause-stops : goal.returns-clause-stops
returns-clause-stops c =
    λ M earlier current new steps slot w on inside carried halted.
    let carries = slot_carries w.done (cycle_at M (earlier ++ current) w.done) slot in
    stops_slot M earlier current new steps slot on w inside (length carries)
    (subst (λ ks. AreDueCarries M (earlier ++ current) w.done steps ks new) (sym (take_all carries)) carried) refl
    halted

pub returns-clause-breaks_off : goal.returns-clause-breaks_off
returns-clause-breaks_off c =
    λ M earlier current new steps slot w few on inside carried.
    breaks_slot M earlier current new steps slot on w inside few carried
