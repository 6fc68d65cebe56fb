use Rattle.std.proofs.Common.{◌++◌, length, refl, sym, subst}
use Rattle.guards_runs.specs.Cycles.{cycle_at}
use Rattle.guards_runs.specs.Due.{slot_carries}
use Rattle.guards_world.specs.Passing.{AreDueCarries}
use Rattle.world_laws.proofs.SlotsEntered.{take_all, arrives_slot, nothing_else_arrives, alone}
use Rattle.world_laws.proofs.cycle.pieces_arrive.Goals as goal

pub returns-clause-each : goal.returns-clause-each
returns-clause-each c =
    λ M earlier current new steps slot w on inside carried.
    let carries = slot_carries w.done (cycle_at M (earlier ++ current) w.done) slot in
    arrives_slot M earlier current new steps slot on w inside (length carries)
    (subst (λ ks. AreDueCarries M (earlier ++ current) w.done steps ks new) (sym (take_all carries)) carried) refl

pub returns-clause-nothing_else : goal.returns-clause-nothing_else
returns-clause-nothing_else c =
    λ M earlier current new steps slot w from to on inside carried absent.
    let carries = slot_carries w.done (cycle_at M (earlier ++ current) w.done) slot in
    nothing_else_arrives M earlier current new steps slot on w inside (length carries)
    (subst (λ ks. AreDueCarries M (earlier ++ current) w.done steps ks new) (sym (take_all carries)) carried) refl from
    to absent

pub returns-clause-slot_alone : goal.returns-clause-slot_alone
returns-clause-slot_alone c =
    λ M earlier current new steps slot w from to on inside carried.
    let carries = slot_carries w.done (cycle_at M (earlier ++ current) w.done) slot in
    alone M earlier current new steps slot on w inside (length carries)
    (subst (λ ks. AreDueCarries M (earlier ++ current) w.done steps ks new) (sym (take_all carries)) carried) refl from
    to
