-- What a cycle carried so far is a front of the run's due entries.
use Rattle.std.proofs.Common.{◌≡◌, ℕ, true, [], ◌++◌, subst}
use Rattle.std.proofs.lemmas.List.{append-nil}
use Rattle.guards_model.specs.declared.Slot.{Slot}
use Rattle.guards_model.specs.Slots.{slot_index, on_bus, stage_before}
use Rattle.guards_model.specs.Missions.{MissionValue}
use Rattle.guards_model.specs.Network.{Log}
use Rattle.guards_model.specs.Rounds.{Steps}
use Rattle.guards_world.specs.Worlds.{WorldValue}
use Rattle.guards_world.specs.InCycle.{InCycle}
use Rattle.guards_world.specs.Passing.{world_in}
use Rattle.world_laws.proofs.SlotsEntered.{enters_slot}
use Rattle.world_laws.specs.Fronts.{IsRunFront}
use Rattle.world_laws.proofs.RunFronts.{run_front}

-- where the next slot of the bus is this one
pub is_front : (M : MissionValue) (earlier current : Log) (steps : Steps) (slot next : Slot) (handed : ℕ)
    (w : WorldValue) → on_bus next ≡ true →
    InCycle M earlier current steps slot (stage_before next) handed w → IsRunFront M earlier current w.done
is_front M earlier current steps slot next handed w on inside =
    let entered : InCycle M earlier current steps next (stage_before next) (stage_before next)
    (world_in M (earlier ++ current) steps next (slot_index next) w) =
    enters_slot M earlier current steps slot next (slot_index next) handed (slot_index next) w inside in
    subst (λ (all : Log). IsRunFront M earlier all w.done) (append-nil current)
    (run_front M earlier current [] steps next on (world_in M (earlier ++ current) steps next (slot_index next) w)
    entered 0 tt)
