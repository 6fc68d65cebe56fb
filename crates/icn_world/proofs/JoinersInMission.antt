-- A channel that joins is one of the mission, since any other is down in every cycle.
use Rattle.std.proofs.Common.{◌≡◌, ℕ, ◌<◌, Bool, true, false, refl, sym, ap, ◌∙◌}
use Rattle.std.specs.Prelude.{nat_lt}
use Rattle.guards_model.specs.declared.Slot.{Slot}
use Rattle.guards_model.specs.Slots.{on_bus}
use Rattle.guards_model.specs.Channels.{Channel, has}
use Rattle.guards_model.specs.Missions.{MissionValue, IsMission, channels_of}
use Rattle.guards_model.specs.Modes.{is_joining}
use Rattle.guards_model.specs.Network.{Log}
use Rattle.guards_model.proofs.BoolTests.{differ}
use Rattle.guards_runs.specs.Cycles.{mode_in, cycle_at}
use Rattle.world_laws.proofs.OutsideIsDown.{is_down_in}
use Rattle.icn_world.proofs.Entering.{below_by}

pub joins_within : (M : MissionValue) (L : Log) (n : ℕ) → IsMission M → (q : Channel) → q < 7 → (slot : Slot) →
    on_bus slot ≡ true →
    is_joining (mode_in (cycle_at M L n) q slot) ≡ true → has (channels_of M) q ≡ true
joins_within M L n mission q low slot on joins = by (nat_lt q M.rules.channels) refl
  where
    by : (b : Bool) → nat_lt q M.rules.channels ≡ b → has (channels_of M) q ≡ true
    by true within = below_by M.rules.channels q true within
    by false outside = differ (sym joins ∙ ap is_joining (is_down_in M L mission q low outside n slot on))
