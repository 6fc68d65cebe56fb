-- What is known of a cycle when a slot of it is carried.
use Rattle.std.specs.Prelude.{◌≡◌, ◌<◌, ◌++◌}
use Rattle.std.specs.List.{list_any}
use Rattle.guards_model.specs.declared.Slot.{Slot}
use Rattle.guards_model.specs.declared.Slot.TheVariants.{Tasks, Switch}
use Rattle.guards_model.specs.Slots.{slot_index}
use Rattle.guards_model.specs.Channels.{Channel, ChannelSet, has}
use Rattle.guards_model.specs.Ledgers.{disturbed_by, limit_reached}
use Rattle.guards_model.specs.Missions.{MissionValue}
use Rattle.guards_model.specs.Network.{Log}
use Rattle.guards_model.specs.Rounds.{Steps}
use Rattle.guards_runs.specs.Cycles.{cycles_before, cycle_at}
use Rattle.guards_runs.specs.Disturbed.{is_charge, disturbed_channels, halts}
use Rattle.guards_world.specs.Worlds.{WorldValue}
use Rattle.guards_world.specs.WorldCycle.{AreFull}

-- With the entries `new` of the slot the cycle has these entries, the same channels are active, the marked ones are
-- those of whom a piece was not delivered as sent, and by the ledger of the world they tell who is disturbed and
-- whether the run stops. Steps that were full are so.
pub record SlotEnds (M : MissionValue) (earlier current new : Log) (steps : Steps) (slot : Slot)
    (active marked : ChannelSet) (w : WorldValue) : Type 0 where
  pub entries : (cycle_at M (earlier ++ (current ++ new)) w.done).entries ≡ current ++ new
  pub active_is : active ≡ (cycle_at M (earlier ++ (current ++ new)) w.done).active
  pub charged : (q : Channel) → q < 7 → has marked q ≡ list_any (is_charge w.done Switch q) (current ++ new)
  pub disturbed : disturbed_by active marked w.ledger
      ≡ disturbed_channels w.done (cycle_at M (earlier ++ (current ++ new)) w.done) slot
  pub halts : limit_reached active marked w.ledger ≡ halts w.done (cycle_at M (earlier ++ (current ++ new)) w.done) slot
  pub full : slot_index Tasks < slot_index slot →
      AreFull M (cycles_before M (earlier ++ current) w.done) (cycle_at M (earlier ++ current) w.done) steps →
      AreFull M (cycles_before M (earlier ++ (current ++ new)) w.done) (cycle_at M (earlier ++ (current ++ new)) w.done)
      steps
