-- The world when a slot of a cycle is passed, and when all of them are.
use Rattle.std.specs.Prelude.{◌≡◌, ◌==◌, ◌&&◌, Bool, ℕ, suc, ◌+◌, List, ◌∷◌, ◌++◌, length, map, take, Option, Some, None, option_and_then}
use Rattle.std.specs.List.{AllZip}
use Rattle.guards_model.specs.declared.Slot.{Slot}
use Rattle.guards_model.specs.declared.Slot.TheVariants.{Switch}
use Rattle.guards_model.specs.Channels.{Channel, has}
use Rattle.guards_model.specs.Missions.{MissionValue, FormatValue, format_of, channels_of}
use Rattle.guards_model.specs.Frames.{BodyValue}
use Rattle.guards_model.specs.Fields.{frame_in}
use Rattle.guards_model.specs.Network.{EntryValue, Log, counting}
use Rattle.guards_model.specs.Rounds.{Steps, steps_of}
use Rattle.guards_model.specs.Slots.{stage_after}
use Rattle.guards_runs.specs.Cycles.{Past, Cycle, active_set, received_body, cycles_before, cycle_at}
use Rattle.guards_runs.specs.Disturbed.{disturbed_channels, stop_in, stop_of}
use Rattle.guards_runs.specs.Due.{Carry, IsDue, IsMadeBy, cycle_carries, carries_through}
use Rattle.guards_world.specs.NodeFacts.{ledger_at, node_with, state_in}
use Rattle.guards_world.specs.SlotSteps.{ended_state}
use Rattle.guards_world.specs.Worlds.{WorldValue, settled_after}
use Rattle.guards_world.specs.InCycle.{node_in, ledger_in}

-- The nodes that are switched off rest, those that took a final content run, the ledger and the switches are those
-- after the cycle, and one cycle more is done. `earlier` has the entries of the earlier cycles, and `current` those of
-- this one.
abbrev pub world_after : MissionValue → Log → Log → Steps → ℕ → ℕ → WorldValue
world_after M earlier current steps n carried =
    let past : Past = cycles_before M (earlier ++ current) n in
    let e : Cycle = cycle_at M (earlier ++ current) n in
    record {
      mission = M;
      done = suc n;
      carried = carried;
      nodes = map (λ q. node_with M q
          (ended_state (has (active_set M (e ∷ past)) q) (state_in M past e steps Switch (stage_after Switch) q)))
          (channels_of M);
      ledger = ledger_at M (e ∷ past);
      switches = active_set M (e ∷ past);
      spent = None;
      settled = settled_after (e ∷ past);
    }

-- ---- within a cycle

-- the world when the entries of a slot are carried
abbrev pub world_carried : ℕ → WorldValue → WorldValue
world_carried more w = record w { carried = w.carried + more }

-- the world when the nodes and the ledger have entered a slot, or were handed what it carried
abbrev pub world_in : MissionValue → Log → Steps → Slot → ℕ → WorldValue → WorldValue
world_in M L steps slot handed w =
    record w {
      nodes = map (node_in M L w.done steps slot handed) (channels_of M);
      ledger = ledger_in M (cycle_at M L w.done) slot;
    }

-- the next entries of a slot were carried, one for each of these carries: each is due by the facts so far
abbrev pub AreDueCarries : MissionValue → Log → ℕ → Steps → List Carry → Log → Type 0
AreDueCarries M L n steps carries new =
    AllZip (λ carry entry. IsMadeBy M (cycles_before M L n) (cycle_at M L n) (steps_of steps carry.from) carry entry)
    carries new

-- The run stops in a slot of cycle n, and in no earlier one: the entries up to the end of the slot are due.
pub record IsStopIn (M : MissionValue) (earlier current : Log) (n : ℕ) (steps : Steps) (slot : Slot) : Type 0 where
  pub due : AreDueCarries M (earlier ++ current) n steps (carries_through n (cycle_at M (earlier ++ current) n) slot)
      current
  pub stops : stop_in n (cycle_at M (earlier ++ current) n)
      ≡ Some (record {
        cycle = n;
        slot = slot;
        set = disturbed_channels n (cycle_at M (earlier ++ current) n) slot;
        active = (cycle_at M (earlier ++ current) n).active;
      })
  pub before : stop_of (cycles_before M (earlier ++ current) n) ≡ None

-- What was carried of cycle n is a front of its due entries.
abbrev pub IsFront : MissionValue → Log → Log → ℕ → Type 0
IsFront M earlier current n =
    AllZip (IsDue M (cycles_before M (earlier ++ current) n) (cycle_at M (earlier ++ current) n))
    (take (length current) (cycle_carries n (cycle_at M (earlier ++ current) n))) current

-- ---- arrivals

-- what a piece is to its receiver: the frame that it spells, where it counts
abbrev pub read_piece : FormatValue → ℕ → Slot → Channel → ℕ → Option (List ℕ) → Option BodyValue
read_piece format c slot from to delivered =
    option_and_then (counting format c slot from to) (option_and_then frame_in delivered)

-- what was delivered of an entry is what its receiver has received by the entries of a cycle
abbrev pub Arrives : MissionValue → Log → Carry → EntryValue → Type 0
Arrives M entries carry entry =
    received_body M entries carry.cycle carry.slot carry.from carry.to
    ≡ read_piece (format_of M) carry.cycle carry.slot carry.from carry.to entry.delivered

-- whether a carry is between these two
abbrev pub is_carry_between : Channel → ℕ → Carry → Bool
is_carry_between from to carry = carry.from == from && carry.to == to
