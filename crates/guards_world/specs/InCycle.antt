-- The world within a cycle, when some of its slots are done. This project's own.
use Rattle.std.specs.Prelude.{◌≡◌, ◌<◌, ℕ, ◌+◌, false, List, ◌++◌, length, map, flat_map, take, None}
use Rattle.std.specs.List.{AllZip, list_any}
use Rattle.guards_model.specs.declared.Slot.{Slot}
use Rattle.guards_model.specs.Slots.{slot_index, every_slot}
use Rattle.guards_model.specs.Channels.{Channel, ChannelSet, by_channel, channels_where}
use Rattle.guards_model.specs.Missions.{MissionValue, IsMission, channels_of}
use Rattle.guards_model.specs.Network.{Log}
use Rattle.guards_model.specs.Rounds.{Steps, steps_of}
use Rattle.guards_model.specs.Ledgers.{LedgerValue}
use Rattle.guards_runs.specs.Cycles.{Cycle, mode_in, is_damaged, active_set, cycles_before, cycle_at}
use Rattle.guards_runs.specs.Disturbed.{halts, is_charge, stop_of}
use Rattle.guards_runs.specs.Due.{Carry, AreDue, IsMadeBy, slot_carries}
use Rattle.guards_nodes.specs.NodeStates.{NodeValue}
use Rattle.guards_world.specs.NodeFacts.{state_in, node_with}
use Rattle.guards_world.specs.Worlds.{WorldValue}

-- the carries of the slots that are done
abbrev pub carries_done : ℕ → Cycle → ℕ → List Carry
carries_done c e done = flat_map (slot_carries c e) (take done every_slot)

-- a node of cycle n
abbrev pub node_in : MissionValue → Log → ℕ → Steps → Slot → ℕ → Channel → NodeValue
node_in M L n steps slot done q =
    node_with M q (state_in M (cycles_before M L n) (cycle_at M L n) steps slot done q)

-- the ledger in a slot
abbrev pub ledger_in : MissionValue → Cycle → Slot → LedgerValue
ledger_in M e slot =
    record {
      return_after = M.return_after;
      modes = by_channel (λ q. mode_in e q slot);
      damaged = channels_where (λ q. is_damaged e q slot);
    }

-- The modes are those of `slot`. So many slots are carried: their due entries are in the log, and none of them halts.
-- So many are handed over: each node holds what the facts say when these are done. `earlier` has the entries of the
-- earlier cycles, and `current` those of this one.
pub record InCycle (M : MissionValue) (earlier current : Log) (steps : Steps) (slot : Slot) (carried handed : ℕ)
    (w : WorldValue) : Type 0 where
  pub mission : w.mission ≡ M
  pub ranges : IsMission M
  pub below : w.done < M.cycles
  pub unspent : w.spent ≡ None
  pub count : w.carried ≡ length earlier + length current
  pub before : AreDue M (cycles_before M (earlier ++ current) w.done) earlier
  pub unstopped : stop_of (cycles_before M (earlier ++ current) w.done) ≡ None
  pub made : AllZip
      (λ carry entry. IsMadeBy M (cycles_before M (earlier ++ current) w.done) (cycle_at M (earlier ++ current) w.done)
      (steps_of steps carry.from) carry entry)
      (carries_done w.done (cycle_at M (earlier ++ current) w.done) carried) current
  pub unhalted : (s : Slot) → slot_index s < carried → halts w.done (cycle_at M (earlier ++ current) w.done) s ≡ false
  pub nodes : w.nodes ≡ map (node_in M (earlier ++ current) w.done steps slot handed) (channels_of M)
  pub ledger : w.ledger ≡ ledger_in M (cycle_at M (earlier ++ current) w.done) slot
  pub switches : w.switches ≡ active_set M (cycles_before M (earlier ++ current) w.done)

-- whom a cycle's entries so far charge: those whose piece was not delivered as sent
abbrev pub charged_by : ℕ → Slot → Log → ChannelSet
charged_by c slot entries = channels_where (λ q. list_any (is_charge c slot q) entries)
