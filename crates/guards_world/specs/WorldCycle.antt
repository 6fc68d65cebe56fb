-- What one cycle of the world does: the entries that it carries, the record that it answers, and the world after it.
-- This project's own.
use Rattle.std.specs.Prelude.{◌≡◌, ◌<◌, ℕ, suc, ◌+◌, ◌-◌, pos, false, IsTrue, List, ◌∷◌, ◌++◌, length, take, drop, replicate, Option, Some, None, Result, Ok, Err, option_and_then, option_map, slice_get}
use Rattle.std.specs.List.{AllZip, AllByRecursion}
use Rattle.guards_model.specs.declared.Slot.TheVariants.{Tasks, Switch}
use Rattle.guards_model.specs.declared.Actor.{Actor}
use Rattle.guards_model.specs.Slots.{slot_index}
use Rattle.guards_model.specs.Channels.{Channel, has}
use Rattle.guards_model.specs.Contexts.{ContextValue}
use Rattle.guards_model.specs.Missions.{MissionValue}
use Rattle.guards_model.specs.BusRules.{RuleValue}
use Rattle.guards_model.specs.Network.{EntryValue, Log, BusValue}
use Rattle.guards_model.specs.Rounds.{IsFull, Steps, steps_of}
use Rattle.guards_model.specs.Texts.{LineValue, RecordValue, StopValue}
use Rattle.guards_model.specs.Records.{shown}
use Rattle.guards_runs.specs.Cycles.{Cycle, Past, next_cycle, cycles_before, is_whole}
use Rattle.guards_runs.specs.Disturbed.{stop_in, stop_of}
use Rattle.guards_runs.specs.Due.{IsDue, IsMadeBy, AreMadeBy, cycle_carries, carries_through, due_origin}
use Rattle.guards_runs.specs.Report.{cycle_record, channels_running_in}
use Rattle.guards_runs.specs.Restoration.{context_taken}
use Rattle.guards_runs.specs.Soundness.{IsSoundCycle}
use Rattle.guards_nodes.specs.NodeStates.{NodeValue, WorkedValue, running_or_none}
use Rattle.guards_world.specs.Worlds.{WorldValue, HaltValue, disturbed, no_memory, StandsForWorld, last_entries}

-- ---- the bus

-- these entries were carried, each as the bus may
pub record Carries (may : List RuleValue → EntryValue → Type 0) (old new : BusValue) (now : Log) : Type 0 where
  pub log : new.log ≡ old.log ++ now
  pub script : new.script ≡ old.script
  pub each : AllByRecursion (may old.script) now

-- ---- steps

-- the steps of each channel that is active and up in the tasks slot are full
abbrev pub AreFull : MissionValue → Past → Cycle → Steps → Type 0
AreFull M past e steps =
    (p : Channel) → IsTrue (has (channels_running_in Tasks e) p) → IsFull (due_origin M past e p) (steps_of steps p)

-- ---- the three ends

abbrev pub context_of : NodeValue → Option ContextValue
context_of node = option_map (λ r. r.held.context) (running_or_none node.state)

abbrev pub worked_of : NodeValue → Option WorkedValue
worked_of node = option_and_then (λ r. r.progress.worked) (running_or_none node.state)

abbrev pub node_of : WorldValue → Channel → Option NodeValue
node_of w q = slice_get w.nodes q

-- the node worked in this cycle, with these steps
abbrev pub HasTrail : WorldValue → Channel → ℕ → List Actor → Type 0
HasTrail w q c steps =
    (worked : WorkedValue) × (option_and_then worked_of (node_of w q) ≡ Some worked) × (worked.cycle ≡ c)
    × (worked.steps ≡ steps)

-- in the places past the mission's words, outputs and channels a line has 0, none and 0
pub record IsLinePadded (M : MissionValue) (l : LineValue) : Type 0 where
  pub inputs : drop M.width l.inputs ≡ replicate (4 - M.width) (pos 0)
  pub votes : drop (length M.outputs) l.votes ≡ replicate (8 - length M.outputs) None
  pub counts : drop M.rules.channels l.counts ≡ replicate (7 - M.rules.channels) 0

-- The cycle finished. `e` has its facts, from the log with this cycle's entries.
pub record Finishes (old : WorldValue) (earlier current : Log) (part : RecordValue) (new : WorldValue) (e : Cycle)
    (past : Past) : Type 0 where
  pub past_is : past ≡ cycles_before old.mission (earlier ++ current) old.done
  pub facts : e ≡ next_cycle old.mission (earlier ++ current) past
  pub steps : Steps
  -- the log grew by the due entries, in order
  pub due : AreMadeBy old.mission steps past e current
  pub full : AreFull old.mission past e steps
  -- the answer is the record of the cycle, in the places that the mission has; the others are empty
  pub record_is : shown old.mission.rules.channels old.mission.width (length old.mission.outputs) part
      ≡ cycle_record old.mission steps old.done e
  pub padded : AllByRecursion (IsLinePadded old.mission) part.lines
  -- the longer list stands for the new world
  pub mission : new.mission ≡ old.mission
  pub done : new.done ≡ suc old.done
  pub spent : new.spent ≡ None
  pub stands : StandsForWorld new (earlier ++ current)
  -- agreement and restoration
  pub sound : IsSoundCycle old.mission past e
  -- each running channel that stays active has its trail
  pub trails : (p : Channel) → IsTrue (has (channels_running_in Switch e) p) → has e.removed p ≡ false →
      HasTrail new p old.done (steps_of steps p)
  -- a whole channel holds its replica with the final content put in
  pub taken : (q : Channel) → IsTrue (is_whole q (e ∷ past)) →
      option_and_then context_of (node_of new q) ≡ context_taken old.mission q past e

-- The cycle stopped at the end of a slot: the entries up to there are due, and nothing was computed from that slot.
pub record Stops (old : WorldValue) (earlier current : Log) (stop : StopValue) (new : WorldValue) (e : Cycle)
    (past : Past) : Type 0 where
  pub past_is : past ≡ cycles_before old.mission (earlier ++ current) old.done
  pub facts : e ≡ next_cycle old.mission (earlier ++ current) past
  pub steps : Steps
  pub due : AllZip (λ carry entry. IsMadeBy old.mission past e (steps_of steps carry.from) carry entry)
      (carries_through old.done e stop.slot) current
  -- where the tasks slot was passed, its channels worked
  pub full : slot_index Tasks < slot_index stop.slot → AreFull old.mission past e steps
  pub stop_is : stop_in old.done e ≡ Some stop
  pub before : stop_of past ≡ None
  pub mission : new.mission ≡ old.mission
  pub done : new.done ≡ old.done
  pub spent : new.spent ≡ Some (disturbed stop)

-- Memory ran out: the entries are the first of the due ones.
pub record CycleRunsOutOfMemory (old : WorldValue) (earlier current : Log) (new : WorldValue) (e : Cycle)
    (past : Past) : Type 0 where
  pub past_is : past ≡ cycles_before old.mission (earlier ++ current) old.done
  pub facts : e ≡ next_cycle old.mission (earlier ++ current) past
  pub due : AllZip (IsDue old.mission past e) (take (length current) (cycle_carries old.done e)) current
  pub mission : new.mission ≡ old.mission
  pub done : new.done ≡ old.done
  pub spent : new.spent ≡ Some no_memory

-- what a world that is not spent does, by the answer
abbrev pub Ends : WorldValue → Log → Log → Result RecordValue HaltValue → WorldValue → Type 0
Ends old earlier current (Ok part) new = (e : Cycle) × (past : Past) × Finishes old earlier current part new e past
Ends old earlier current (Err (disturbed stop)) new = (e : Cycle) × (past : Past)
    × Stops old earlier current stop new e past
Ends old earlier current (Err no_memory) new = (e : Cycle) × (past : Past)
    × CycleRunsOutOfMemory old earlier current new e past

-- What a call does that passes one cycle. A spent world answers its halt again and carries nothing.
abbrev pub PassesCycle : (List RuleValue → EntryValue → Type 0) → Option HaltValue → WorldValue → BusValue →
    Result RecordValue HaltValue → WorldValue → BusValue → Type 0
PassesCycle may (Some halt) old bus result new bus_after = (result ≡ Err halt) × (new ≡ old) × (bus_after ≡ bus)
PassesCycle may None old bus result new bus_after =
    (now : Log) × Carries may bus bus_after now × (new.carried ≡ old.carried + length now)
    × Ends old (last_entries old.carried bus.log) now result new

-- its condition: a cycle is left, and the last entries of the log stand for a world that is not spent
pub record MayCycle (w : WorldValue) (bus : BusValue) : Type 0 where
  pub below : w.done < w.mission.cycles
  pub stands : w.spent ≡ None → StandsForWorld w (last_entries w.carried bus.log)
