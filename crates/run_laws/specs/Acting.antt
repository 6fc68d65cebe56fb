-- A run of a mission with an actuator: what its cycles and their exchanges leave on the bus. This project's own.
use Rattle.std.specs.Prelude.{◌≡◌, ◌≤◌, ◌<◌, ℕ, List, [], ◌∷◌, ◌++◌, length, take, None, Some}
use Rattle.std.specs.List.{AllZip, AllByRecursion}
use Rattle.guards_model.specs.declared.Slot.{Slot}
use Rattle.guards_model.specs.declared.Slot.TheVariants.{Tasks, Switch, Output}
use Rattle.guards_model.specs.Slots.{slot_index}
use Rattle.guards_model.specs.BusRules.{RuleValue}
use Rattle.guards_model.specs.Channels.{place_or}
use Rattle.guards_model.specs.Missions.{MissionValue, ActuatorValue}
use Rattle.guards_model.specs.Network.{EntryValue, Log, without_outputs, BusValue}
use Rattle.guards_model.specs.Rounds.{Steps, Histories, steps_of}
use Rattle.guards_model.specs.Texts.{StopValue}
use Rattle.guards_runs.specs.Cycles.{Cycle, Past, this_cycle, cycles_before, cycle_at}
use Rattle.guards_runs.specs.Disturbed.{stop_in, first_of_two}
use Rattle.guards_runs.specs.Due.{IsDue, IsMadeBy, AreMadeBy, cycle_carries, carries_through}
use Rattle.guards_runs.specs.Report.{latest_steps, earlier_steps, channels_running_in}
use Rattle.guards_runs.specs.Soundness.{IsSound}
use Rattle.guards_world.specs.Worlds.{WorldValue}
use Rattle.guards_world.specs.WorldCycle.{AreFull}
use Rattle.world_laws.specs.Fronts.{IsUpToStop}
use Rattle.run_laws.specs.Runs.{IsBetween}
use Rattle.guards_model.specs.Actuators.{voted_words}
use Rattle.guards_runs.specs.Outputs.{IsOutputDue, AreOutputsDue, acted_stop, output_stop, words_after, ideal_outputs}
use Rattle.output_gate.specs.Gates.{GateValue}

-- ---- on the bus

-- The entries of some cycles, the latest of which stands first: those of each cycle's nine slots are made by the steps
-- beside it, whose channels' steps are full, and those of its output slot follow.
abbrev pub AreActedBy : MissionValue → Histories → Past → Log → Type 0
AreActedBy M histories [] entries = entries ≡ []
AreActedBy M histories (e ∷ past) entries =
    (before now outs : Log) × (entries ≡ before ++ (now ++ outs)) × AreActedBy M (earlier_steps histories) past before
    × AreMadeBy M (latest_steps histories) past e now × AreFull M past e (latest_steps histories)
    × AreOutputsDue M.rules.version (this_cycle past) e outs

-- the first few output entries of a cycle
abbrev pub AreOutputsBegun : ℕ → ℕ → Cycle → Log → Type 0
AreOutputsBegun version c e outs =
    AllZip (λ q entry. IsOutputDue version c q (voted_words (place_or e.voted q [])) entry)
    (take (length outs) (channels_running_in Switch e)) outs

-- the output entries of a cycle up to the end of a slot: none before the output slot
abbrev pub AreOutputsThrough : Slot → ℕ → ℕ → Cycle → Log → Type 0
AreOutputsThrough Output version c e outs = AreOutputsDue version c e outs
AreOutputsThrough _ version c e outs = outs ≡ []

-- The first n cycles ran, each with its exchange; none of them stopped, its output slot included, and F has their due
-- entries and no others. The facts of the cycles are those of L, those of F without output entries. After each cycle
-- the actuator's words are those that the output words of the ideal contexts moved them to.
pub record ActedCycles (M : MissionValue) (a : ActuatorValue) (n : ℕ) (F L : Log) (histories : Histories) : Type 0 where
  pub within : n ≤ M.cycles
  pub beside : length histories ≡ n
  pub acted : AreActedBy M histories (cycles_before M L n) F
  pub unstopped : acted_stop F (cycles_before M L n) ≡ None
  pub sound : IsSound M L n
  pub ideal : (c : ℕ) → c ≤ n → words_after M a F c ≡ ideal_outputs M a.steps a.start L c

-- The first n cycles ran, and the next one up to the end of the slot that stopped it, which may be the output slot.
pub record ActedToStop (M : MissionValue) (a : ActuatorValue) (n : ℕ) (stop : StopValue) (F L : Log)
    (histories : Histories) : Type 0 where
  pub within : n < M.cycles
  pub beside : length histories ≡ n
  pub before : Log
  pub now : Log
  pub outs : Log
  pub entries : F ≡ before ++ (now ++ outs)
  pub acted : AreActedBy M histories (cycles_before M L n) before
  pub steps : Steps
  pub due_now : AllZip (λ carry entry.
      IsMadeBy M (cycles_before M L n) (cycle_at M L n) (steps_of steps carry.from) carry entry)
      (carries_through n (cycle_at M L n) stop.slot) now
  pub due_outs : AreOutputsThrough stop.slot M.rules.version n (cycle_at M L n) outs
  pub full : slot_index Tasks < slot_index stop.slot → AreFull M (cycles_before M L n) (cycle_at M L n) steps
  pub unstopped : acted_stop F (cycles_before M L n) ≡ None
  pub stopped : first_of_two (stop_in n (cycle_at M L n)) (output_stop n (cycle_at M L n) F) ≡ Some stop
  pub sound : IsSound M L n
  pub ideal : (c : ℕ) → c ≤ n → words_after M a F c ≡ ideal_outputs M a.steps a.start L c

-- The first n cycles ran, and of the next one's due entries the first few were carried: of a cycle that the mission
-- has, none after a slot that stops the run, and output entries only behind all those of the nine slots.
pub record ActedPart (M : MissionValue) (a : ActuatorValue) (n : ℕ) (F L : Log) (histories : Histories) : Type 0 where
  pub within : n ≤ M.cycles
  pub beside : length histories ≡ n
  pub before : Log
  pub now : Log
  pub outs : Log
  pub entries : F ≡ before ++ (now ++ outs)
  pub acted : AreActedBy M histories (cycles_before M L n) before
  pub due_now : AllZip (IsDue M (cycles_before M L n) (cycle_at M L n))
      (take (length now) (cycle_carries n (cycle_at M L n))) now
  pub due_outs : AreOutputsBegun M.rules.version n (cycle_at M L n) outs
  pub behind : 0 < length outs → length now ≡ length (cycle_carries n (cycle_at M L n))
  pub passed : 0 < length outs → stop_in n (cycle_at M L n) ≡ None
  pub left : 0 < length (now ++ outs) → n < M.cycles
  pub up_to_stop : IsUpToStop M (without_outputs before) now n
  pub unstopped : acted_stop F (cycles_before M L n) ≡ None
  pub sound : IsSound M L n
  pub ideal : (c : ℕ) → c ≤ n → words_after M a F c ≡ ideal_outputs M a.steps a.start L c

-- ---- between two cycles

-- Between two cycles of a run with an actuator: F is what the log grew by. The cycles are those of L, which is F
-- without output entries; no slot stopped them, the output slot included; and the actuator's words are those of what it
-- took, which are after each cycle those that the output words of the ideal contexts moved them to.
pub record IsActing (may : List RuleValue → EntryValue → Type 0) (M : MissionValue) (a : ActuatorValue)
    (start : BusValue) (w : WorldValue)
    (bus : BusValue) (gate : GateValue) (F L : Log) (histories : Histories) : Type 0 where
  pub sizes : length a.start ≡ length M.outputs
  pub between : IsBetween may M start w bus F L histories
  pub acted : AreActedBy M histories (cycles_before M L w.done) F
  pub earlier : AllByRecursion (λ (e : EntryValue). e.cycle < w.done) F
  pub unstopped : acted_stop F (cycles_before M L w.done) ≡ None
  pub gate_is : gate ≡ record { steps = a.steps; words = words_after M a F w.done }
  pub ideal : (c : ℕ) → c ≤ w.done → words_after M a F c ≡ ideal_outputs M a.steps a.start L c
