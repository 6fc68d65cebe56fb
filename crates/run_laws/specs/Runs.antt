-- What the cycles of a run leave on the bus, and the text that tells them. This project's own.
use Rattle.std.specs.Prelude.{◌≡◌, ◌≤◌, ◌<◌, ℕ, Bool, true, false, List, [], ◌∷◌, ◌++◌, length, map, flat_map, take, replicate, suc, Some, None, Result, Ok, Err}
use Rattle.std.specs.List.{AllZip, AllByRecursion}
use Rattle.circular_buffer.specs.Buffer.{keep_last}
use Rattle.guards_model.specs.declared.Slot.TheVariants.{Tasks}
use Rattle.guards_model.specs.Slots.{slot_index}
use Rattle.guards_model.specs.Missions.{MissionValue, bus_rules}
use Rattle.guards_model.specs.BusRules.{RuleValue}
use Rattle.guards_model.specs.Network.{EntryValue, Log, without_outputs, BusValue}
use Rattle.guards_model.specs.Rounds.{Steps, Histories, steps_of}
use Rattle.guards_model.specs.Records.{shown}
use Rattle.guards_model.specs.Texts.{TextValue, Part, RecordValue, StopValue, head_line, part_text, text_of_parts}
use Rattle.guards_runs.specs.Cycles.{Past, cycles_before, cycle_at}
use Rattle.guards_runs.specs.Disturbed.{stop_in, stop_of}
use Rattle.guards_runs.specs.Due.{IsDue, IsMadeBy, AreMadeBy, cycle_carries, carries_through}
use Rattle.guards_runs.specs.Soundness.{IsSound}
use Rattle.guards_runs.specs.Report.{cycle_record, latest_steps, earlier_steps, cycle_parts, report, report_parts, traced, traced_parts}
use Rattle.guards_world.specs.Worlds.{WorldValue, HaltValue, disturbed, no_memory, StandsForWorld}
use Rattle.guards_world.specs.WorldCycle.{AreFull}
use Rattle.world_laws.specs.Fronts.{IsUpToStop}

-- ---- on the bus

-- The entries of some cycles, the latest of which stands first: those of each are made by the steps beside it, and the
-- steps of each channel that worked in it are full.
abbrev pub AreDueBy : MissionValue → Histories → Past → Log → Type 0
AreDueBy M histories [] entries = entries ≡ []
AreDueBy M histories (e ∷ past) entries =
    (before now : Log) × (entries ≡ before ++ now) × AreDueBy M (earlier_steps histories) past before
    × AreMadeBy M (latest_steps histories) past e now × AreFull M past e (latest_steps histories)

-- The bus has the mission's rules, and its log grew by these entries, each as the bus may.
pub record HasCarried (may : List RuleValue → EntryValue → Type 0) (M : MissionValue) (old new : BusValue)
    (L : Log) : Type 0 where
  pub log : new.log ≡ old.log ++ L
  pub script : new.script ≡ bus_rules M
  pub each : AllByRecursion (may (bus_rules M)) L

-- The first n cycles of the mission ran, none of them stopped, and L has their due entries and no others. Histories
-- stand beside the cycles. So the cycles are sound: agreement, restoration and joins.
pub record HasRunCycles (M : MissionValue) (n : ℕ) (L : Log) (histories : Histories) : Type 0 where
  pub within : n ≤ M.cycles
  pub beside : length histories ≡ n
  pub due : AreDueBy M histories (cycles_before M L n) L
  pub unstopped : stop_of (cycles_before M L n) ≡ None
  pub sound : IsSound M L n

-- The first n cycles ran, and the next one up to the end of the slot that stopped it.
pub record HasRunToStop (M : MissionValue) (n : ℕ) (stop : StopValue) (L : Log) (histories : Histories) : Type 0 where
  pub within : n < M.cycles
  pub beside : length histories ≡ n
  pub before : Log
  pub now : Log
  pub entries : L ≡ before ++ now
  pub due : AreDueBy M histories (cycles_before M L n) before
  pub steps : Steps
  pub due_now : AllZip (λ carry entry.
      IsMadeBy M (cycles_before M L n) (cycle_at M L n) (steps_of steps carry.from) carry entry)
      (carries_through n (cycle_at M L n) stop.slot) now
  pub full : slot_index Tasks < slot_index stop.slot → AreFull M (cycles_before M L n) (cycle_at M L n) steps
  pub unstopped : stop_of (cycles_before M L n) ≡ None
  pub stopped : stop_in n (cycle_at M L n) ≡ Some stop
  pub sound : IsSound M L n

-- The first n cycles ran, and of the next one's due entries the first few were carried: of a cycle that the mission
-- has, and none after the slot that stops the run.
pub record HasRunPart (M : MissionValue) (n : ℕ) (L : Log) (histories : Histories) : Type 0 where
  pub within : n ≤ M.cycles
  pub beside : length histories ≡ n
  pub before : Log
  pub now : Log
  pub entries : L ≡ before ++ now
  pub due : AreDueBy M histories (cycles_before M L n) before
  pub due_now : AllZip (IsDue M (cycles_before M L n) (cycle_at M L n))
      (take (length now) (cycle_carries n (cycle_at M L n))) now
  pub left : 0 < length now → n < M.cycles
  pub up_to_stop : IsUpToStop M before now n
  pub unstopped : stop_of (cycles_before M L n) ≡ None
  pub sound : IsSound M L n

-- Between two cycles of a run that began with this bus: what the log grew by, F, stands for the world without its
-- output entries. L is that list.
pub record IsBetween (may : List RuleValue → EntryValue → Type 0) (M : MissionValue) (start : BusValue) (w : WorldValue)
    (bus : BusValue)
    (F L : Log) (histories : Histories) : Type 0 where
  pub mission : w.mission ≡ M
  pub unspent : w.spent ≡ None
  pub ran : HasCarried may M start bus F
  pub apart : without_outputs F ≡ L
  pub stands : StandsForWorld w L
  pub beside : length histories ≡ w.done
  pub due : AreDueBy M histories (cycles_before M L w.done) L

-- What the next cycle of a run does, by its answer: the run goes on by the cycle and its record tells it, the cycle
-- stops the run, or it breaks the run off. The facts of the earlier cycles stay.
abbrev pub PassesOn : (List RuleValue → EntryValue → Type 0) → MissionValue → BusValue → WorldValue → Log → Log →
    Histories →
    Result RecordValue HaltValue → WorldValue → BusValue → Type 0
PassesOn may M start w F earlier histories (Ok part) new bus =
    (current : Log) × (steps : Steps)
    × IsBetween may M start new bus (F ++ current) (earlier ++ current) (steps ∷ histories)
    × (new.done ≡ suc w.done)
    × AreMadeBy M steps (cycles_before M (earlier ++ current) w.done) (cycle_at M (earlier ++ current) w.done) current
    × AreFull M (cycles_before M (earlier ++ current) w.done) (cycle_at M (earlier ++ current) w.done) steps
    × (cycles_before M (earlier ++ current) w.done ≡ cycles_before M earlier w.done)
    × (shown M.rules.channels M.width (length M.outputs) part
    ≡ cycle_record M steps w.done (cycle_at M (earlier ++ current) w.done))
PassesOn may M start w F earlier histories (Err (disturbed stop)) new bus =
    (current : Log) × HasCarried may M start bus (F ++ current)
    × HasRunToStop M w.done stop (earlier ++ current) histories
    × (cycles_before M (earlier ++ current) w.done ≡ cycles_before M earlier w.done)
PassesOn may M start w F earlier histories (Err no_memory) new bus =
    (current : Log) × HasCarried may M start bus (F ++ current) × HasRunPart M w.done (earlier ++ current) histories
    × (cycles_before M (earlier ++ current) w.done ≡ cycles_before M earlier w.done)

-- ---- as a text

-- the head line and the parts of some cycles
abbrev pub parts_so_far : Bool → MissionValue → Histories → Past → List Part
parts_so_far trace M histories cycles =
    (head_line M.rules.channels M.cycles ∷ []) ∷ cycle_parts trace M histories cycles

-- the text of a run up to its first stop: the report, or with the trace lines of the histories beside all its cycles
abbrev pub run_text : Bool → MissionValue → Log → Histories → TextValue
run_text false M L histories = report M L
run_text true M L histories = traced M L histories

-- its parts: the head line, the part of each cycle, and the last line
abbrev pub run_text_parts : Bool → MissionValue → Log → Histories → List Part
run_text_parts false M L histories = report_parts M L
run_text_parts true M L histories = traced_parts M L histories

-- of such parts the first one, the last k of the cycles' parts, or all where they are fewer, and the last line
abbrev pub shortened : ℕ → List Part → List Part
shortened k [] = []
shortened k (first ∷ rest) = first ∷ keep_last (suc k) rest

-- the short text of a run up to its first stop, with only the last k of its cycles' parts
abbrev pub short_text : ℕ → Bool → MissionValue → Log → Histories → TextValue
short_text k trace M L histories = text_of_parts (shortened k (run_text_parts trace M L histories))

-- the texts of the last k parts of some cycles, or of all where they are fewer
abbrev pub last_texts : ℕ → Bool → MissionValue → Histories → Past → List TextValue
last_texts k trace M histories cycles = keep_last k (map part_text (cycle_parts trace M histories cycles))

-- the head line and these texts
abbrev pub with_head : MissionValue → List TextValue → TextValue
with_head M texts = head_line M.rules.channels M.cycles ++ flat_map (λ text. text) texts

-- the histories of the cycles before a stop, beside those and so many cycles that did not finish
abbrev pub with_unfinished : ℕ → Histories → Histories
with_unfinished count histories = replicate count [] ++ histories
