-- A run of a mission with an actuator or without one. Without one each word here says what is said of runs of nine
-- slots. This project's own.
use Rattle.std.specs.Prelude.{◌≡◌, ℕ, suc, Bool, List, [], ◌∷◌, ◌++◌, length, map, Option, Some, None, Result, Ok, Err}
use Rattle.circular_buffer.specs.Buffer.{keep_last}
use Rattle.guards_model.specs.declared.Slot.TheVariants.{Output}
use Rattle.guards_model.specs.BusRules.{RuleValue}
use Rattle.guards_model.specs.Missions.{MissionValue, ActuatorValue}
use Rattle.guards_model.specs.Network.{EntryValue, Log, without_outputs, BusValue}
use Rattle.guards_model.specs.Records.{shown}
use Rattle.guards_model.specs.Rounds.{Histories}
use Rattle.guards_model.specs.Texts.{TextValue, Part, RecordValue, StopValue, cycle_part, head_line, last_line, part_text, text_of_parts, out_line}
use Rattle.guards_runs.specs.Cycles.{Past, cycles_before}
use Rattle.guards_runs.specs.Report.{cycle_parts}
use Rattle.guards_runs.specs.ActedReport.{acted_cycles, acted_parts, acted_report, acted_run_parts}
use Rattle.guards_model.specs.Settled.{SettledValue}
use Rattle.guards_world.specs.Worlds.{WorldValue, HaltValue, disturbed, no_memory}
use Rattle.run_laws.specs.Runs.{HasCarried, HasRunCycles, HasRunToStop, HasRunPart, IsBetween, run_text, short_text, shortened}
use Rattle.output_gate.specs.Gates.{GateValue}
use Rattle.output_gate.specs.Exchanging.{Exchanges}
use Rattle.output_gate.specs.declared.exchange.OutStop.{OutStop}
use Rattle.output_gate.specs.declared.exchange.OutStop.TheVariants as out
use Rattle.run_laws.specs.Acting.{ActedCycles, ActedToStop, ActedPart, IsActing}

-- ---- on the bus

-- the entries that tell the facts of the cycles
abbrev pub facts_log : Option ActuatorValue → Log → Log
facts_log None F = F
facts_log (Some a) F = without_outputs F

-- the first n cycles, the latest first
abbrev pub cycles_told : Option ActuatorValue → MissionValue → Log → ℕ → Past
cycles_told o M F n = cycles_before M (facts_log o F) n

-- the first n cycles ran, none of them stopped, and F has their due entries and no others
abbrev pub CyclesRan : Option ActuatorValue → MissionValue → ℕ → Log → Histories → Type 0
CyclesRan None M n F histories = HasRunCycles M n F histories
CyclesRan (Some a) M n F histories = ActedCycles M a n F (without_outputs F) histories

-- the first n cycles ran, and the next one up to the end of the slot that stopped it
abbrev pub RunStopped : Option ActuatorValue → MissionValue → ℕ → StopValue → Log → Histories → Type 0
RunStopped None M n stop F histories = HasRunToStop M n stop F histories
RunStopped (Some a) M n stop F histories = ActedToStop M a n stop F (without_outputs F) histories

-- the first n cycles ran, and of the next one's due entries the first few were carried, none after a stop
abbrev pub RunBroken : Option ActuatorValue → MissionValue → ℕ → Log → Histories → Type 0
RunBroken None M n F histories = HasRunPart M n F histories
RunBroken (Some a) M n F histories = ActedPart M a n F (without_outputs F) histories

-- the gate of an actuator before the first cycle
abbrev pub first_gate : ActuatorValue → GateValue
first_gate a = record { steps = a.steps; words = a.start }

-- Between two cycles of a run that began with this bus: F is what the log grew by, and with an actuator its gate has
-- the words after these cycles.
abbrev pub IsDriven : Option ActuatorValue → (List RuleValue → EntryValue → Type 0) → MissionValue → BusValue →
    WorldValue → BusValue →
    Option GateValue → Log → Histories → Type 0
IsDriven None may M start w bus gate F histories = IsBetween may M start w bus F F histories × (gate ≡ None)
IsDriven (Some a) may M start w bus gate F histories =
    (g : GateValue) × (gate ≡ Some g) × IsActing may M a start w bus g F (without_outputs F) histories

-- ---- as a text

-- the parts of the first n cycles, with an actuator each with the line of its words
abbrev pub parts_told : Option ActuatorValue → Bool → MissionValue → Log → Histories → ℕ → List Part
parts_told None trace M F histories n = cycle_parts trace M histories (cycles_before M F n)
parts_told (Some a) trace M F histories n = acted_parts trace M a F histories (cycles_before M (without_outputs F) n)

-- the head line and the parts of the first n cycles
abbrev pub parts_driven : Option ActuatorValue → Bool → MissionValue → Log → Histories → ℕ → List Part
parts_driven o trace M F histories n = (head_line M.rules.channels M.cycles ∷ []) ∷ parts_told o trace M F histories n

-- the parts of a whole text of n cycles that did not stop
abbrev pub parts_of_whole : Option ActuatorValue → Bool → MissionValue → Log → Histories → ℕ → List Part
parts_of_whole o trace M F histories n = parts_driven o trace M F histories n ++ (last_line M.cycles None ∷ []) ∷ []

-- the text of a run up to its first stop
abbrev pub told_text : Option ActuatorValue → Bool → MissionValue → Log → Histories → TextValue
told_text None trace M F histories = run_text trace M F histories
told_text (Some a) trace M F histories = acted_report trace M a F histories

-- the short text of a run up to its first stop, with only the last k of its cycles' parts
abbrev pub short_told : ℕ → Option ActuatorValue → Bool → MissionValue → Log → Histories → TextValue
short_told k None trace M F histories = short_text k trace M F histories
short_told k (Some a) trace M F histories =
    text_of_parts (shortened k (acted_run_parts trace M a F histories (acted_cycles M F)))

-- the texts of the last k of n cycles, or of all where they are fewer
abbrev pub last_told : ℕ → Option ActuatorValue → Bool → MissionValue → Log → Histories → ℕ → List TextValue
last_told k o trace M F histories n = keep_last k (map part_text (parts_told o trace M F histories n))

-- ---- one more cycle

-- a part, with the line of an actuator's words
abbrev pub with_words : Option GateValue → Part → Part
with_words None part = part
with_words (Some gate) part = part ++ out_line gate.words ∷ []

-- how a run halts where its actuator's words did not move
abbrev pub exchange_halt : RecordValue → OutStop → HaltValue
exchange_halt part (out.Disturbed set) =
    disturbed (record { cycle = part.cycle; slot = Output; set = set; active = part.active })
exchange_halt part out.NoMemory = no_memory

-- what an exchange ends with
abbrev pub exchange_end : RecordValue → Result (Unit {0}) OutStop → Result (Unit {0}) HaltValue
exchange_end part (Ok _) = Ok tt
exchange_end part (Err stop) = Err (exchange_halt part stop)

-- the exchange of a finished cycle with this record, by what is known of it: with no gate there is none
abbrev pub Exchanged : (List RuleValue → EntryValue → Type 0) → ℕ → RecordValue → Option SettledValue → BusValue →
    BusValue →
    Option GateValue → Option GateValue → Result (Unit {0}) HaltValue → Type 0
Exchanged may version part settled bus after None gate_after result = (gate_after ≡ None) × (after ≡ bus)
    × (result ≡ Ok tt)
Exchanged may version part settled bus after (Some gate) gate_after result =
    (s : SettledValue) × (settled ≡ Some s) × (g : GateValue) × (gate_after ≡ Some g) × (after.script ≡ bus.script)
    × (r : Result (Unit {0}) OutStop) × Exchanges may bus.script version part s bus.log after.log gate g r
    × (result ≡ exchange_end part r)

-- the answer of a cycle whose exchange ended so
abbrev pub with_part : RecordValue → Result (Unit {0}) HaltValue → Result RecordValue HaltValue
with_part part (Ok _) = Ok part
with_part part (Err halt) = Err halt

-- What the next cycle of a run does with its exchange, by the answer: the run goes on by the cycle, which its record
-- and the gate's words tell; or it stops, or breaks off. The parts of the earlier cycles stay.
abbrev pub Drives : Option ActuatorValue → (List RuleValue → EntryValue → Type 0) → MissionValue → BusValue →
    WorldValue → Log → Histories →
    Result RecordValue HaltValue → WorldValue → BusValue → Option GateValue → Type 0
Drives o may M start w F histories (Ok part) new after gate =
    (G : Log) × (more : Histories) × IsDriven o may M start new after gate G more × (new.done ≡ suc w.done)
    × ((trace : Bool) → parts_told o trace M G more (suc w.done)
    ≡ parts_told o trace M F histories w.done
    ++ with_words gate (cycle_part trace (shown M.rules.channels M.width (length M.outputs) part)) ∷ [])
Drives o may M start w F histories (Err (disturbed stop)) new after gate =
    (G : Log) × HasCarried may M start after G × RunStopped o M w.done stop G histories
    × RunBroken o M w.done G histories
    × ((trace : Bool) → parts_told o trace M G histories w.done ≡ parts_told o trace M F histories w.done)
Drives o may M start w F histories (Err no_memory) new after gate =
    (G : Log) × HasCarried may M start after G × RunBroken o M w.done G histories
    × ((trace : Bool) → parts_told o trace M G histories w.done ≡ parts_told o trace M F histories w.done)
