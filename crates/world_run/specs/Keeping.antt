-- What running a mission and telling its last cycles does, by its answer. This project's own.
use Rattle.std.specs.Prelude.{◌≡◌, ℕ, ◌-◌, Bool, List, ◌∷◌, [], ◌++◌, flat_map, Option, Result, Ok, Err}
use Rattle.std.specs.Io.KnownBytes.{Appends}
use Rattle.circular_buffer.specs.Buffer.{keep_last}
use Rattle.flight_log.specs.Kept.{Kept, kept}
use Rattle.guards_io.specs.declared.Failed.{Failed}
use Rattle.guards_io.specs.Causes.{Rose}
use Rattle.guards_model.specs.BusRules.{RuleValue}
use Rattle.guards_model.specs.Missions.{ActuatorValue, MissionValue}
use Rattle.guards_model.specs.Network.{EntryValue, Log, BusValue}
use Rattle.guards_model.specs.Rounds.{Histories}
use Rattle.guards_model.specs.Texts.{TextValue, StopValue, stop_line}
use Rattle.guards_world.specs.Worlds.{WorldValue}
use Rattle.icn_world.specs.declared.world.Halt.{Halt}
use Rattle.icn_world.specs.declared.world.Halt.TheVariants as halt
use Rattle.guards_io.specs.Writes.{AppendsPart, WritesLine}
use Rattle.guards_io.specs.Views.{SinkView}
use Rattle.run_laws.specs.Runs.{HasCarried, with_unfinished}
use Rattle.output_gate.specs.Gates.{GateValue}
use Rattle.run_laws.specs.Driving.{CyclesRan, RunStopped, RunBroken, IsDriven, last_told, short_told}
use Rattle.world_run.specs.declared.stop.RunStop.{RunStop}
use Rattle.world_run.specs.declared.stop.RunStop.TheVariants.{Halted, WriteFault}
use Rattle.world_run.specs.Running.{stop_text, stop_value}

-- what handing a text to a sink does: it was written, or the sink failed and a front of it was
abbrev pub HandsOver : SinkView → SinkView → TextValue → Result (Unit {0}) Failed → Type 0
HandsOver old new text (Ok _) = Appends old.written new.written text × (new.faults ≡ old.faults)
HandsOver old new text (Err _) = AppendsPart old.written new.written text × Rose old.faults new.faults

-- a head line, and the texts that were kept
abbrev pub kept_text : TextValue → List TextValue → TextValue
kept_text head texts = head ++ flat_map (λ text. text) texts

-- what keeping a text does: the log has it, or there was no memory for it
abbrev pub Keeps : Kept → Kept → TextValue → Result (Unit {0}) Halt → Type 0
Keeps old new text (Ok _) = new ≡ kept (keep_last old.room (old.parts ++ text ∷ [])) old.room
Keeps old new text (Err h) = h ≡ halt.NoMemory

module _ (may : List RuleValue → EntryValue → Type 0) (k : ℕ) (trace : Bool) (M : MissionValue)
    (o : Option ActuatorValue) where
  -- ---- what a run does that tells its last k cycles

  -- All cycles ran, none stopped, and the short text was written; where it is traced, by full histories whose copies
  -- were sent.
  abbrev pub RunsWholeLast : BusValue → BusValue → SinkView → SinkView → Type 0
  RunsWholeLast bus bus' out out' =
      (L : Log) × (histories : Histories) × HasCarried may M bus bus' L × CyclesRan o M M.cycles L histories
      × Appends out.written out'.written (short_told k o trace M L histories) × (out'.faults ≡ out.faults)

  -- The cycles before the stop ran, and its own up to the end of its slot. The short text, which ends with the stop's
  -- line, was written, or, only where the sink's faults rose, a front of it.
  abbrev pub RunsToStopLast : StopValue → BusValue → BusValue → SinkView → SinkView → Type 0
  RunsToStopLast stop bus bus' out out' =
      (L : Log) × (histories : Histories) × (before : TextValue) × HasCarried may M bus bus' L
      × RunStopped o M stop.cycle stop L histories
      × (short_told k o trace M L (with_unfinished (M.cycles - stop.cycle) histories) ≡ before ++ stop_line stop)
      × WritesLine out out' (before ++ stop_line stop)

  -- All cycles ran, none stopped, and the sink failed: a front of the short text that is not all of it was written.
  abbrev pub RunsUnwrittenLast : BusValue → BusValue → SinkView → SinkView → Type 0
  RunsUnwrittenLast bus bus' out out' =
      (L : Log) × (histories : Histories) × HasCarried may M bus bus' L × CyclesRan o M M.cycles L histories
      × AppendsPart out.written out'.written (short_told k o trace M L histories) × Rose out.faults out'.faults

  -- Memory ran out, before anything was written: some cycles ran, and a front of the next one's entries was carried,
  -- none after a stop.
  abbrev pub RunsShortLast : BusValue → BusValue → SinkView → SinkView → Type 0
  RunsShortLast bus bus' out out' =
      (L : Log) × (histories : Histories) × (n : ℕ) × HasCarried may M bus bus' L × RunBroken o M n L histories
      × (out' ≡ out)

  -- What running the mission and telling its last k cycles does, by its answer.
  abbrev pub RunsLast : BusValue → BusValue → SinkView → SinkView → Result (Unit {0}) RunStop → Type 0
  RunsLast bus bus' out out' (Ok _) = RunsWholeLast bus bus' out out'
  RunsLast bus bus' out out' (Err (Halted (halt.Disturbed cycle slot set active))) =
      RunsToStopLast (stop_value cycle slot set active) bus bus' out out'
  RunsLast bus bus' out out' (Err WriteFault) = RunsUnwrittenLast bus bus' out out'
  RunsLast bus bus' out out' (Err (Halted halt.NoMemory)) = RunsShortLast bus bus' out out'

  -- ---- what is kept of its cycles

  -- Between two cycles of a run that began with this bus, the parts of the last k were kept.
  abbrev pub IsKept : BusValue → WorldValue → BusValue → Option GateValue → Kept → Type 0
  IsKept start w bus gate log =
      (L : Log) × (histories : Histories) × IsDriven o may M start w bus gate L histories
      × (log ≡ kept (last_told k o trace M L histories w.done) k)

  -- the cycles before the stop ran, and its own up to the end of its slot; the parts of the last k before it were kept
  abbrev pub KeptToStop : StopValue → BusValue → BusValue → Kept → Type 0
  KeptToStop stop start bus log =
      (L : Log) × (histories : Histories) × HasCarried may M start bus L × RunStopped o M stop.cycle stop L histories
      × RunBroken o M stop.cycle L histories
      × (log ≡ kept (last_told k o trace M L histories stop.cycle) k)

  -- what was kept at a halt
  abbrev pub KeptToHalt : Halt → BusValue → BusValue → Kept → Type 0
  KeptToHalt (halt.Disturbed cycle slot set active) start bus log =
      KeptToStop (stop_value cycle slot set active) start bus log
  KeptToHalt halt.NoMemory start bus log = (L : Log) × (histories : Histories) × (n : ℕ) × HasCarried may M start bus L
      × RunBroken o M n L histories

  -- what goes on with the run until n cycles ran does, by its answer
  abbrev pub KeepsTo : BusValue → ℕ → WorldValue → BusValue → Option GateValue → Kept → Result (Unit {0}) Halt → Type 0
  KeepsTo start n w bus gate log (Ok _) = IsKept start w bus gate log × (w.done ≡ n)
  KeepsTo start n w bus gate log (Err h) = KeptToHalt h start bus log

-- what telling a halt does, behind what was kept: all of it and the stop's line were written, or there was no memory
-- for it
abbrev pub TellsKept : Halt → TextValue → SinkView → SinkView → RunStop → Type 0
TellsKept (halt.Disturbed cycle slot set active) before old new (Halted (halt.Disturbed cycle' slot' set' active')) =
    (stop_value cycle' slot' set' active' ≡ stop_value cycle slot set active)
    × WritesLine old new (before ++ stop_text (stop_value cycle slot set active))
TellsKept (halt.Disturbed cycle slot set active) before old new WriteFault = ⊥
TellsKept (halt.Disturbed cycle slot set active) before old new (Halted halt.NoMemory) = new ≡ old
TellsKept halt.NoMemory before old new stop = (stop ≡ (Halted halt.NoMemory)) × (new ≡ old)
