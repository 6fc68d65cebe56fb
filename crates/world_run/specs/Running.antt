-- What running a mission does, by its answer. This project's own.
use Rattle.std.specs.Prelude.{◌≡◌, ◌<◌, ◌⊎◌, ℕ, ◌-◌, Bool, List, [], ◌∷◌, ◌++◌, length, min, Option, None, Some, Result, Ok, Err}
use Rattle.std.specs.Io.KnownBytes.{Appends}
use Rattle.guards_io.specs.Causes.{Rose}
use Rattle.guards_model.specs.declared.Slot.{Slot}
use Rattle.guards_model.specs.BusRules.{RuleValue}
use Rattle.guards_model.specs.Channels.{ChannelSet}
use Rattle.guards_model.specs.Missions.{MissionValue, ActuatorValue}
use Rattle.guards_model.specs.Network.{EntryValue, Log, BusValue}
use Rattle.guards_model.specs.Rounds.{Histories}
use Rattle.guards_model.specs.Records.{shown}
use Rattle.guards_model.specs.Texts.{TextValue, Part, RecordValue, StopValue, part_text, text_of_parts, cycle_part, out_line, stop_line}
use Rattle.guards_world.specs.Worlds.{WorldValue}
use Rattle.guards_io.specs.Writes.{AppendsFront, WritesLine}
use Rattle.guards_io.specs.Views.{SinkView}
use Rattle.guards_io.specs.declared.writing.WriteStop.{WriteStop}
use Rattle.guards_io.specs.declared.writing.WriteStop.TheVariants as write
use Rattle.icn_world.specs.declared.world.Halt.{Halt}
use Rattle.icn_world.specs.declared.world.Halt.TheVariants as halt
use Rattle.run_laws.specs.Runs.{HasCarried, with_unfinished}
use Rattle.output_gate.specs.Gates.{GateValue}
use Rattle.run_laws.specs.Driving.{CyclesRan, RunStopped, RunBroken, IsDriven, parts_of_whole, parts_driven, told_text}
use Rattle.world_run.specs.declared.stop.RunStop.{RunStop}
use Rattle.world_run.specs.declared.stop.RunStop.TheVariants.{Halted, WriteFault}

abbrev pub stop_value : ℕ → Slot → ChannelSet → ChannelSet → StopValue
stop_value cycle slot set active = record { cycle = cycle; slot = slot; set = set; active = active }

-- ---- what is written

-- the part of a cycle, as a text
unfoldable pub bare_text : Bool → MissionValue → RecordValue → TextValue
bare_text trace M part = part_text (cycle_part trace (shown M.rules.channels M.width (length M.outputs) part))

-- the line of an actuator's words, if there is one
abbrev pub words_line : Option GateValue → TextValue
words_line None = []
words_line (Some gate) = out_line gate.words

-- the part of a cycle, with the line of an actuator's words behind it
unfoldable pub cycle_text : Bool → MissionValue → Option GateValue → RecordValue → TextValue
cycle_text trace M gate part = bare_text trace M part ++ words_line gate

-- the line of a stop
unfoldable pub stop_text : StopValue → TextValue
stop_text stop = stop_line stop

-- Of these parts in their order the first `whole` were written, and of the next one a front that is not all of it.
pub record WroteParts (old new : Option (List ℕ)) (parts : List Part) (whole : ℕ) : Type 0 where
  pub written : List Part
  pub next : Part
  pub rest : List Part
  pub order : parts ≡ written ++ next ∷ rest
  pub count : length written ≡ whole
  pub front : TextValue
  pub tail : TextValue
  pub cut : part_text next ≡ front ++ tail
  pub proper : 0 < length tail
  pub grew : Appends old new (text_of_parts written ++ front)

-- A text with its last line was written, or, only where the sink's faults rose, all but an end of this line.
abbrev pub EndsWith : SinkView → SinkView → TextValue → TextValue → Type 0
EndsWith old new before line =
    (Appends old.written new.written (before ++ line) × (new.faults ≡ old.faults))
    ⊎ ((front tail : TextValue) × (line ≡ front ++ tail) × (0 < length tail)
    × Appends old.written new.written (before ++ front)
    × Rose old.faults new.faults)

-- ---- what a run does

module _ (may : List RuleValue → EntryValue → Type 0) (trace : Bool) (M : MissionValue) (o : Option ActuatorValue) where
  -- All cycles ran, none stopped, and the report was written; where it is traced, by full histories whose copies were
  -- sent.
  abbrev pub RunsWhole : BusValue → BusValue → SinkView → SinkView → Type 0
  RunsWhole bus bus' out out' =
      (L : Log) × (histories : Histories) × HasCarried may M bus bus' L × CyclesRan o M M.cycles L histories
      × Appends out.written out'.written (told_text o trace M L histories) × (out'.faults ≡ out.faults)

  -- The cycles before the stop ran, and its own up to the end of its slot. The report ends with the stop's line.
  abbrev pub RunsToStop : StopValue → BusValue → BusValue → SinkView → SinkView → Type 0
  RunsToStop stop bus bus' out out' =
      (L : Log) × (histories : Histories) × (before : TextValue) × HasCarried may M bus bus' L
      × RunStopped o M stop.cycle stop L histories
      × (told_text o trace M L (with_unfinished (M.cycles - stop.cycle) histories) ≡ before ++ stop_line stop)
      × EndsWith out out' before (stop_line stop)

  -- The sink failed in the part after the first `whole` ones: so many cycles ran as have a part that was begun, each
  -- with its exchange, which comes before its part.
  abbrev pub RunsToWriteFault : BusValue → BusValue → SinkView → SinkView → Type 0
  RunsToWriteFault bus bus' out out' =
      (L : Log) × (histories : Histories) × (whole : ℕ) × HasCarried may M bus bus' L
      × CyclesRan o M (min whole M.cycles) L histories
      × WroteParts out.written out'.written (parts_of_whole o trace M L histories (min whole M.cycles)) whole
      × Rose out.faults out'.faults

  -- Memory ran out: some cycles ran, and a front of the next one's entries was carried, none after a stop; a front of
  -- the text was written.
  abbrev pub RunsOutOfMemory : BusValue → BusValue → SinkView → SinkView → Type 0
  RunsOutOfMemory bus bus' out out' =
      (L : Log) × (histories : Histories) × (n : ℕ) × HasCarried may M bus bus' L × RunBroken o M n L histories
      × AppendsFront out.written out'.written (text_of_parts (parts_driven o trace M L histories n))
      × (out'.faults ≡ out.faults)

  -- What running the mission does, by its answer.
  abbrev pub Runs : BusValue → BusValue → SinkView → SinkView → Result (Unit {0}) RunStop → Type 0
  Runs bus bus' out out' (Ok _) = RunsWhole bus bus' out out'
  Runs bus bus' out out' (Err (Halted (halt.Disturbed cycle slot set active))) =
      RunsToStop (stop_value cycle slot set active) bus bus' out out'
  Runs bus bus' out out' (Err WriteFault) = RunsToWriteFault bus bus' out out'
  Runs bus bus' out out' (Err (Halted halt.NoMemory)) = RunsOutOfMemory bus bus' out out'

  -- Between two cycles of a run that began with this bus and this sink: the head line and the parts of the cycles were
  -- written.
  abbrev pub IsAt : BusValue → SinkView → WorldValue → BusValue → Option GateValue → SinkView → Type 0
  IsAt start begun w bus gate out =
      (L : Log) × (histories : Histories) × IsDriven o may M start w bus gate L histories
      × Appends begun.written out.written (text_of_parts (parts_driven o trace M L histories w.done))
      × (out.faults ≡ begun.faults)

  -- what goes on with the run until n cycles ran does, by its answer
  abbrev pub GoesTo : BusValue → SinkView → ℕ → WorldValue → BusValue → Option GateValue → SinkView →
      Result (Unit {0}) RunStop → Type 0
  GoesTo start begun n w bus gate out (Ok _) = IsAt start begun w bus gate out × (w.done ≡ n)
  GoesTo start begun n w bus gate out (Err stop) = Runs start bus begun out (Err stop)

-- what telling a stop does: its line was written, or there was no memory for it
abbrev pub TellsStop : StopValue → SinkView → SinkView → RunStop → Type 0
TellsStop stop old new (Halted (halt.Disturbed cycle slot set active)) = (stop_value cycle slot set active ≡ stop)
    × WritesLine old new (stop_text stop)
TellsStop stop old new WriteFault = ⊥
TellsStop stop old new (Halted halt.NoMemory) = new ≡ old

-- what telling a halt does
abbrev pub TellsHalt : Halt → SinkView → SinkView → RunStop → Type 0
TellsHalt (halt.Disturbed cycle slot set active) old new stop =
    TellsStop (stop_value cycle slot set active) old new stop
TellsHalt halt.NoMemory old new stop = (stop ≡ (Halted halt.NoMemory)) × (new ≡ old)

-- how a run ends where a part was not written
abbrev pub run_told_by : Result (Unit {0}) WriteStop → Result (Unit {0}) RunStop
run_told_by (Ok done) = Ok done
run_told_by (Err write.Failed) = Err WriteFault
run_told_by (Err write.Memory) = Err (Halted halt.NoMemory)
