-- What the command `audit` does, by the status.
use Rattle.std.specs.Prelude.{◌≡◌, ◌≤◌, ◌<◌, ◌+◌, ◌⊎◌, ℕ, List, length, Some, Ok, Err}
use Rattle.std.specs.Io.KnownBytes.{Appends, Consumes}
use Rattle.guards_io.specs.Causes.{Rose}
use Rattle.guards_io.specs.Views.{SourceView, SinkView}
use Rattle.guards_model.specs.Missions.{MissionValue}
use Rattle.guards_audit.specs.Consistency.{IsConsistent, IsFirstBad}
use Rattle.run_audit.specs.Marks.{mission_bytes, trace_bytes}
use Rattle.mission_text.specs.Mission.{mission_of}
use Rattle.guards_io.specs.Writes.{AppendsPart, AppendsFront, WritesLine}
use Rattle.mission_check.specs.declared.limit.TheConstants.{MAX_MISSION_BYTES}
use Rattle.mission_run.specs.declared.limit.TheConstants.{MAX_AUDIT_BYTES}
use Rattle.mission_check.specs.declared.status.Status.{Status}
use Rattle.mission_check.specs.declared.status.Status.TheVariants.{Done, BadMission, TooLong, ReadFault, WriteFault, NoMemory, NotARun}
use Rattle.mission_check.specs.Lines.{mission_line, long_line, read_line}
use Rattle.mission_run.specs.Lines.{yes_line, no_line}
use Rattle.mission_check.specs.Reading.{TakesBytes, TakesUpTo}

-- what the verdict on a trace leaves: its line, or where it says no, as far as the sink takes it
abbrev pub Judges : MissionValue → List ℕ → SinkView → SinkView → Status → Type 0
Judges M trace old new Done = IsConsistent M trace × Appends old.written new.written yes_line
    × (new.faults ≡ old.faults)
Judges M trace old new WriteFault =
    IsConsistent M trace × AppendsPart old.written new.written yes_line × Rose old.faults new.faults
Judges M trace old new (NotARun line) = IsFirstBad M trace line × WritesLine old new (no_line line)
Judges M trace old new NoMemory = AppendsFront old.written new.written yes_line × (new.faults ≡ old.faults)
Judges M trace old new _ = ⊥

-- What judging an input does: its bytes before the mark are too many, or are no mission; or the trace is judged by the
-- mission. Memory may run out in between.
abbrev pub JudgesInput : List ℕ → SinkView → SinkView → Status → Type 0
JudgesInput input old new TooLong = (MAX_MISSION_BYTES < length (mission_bytes input)) × WritesLine old new long_line
JudgesInput input old new (BadMission why) =
    (length (mission_bytes input) ≤ MAX_MISSION_BYTES) × (mission_of (mission_bytes input) ≡ Err why)
    × WritesLine old new (mission_line why)
JudgesInput input old new NoMemory = AppendsFront old.written new.written yes_line × (new.faults ≡ old.faults)
JudgesInput input old new status =
    (M : MissionValue) × (length (mission_bytes input) ≤ MAX_MISSION_BYTES) × (mission_of (mission_bytes input) ≡ Ok M)
    × Judges M (trace_bytes input) old new status

-- What the audit of what a source gives does.
abbrev pub AuditsBytes : SourceView → SourceView → SinkView → SinkView → Status → Type 0
-- exactly where one byte too many was taken, or the mission's bytes are too many in an input that was read to its end
AuditsBytes src src' out out' TooLong =
    ((input : List ℕ) × (length input ≡ MAX_AUDIT_BYTES + 1) × TakesBytes src src' input
    × WritesLine out out' long_line)
    ⊎ ((input : List ℕ) × TakesUpTo MAX_AUDIT_BYTES src src' input × JudgesInput input out out' TooLong)
-- only where the source's faults rose, and before the end of what is read
AuditsBytes src src' out out' ReadFault =
    (input : List ℕ) × (length input ≤ MAX_AUDIT_BYTES) × Consumes src.left src'.left input
    × Rose src.faults src'.faults
    × WritesLine out out' read_line
-- while the source is read, at the latest with the byte that is too many, or once it is read; no fault came
AuditsBytes src src' out out' NoMemory =
    ((input : List ℕ) × (length input ≤ MAX_AUDIT_BYTES + 1) × TakesBytes src src' input)
    × AppendsFront out.written out'.written yes_line × (out'.faults ≡ out.faults)
AuditsBytes src src' out out' status =
    (input : List ℕ) × TakesUpTo MAX_AUDIT_BYTES src src' input × JudgesInput input out out' status

-- An input within both limits whose mission's bytes are a mission is judged, unless memory runs out or a fault comes.
abbrev pub CompletesAudit : SourceView → SourceView → SinkView → SinkView → Status → Type 0
CompletesAudit src src' out out' status =
    (input : List ℕ) (M : MissionValue) → src.left ≡ Some input → length input ≤ MAX_AUDIT_BYTES →
    length (mission_bytes input) ≤ MAX_MISSION_BYTES → mission_of (mission_bytes input) ≡ Ok M →
    (Rose src.faults src'.faults → ⊥) → (Rose out.faults out'.faults → ⊥) →
    (status ≡ Done) ⊎ ((line : ℕ) × (status ≡ NotARun line)) ⊎ (status ≡ NoMemory)
