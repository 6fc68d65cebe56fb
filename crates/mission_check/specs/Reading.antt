-- What reading a mission does, and what telling of it does, by the answer.
use Rattle.std.specs.Prelude.{◌≡◌, ◌≤◌, ◌+◌, ◌⊎◌, ℕ, List, length, Some, Result, Ok, Err}
use Rattle.std.specs.Io.KnownBytes.{Appends, Consumes, IsAtEnd}
use Rattle.guards_base.specs.Seen.{Seen}
use Rattle.guards_io.specs.Causes.{Rose}
use Rattle.guards_model.specs.Missions.{MissionValue}
use Rattle.document_checks.specs.declared.why.ReadFault.{ReadFault as Fault}
use Rattle.document_checks.specs.declared.why.ReadFault.TheVariants as fault
use Rattle.mission_text.specs.Mission.{mission_of}
use Rattle.guards_io.specs.Writes.{AppendsPart, AppendsFront, WritesLine}
use Rattle.guards_io.specs.Views.{SinkView, SourceView}
use Rattle.check_text.specs.Check.{check_of}
use Rattle.mission_check.specs.declared.limit.TheConstants.{MAX_MISSION_BYTES}
use Rattle.mission_check.specs.declared.status.Status.{Status}
use Rattle.mission_check.specs.declared.status.Status.TheVariants.{Done, Usage, BadMission, TooLong, ReadFault, WriteFault, TooManyDisturbed, NoMemory, NotARun}
use Rattle.mission_check.specs.Lines.{mission_line, long_line, read_line}

-- The bytes were taken, and no fault came.
abbrev pub TakesBytes : SourceView → SourceView → List ℕ → Type 0
TakesBytes old new bytes = Consumes old.left new.left bytes × (new.faults ≡ old.faults)

-- The bytes are all that the source had left, and no more than so many.
abbrev pub TakesUpTo : ℕ → SourceView → SourceView → List ℕ → Type 0
TakesUpTo limit old new bytes = (length bytes ≤ limit) × TakesBytes old new bytes × IsAtEnd new.left

-- The bytes are all that the source had left, and no more than a mission has.
abbrev pub TakesAll : SourceView → SourceView → List ℕ → Type 0
TakesAll old new bytes = TakesUpTo MAX_MISSION_BYTES old new bytes

-- What refusing what a source gives does, by the status.
abbrev pub RefusesBytes : SourceView → SourceView → SinkView → SinkView → Status → Type 0
-- exactly where the source was read to its end and the bytes are no mission
RefusesBytes src src' out out' (BadMission why) =
    (bytes : List ℕ) × TakesAll src src' bytes × (mission_of bytes ≡ Err why) × WritesLine out out' (mission_line why)
-- exactly where the source gave one byte more than a mission has
RefusesBytes src src' out out' TooLong = (bytes : List ℕ) × (length bytes ≡ MAX_MISSION_BYTES + 1)
    × TakesBytes src src' bytes × WritesLine out out' long_line
-- only where the source's faults rose, and before the end of what is read
RefusesBytes src src' out out' ReadFault =
    (bytes : List ℕ) × (length bytes ≤ MAX_MISSION_BYTES) × Consumes src.left src'.left bytes
    × Rose src.faults src'.faults × WritesLine out out' read_line
-- while the source is read, at the latest with the byte that is too many, or once it is read; no fault came
RefusesBytes src src' out out' NoMemory = (bytes : List ℕ) × (length bytes ≤ MAX_MISSION_BYTES + 1)
    × TakesBytes src src' bytes × (out' ≡ out)
RefusesBytes src src' out out' Done = ⊥
RefusesBytes src src' out out' Usage = ⊥
RefusesBytes src src' out out' WriteFault = ⊥
RefusesBytes src src' out out' (TooManyDisturbed cycle slot set active) = ⊥
RefusesBytes src src' out out' (NotARun line) = ⊥

-- what taking the bytes of a mission does, by its answer: it gives all that the source had left
abbrev pub GivesBytes : SourceView → SourceView → SinkView → SinkView → Result (Seen ℕ) Status → Type 0
GivesBytes src src' out out' (Ok bytes) = TakesAll src src' bytes.items × (out' ≡ out)
GivesBytes src src' out out' (Err status) = RefusesBytes src src' out out' status

-- what reading the mission that bytes are does, by its answer
abbrev pub ReadsBytes : List ℕ → SinkView → SinkView → Result MissionValue Status → Type 0
ReadsBytes bytes out out' (Ok M) = (mission_of bytes ≡ Ok M) × (out' ≡ out)
ReadsBytes bytes out out' (Err (BadMission why)) =
    (mission_of bytes ≡ Err why) × WritesLine out out' (mission_line why)
ReadsBytes bytes out out' (Err NoMemory) = out' ≡ out
ReadsBytes bytes out out' (Err _) = ⊥

-- what reading a mission does, by its answer
abbrev pub ReadsMission : SourceView → SourceView → SinkView → SinkView → Result MissionValue Status → Type 0
ReadsMission src src' out out' (Ok M) = (bytes : List ℕ) × TakesAll src src' bytes × (mission_of bytes ≡ Ok M)
    × (out' ≡ out)
ReadsMission src src' out out' (Err status) = RefusesBytes src src' out out' status

-- What a command does that reads a mission, by its status: it refuses the bytes, and what is to be kept is kept, or the
-- source was read to its end, the bytes are a mission, and the command went on with it.
abbrev pub OfMission : Type 0 → (MissionValue → Type 0) → SourceView → SourceView → SinkView → SinkView → Status →
    Type 0
OfMission Kept goes_on src src' out out' status =
    (RefusesBytes src src' out out' status × Kept)
    ⊎ ((bytes : List ℕ) × (M : MissionValue) × TakesAll src src' bytes × (mission_of bytes ≡ Ok M) × goes_on M)

-- what refusing a mission answers
abbrev pub RefusesMission : Fault → SinkView → SinkView → Status → Type 0
RefusesMission (fault.Bad given) old new (BadMission why) = (why ≡ given) × WritesLine old new (mission_line why)
RefusesMission given old new NoMemory = new ≡ old
RefusesMission given old new _ = ⊥

-- ---- the command `check`

-- what writing a text answers
abbrev pub Tells : List ℕ → SinkView → SinkView → Status → Type 0
Tells text old new Done = Appends old.written new.written text × (new.faults ≡ old.faults)
Tells text old new WriteFault = AppendsPart old.written new.written text × Rose old.faults new.faults
Tells text old new NoMemory = AppendsFront old.written new.written text × (new.faults ≡ old.faults)
Tells text old new _ = ⊥

-- what the check of what a source gives does
abbrev pub ChecksBytes : SourceView → SourceView → SinkView → SinkView → Status → Type 0
ChecksBytes src src' out out' status =
    OfMission (Unit {0}) (λ M. Tells (check_of M) out out' status) src src' out out' status

-- A mission that the source tells is told to its end, unless memory runs out or a fault comes.
abbrev pub CompletesCheck : SourceView → SourceView → SinkView → SinkView → Status → Type 0
CompletesCheck src src' out out' status =
    (bytes : List ℕ) (M : MissionValue) → src.left ≡ Some bytes → length bytes ≤ MAX_MISSION_BYTES →
    mission_of bytes ≡ Ok M →
    (Rose src.faults src'.faults → ⊥) → (Rose out.faults out'.faults → ⊥) → (status ≡ Done) ⊎ (status ≡ NoMemory)
