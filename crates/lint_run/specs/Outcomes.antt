-- What the linter does, by its status.
use Rattle.std.specs.Prelude.{◌≡◌, ◌≤◌, ◌⊎◌, ℕ, Bool, true, false, List, [], ◌∷◌, ◌++◌, length, codes, Some, Ok}
use Rattle.std.specs.Io.KnownBytes.{Appends}
use Rattle.guards_io.specs.Causes.{Rose}
use Rattle.guards_io.specs.Views.{SourceView}
use Rattle.guards_model.specs.Missions.{MissionValue}
use Rattle.guards_model.specs.Texts.{TextValue}
use Rattle.guards_io.specs.Views.{SinkView}
use Rattle.guards_io.specs.Writes.{WritesLine}
use Rattle.document_lint.specs.IdleTasks.{document_lines}
use Rattle.lint_lines.specs.declared.line.LintLine.{LintLine}
use Rattle.lint_lines.specs.LineTexts.{lint_text, warns}
use Rattle.lint_run.specs.declared.status.LintStatus.{LintStatus}
use Rattle.lint_run.specs.declared.status.LintStatus.TheVariants.{Clean, Warned, Stopped}
use Rattle.mission_lint.specs.Lines.{lint_of}
use Rattle.mission_check.specs.declared.limit.TheConstants.{MAX_MISSION_BYTES}
use Rattle.mission_check.specs.declared.status.Status.{Status}
use Rattle.mission_check.specs.declared.status.Status.TheVariants.{Done, Usage, NoMemory}
use Rattle.mission_check.specs.Reading.{RefusesBytes, TakesAll, Tells}
use Rattle.mission_check.specs.Statuses.{status_code}
use Rattle.mission_text.specs.Mission.{mission_of}

-- the exit status: 0, or 1 where a line warns, and else the status of `guards`
abbrev pub lint_code : LintStatus → ℕ
lint_code Clean = 0
lint_code Warned = 1
lint_code (Stopped status) = status_code status

-- the line of wrong words
unfoldable pub lint_usage : TextValue
lint_usage = codes "usage: guards_lint\n"

-- a status that is not that of a call that was carried out
abbrev pub IsStop : Status → Type 0
IsStop Done = ⊥
IsStop _ = Unit {0}

-- What telling the lines does, where some warn or none does: all of them were written, and the status says whether
-- some warn; or the sink failed, or memory ran out, after a front of them.
abbrev pub TellsLines : TextValue → Bool → SinkView → SinkView → LintStatus → Type 0
TellsLines text warned out out' Clean = (warned ≡ false) × Appends out.written out'.written text × (out'.faults
    ≡ out.faults)
TellsLines text warned out out' Warned = (warned ≡ true) × Appends out.written out'.written text × (out'.faults
    ≡ out.faults)
TellsLines text warned out out' (Stopped status) = IsStop status × Tells text out out' status

-- the lines on a mission, and behind them those on the document that its bytes are
abbrev pub told_lines : List ℕ → MissionValue → List LintLine
told_lines bytes M = lint_of M ++ document_lines bytes

-- what telling of a mission and its bytes does: it tells just these lines
abbrev pub LintsMission : List ℕ → MissionValue → SinkView → SinkView → LintStatus → Type 0
LintsMission bytes M out out' status =
    TellsLines (lint_text (told_lines bytes M)) (warns (told_lines bytes M)) out out' status

-- the bytes that the source gives are no mission, or were not read to their end, and that is told as `guards` does
abbrev pub RefusesWith : SourceView → SourceView → SinkView → SinkView → LintStatus → Type 0
RefusesWith src src' out out' Clean = ⊥
RefusesWith src src' out out' Warned = ⊥
RefusesWith src src' out out' (Stopped status) = RefusesBytes src src' out out' status

-- the bytes are refused, or the source was read to its end, the bytes are a mission, and its lines are told
abbrev pub LintsBytes : SourceView → SourceView → SinkView → SinkView → LintStatus → Type 0
LintsBytes src src' out out' status =
    RefusesWith src src' out out' status
    ⊎ ((bytes : List ℕ) × (M : MissionValue) × TakesAll src src' bytes × (mission_of bytes ≡ Ok M) ×
    LintsMission bytes M out out' status)

-- wrong words are told, and nothing else is done
abbrev pub RefusesWords : SourceView → SourceView → SinkView → SinkView → LintStatus → Type 0
RefusesWords src src' out out' (Stopped Usage) = (src' ≡ src) × WritesLine out out' lint_usage
RefusesWords src src' out out' _ = ⊥

-- What the linter does: it takes no words.
abbrev pub LintOutcome : {A : Type 0} → List A → SourceView → SourceView → SinkView → SinkView → LintStatus → Type 0
LintOutcome [] src src' out out' status = LintsBytes src src' out out' status
LintOutcome (word ∷ words) src src' out out' status = RefusesWords src src' out out' status

-- A mission that the source tells is told of to its end, unless memory runs out or a fault comes.
abbrev pub LintCompletes : {A : Type 0} → List A → SourceView → SourceView → SinkView → SinkView → LintStatus → Type 0
LintCompletes words src src' out out' status =
    (bytes : List ℕ) (M : MissionValue) → words ≡ [] → src.left ≡ Some bytes → length bytes ≤ MAX_MISSION_BYTES →
    mission_of bytes ≡ Ok M →
    (Rose src.faults src'.faults → ⊥) → (Rose out.faults out'.faults → ⊥) → (status ≡ Clean) ⊎ ((status
    ≡ Warned) ⊎ (status ≡ Stopped NoMemory))
