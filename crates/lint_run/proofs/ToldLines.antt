-- A mission is told of to its end, unless memory runs out or a fault comes.
use Rattle.std.proofs.Common.{◌≡◌, ◌≤◌, ◌⊎◌, inl, inr, ℕ, Bool, List, [], ◌∷◌, length, Some, Ok, refl, ap, subst, arith}
use Rattle.guards_io.specs.Causes.{Rose}
use Rattle.guards_io.specs.Views.{SourceView}
use Rattle.guards_model.specs.Missions.{MissionValue}
use Rattle.guards_model.specs.Texts.{TextValue}
use Rattle.guards_io.specs.Views.{SinkView}
use Rattle.lint_lines.specs.LineTexts.{lint_text, warns}
use Rattle.lint_run.specs.declared.status.LintStatus.{LintStatus}
use Rattle.lint_run.specs.declared.status.LintStatus.TheVariants.{Clean, Warned, Stopped}
use Rattle.lint_run.specs.Outcomes.{IsStop, TellsLines, RefusesWith, RefusesWords, LintsBytes, LintOutcome, LintCompletes, told_lines}
use Rattle.mission_check.specs.declared.limit.TheConstants.{MAX_MISSION_BYTES}
use Rattle.mission_check.specs.declared.status.Status.{Status}
use Rattle.mission_check.specs.declared.status.Status.TheVariants.{Done, NoMemory}
use Rattle.mission_check.specs.Reading.{RefusesBytes}
use Rattle.mission_check.proofs.MissionTold.{refused_for_memory, told_to_end}
use Rattle.mission_text.specs.Mission.{mission_of}

-- ---- words

pub none_words : {A : Type 0} (words : List A) (src src' : SourceView) (out out' : SinkView) (status : LintStatus) →
    length words ≡ 0 →
    LintsBytes src src' out out' status → LintOutcome words src src' out out' status
none_words [] src src' out out' status none does = does
none_words (word ∷ words) src src' out out' status none does = absurd (omega (arith, none))

pub some_words : {A : Type 0} (words : List A) (src src' : SourceView) (out out' : SinkView) (status : LintStatus) →
    (length words ≡ 0 → ⊥) →
    RefusesWords src src' out out' status → LintOutcome words src src' out out' status
some_words [] src src' out out' status some does = absurd (some refl)
some_words (word ∷ words) src src' out out' status some does = does

-- ---- the end

abbrev Ends : LintStatus → Type 0
Ends status = (status ≡ Clean) ⊎ ((status ≡ Warned) ⊎ (status ≡ Stopped NoMemory))

stop_ends : (status : Status) → (status ≡ Done → ⊥) → (status ≡ Done) ⊎ (status ≡ NoMemory) → Ends (Stopped status)
stop_ends status not_done (inl done) = absurd (not_done done)
stop_ends status not_done (inr e) = inr (inr (ap Stopped e))

refusal_ends : (src src' : SourceView) (out out' : SinkView) (status : LintStatus) (bytes : List ℕ) (M : MissionValue) →
    RefusesWith src src' out out' status →
    src.left ≡ Some bytes → length bytes ≤ MAX_MISSION_BYTES → mission_of bytes ≡ Ok M →
    (Rose src.faults src'.faults → ⊥) → Ends status
refusal_ends src src' out out' Clean bytes M refused told within is no_read = absurd refused
refusal_ends src src' out out' Warned bytes M refused told within is no_read = absurd refused
refusal_ends src src' out out' (Stopped status) bytes M refused told within is no_read =
    stop_ends status (λ done. subst (λ s. RefusesBytes src src' out out' s) done refused)
    (refused_for_memory src src' out out' status bytes M refused told within is no_read)

lines_end : (text : TextValue) (warned : Bool) (out out' : SinkView) (status : LintStatus) →
    TellsLines text warned out out' status → (Rose out.faults out'.faults → ⊥) → Ends status
lines_end text warned out out' Clean told no_write = inl refl
lines_end text warned out out' Warned told no_write = inr (inl refl)
lines_end text warned out out' (Stopped status) told no_write =
    stop_ends status (λ done. subst IsStop done told.0) (told_to_end text out out' status told.1 no_write)

bytes_end : (src src' : SourceView) (out out' : SinkView) (status : LintStatus) (bytes : List ℕ) (M : MissionValue) →
    LintsBytes src src' out out' status →
    src.left ≡ Some bytes → length bytes ≤ MAX_MISSION_BYTES → mission_of bytes ≡ Ok M →
    (Rose src.faults src'.faults → ⊥) → (Rose out.faults out'.faults → ⊥) → Ends status
bytes_end src src' out out' status bytes M (inl refused) told within is no_read no_write =
    refusal_ends src src' out out' status bytes M refused told within is no_read
bytes_end src src' out out' status bytes M (inr went) told within is no_read no_write =
    lines_end (lint_text (told_lines went.0 went.1)) (warns (told_lines went.0 went.1)) out out' status went.4 no_write

pub lint_completes : {A : Type 0} (words : List A) (src src' : SourceView) (out out' : SinkView) (status : LintStatus) →
    LintOutcome words src src' out out' status →
    LintCompletes words src src' out out' status
lint_completes [] src src' out out' status does =
    λ bytes M none told within is no_read no_write.
    bytes_end src src' out out' status bytes M does told within is no_read no_write
lint_completes (word ∷ words) src src' out out' status does =
    λ bytes M none told within is no_read no_write. absurd (omega (arith, ap length none))
