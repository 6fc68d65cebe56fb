-- A mission that the source tells is told to its end, unless memory runs out or a fault comes.
use Rattle.std.proofs.Common.{◌≡◌, ◌≤◌, ◌+◌, ℕ, List, ◌++◌, length, Option, Some, None, Ok, Err, ◌⊎◌, inl, inr, refl, sym, ap, ◌∙◌, append-nil, length-append, arith}
use Rattle.std.specs.Io.KnownBytes.{Consumes, IsAtEnd}
use Rattle.guards_model.specs.Missions.{MissionValue}
use Rattle.document_checks.specs.declared.why.Why.{Why}
use Rattle.guards_io.specs.Views.{SinkView, SourceView}
use Rattle.mission_check.specs.declared.limit.TheConstants.{MAX_MISSION_BYTES}
use Rattle.guards_io.specs.Causes.{Rose}
use Rattle.check_text.specs.Check.{check_of}
use Rattle.mission_text.specs.Mission.{mission_of}
use Rattle.mission_check.specs.declared.status.Status.{Status}
use Rattle.mission_check.specs.declared.status.Status.TheVariants.{Done, Usage, BadMission, TooLong, ReadFault, WriteFault, TooManyDisturbed, NoMemory, NotARun}
use Rattle.mission_check.specs.Reading.{TakesAll, RefusesBytes, Tells, ChecksBytes, CompletesCheck}

-- a source that is at its end gave all that it told
pub taken_all : (left left' : Option (List ℕ)) (bytes all : List ℕ) → left ≡ Some all → Consumes left left' bytes →
    IsAtEnd left' → bytes ≡ all
taken_all None left' bytes all told taken ended = absurd cc
taken_all (Some xs) None bytes all told taken ended = absurd taken
taken_all (Some xs) (Some ys) bytes all told taken ended =
    let same : xs ≡ all = cc in
    sym (append-nil bytes) ∙ ap (λ (l : List ℕ). bytes ++ l) (sym ended) ∙ sym taken ∙ same

-- no more is taken than was told
pub taken_part : (left left' : Option (List ℕ)) (bytes all : List ℕ) → left ≡ Some all → Consumes left left' bytes →
    length bytes ≤ length all
taken_part None left' bytes all told taken = absurd cc
taken_part (Some xs) None bytes all told taken = absurd taken
taken_part (Some xs) (Some ys) bytes all told taken =
    let same : xs ≡ all = cc in
    omega (arith, ap length (sym same ∙ taken), length-append bytes ys)

-- bytes that are read to their end and are a mission are not refused
not_refused : (src src' : SourceView) (taken bytes : List ℕ) (M : MissionValue) (why : Why) → TakesAll src src' taken →
    mission_of taken ≡ Err why
    → src.left ≡ Some bytes → mission_of bytes ≡ Ok M → ⊥
not_refused src src' taken bytes M why all refused told is =
    let same = taken_all src.left src'.left taken bytes told all.1.0 all.2 in
    let denied : mission_of bytes ≡ Err why = ap mission_of (sym same) ∙ refused in
    cc (sym is ∙ denied)

-- bytes that are not too many are not refused as too many
not_too_long : (src src' : SourceView) (taken bytes : List ℕ) → length taken ≡ MAX_MISSION_BYTES + 1 →
    Consumes src.left src'.left taken → src.left ≡ Some bytes → length bytes ≤ MAX_MISSION_BYTES → ⊥
not_too_long src src' taken bytes long taking told within =
    let le = taken_part src.left src'.left taken bytes told taking in
    absurd (omega (arith, le, long, within))

-- the bytes of a mission are refused for want of memory alone
pub refused_for_memory : (src src' : SourceView) (out out' : SinkView) (status : Status) (bytes : List ℕ)
    (M : MissionValue) → RefusesBytes src src' out out' status →
    src.left ≡ Some bytes → length bytes ≤ MAX_MISSION_BYTES → mission_of bytes ≡ Ok M →
    (Rose src.faults src'.faults → ⊥) → (status ≡ Done) ⊎ (status ≡ NoMemory)
refused_for_memory src src' out out' Done bytes M refused told within is no_read = absurd refused
refused_for_memory src src' out out' Usage bytes M refused told within is no_read = absurd refused
refused_for_memory src src' out out' (BadMission why) bytes M refused told within is no_read =
    absurd (not_refused src src' refused.0 bytes M why refused.1 refused.2 told is)
refused_for_memory src src' out out' TooLong bytes M refused told within is no_read =
    absurd (not_too_long src src' refused.0 bytes refused.1 refused.2.0 told within)
refused_for_memory src src' out out' ReadFault bytes M refused told within is no_read = absurd (no_read refused.3)
refused_for_memory src src' out out' WriteFault bytes M refused told within is no_read = absurd refused
refused_for_memory src src' out out' (TooManyDisturbed cycle slot set active) bytes M refused told within is no_read =
    absurd refused
refused_for_memory src src' out out' (NotARun line) bytes M refused told within is no_read = absurd refused
refused_for_memory src src' out out' NoMemory bytes M refused told within is no_read = inr refl

-- the source gave this mission
pub same_mission : (src src' : SourceView) (taken bytes : List ℕ) (K M : MissionValue) → TakesAll src src' taken →
    mission_of taken ≡ Ok K →
    src.left ≡ Some bytes → mission_of bytes ≡ Ok M → K ≡ M
same_mission src src' taken bytes K M all is told asked =
    let same = taken_all src.left src'.left taken bytes told all.1.0 all.2 in
    let both : Ok K ≡ Ok M = sym is ∙ ap mission_of same ∙ asked in
    cc

pub told_to_end : (text : List ℕ) (out out' : SinkView) (status : Status) → Tells text out out' status →
    (Rose out.faults out'.faults → ⊥) → (status ≡ Done) ⊎ (status ≡ NoMemory)
told_to_end text out out' Done told no_write = inl refl
told_to_end text out out' NoMemory told no_write = inr refl
told_to_end text out out' WriteFault told no_write = absurd (no_write told.1)
told_to_end text out out' Usage told no_write = absurd told
told_to_end text out out' (BadMission why) told no_write = absurd told
told_to_end text out out' TooLong told no_write = absurd told
told_to_end text out out' ReadFault told no_write = absurd told
told_to_end text out out' (TooManyDisturbed cycle slot set active) told no_write = absurd told
told_to_end text out out' (NotARun line) told no_write = absurd told

pub check_completes : (src src' : SourceView) (out out' : SinkView) (status : Status) →
    ChecksBytes src src' out out' status → CompletesCheck src src' out out' status
check_completes src src' out out' status (inl refused) =
    λ bytes M told within is no_read no_write.
    refused_for_memory src src' out out' status bytes M refused.0 told within is no_read
check_completes src src' out out' status (inr went) =
    λ bytes M told within is no_read no_write. told_to_end (check_of went.1) out out' status went.4 no_write
