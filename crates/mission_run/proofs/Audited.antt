-- What a verdict leaves, and that an input within both limits whose mission's bytes are a mission is judged.
use Rattle.std.proofs.Common.{◌≡◌, ◌≤◌, ◌<◌, ◌+◌, ◌⊎◌, inl, inr, ℕ, List, length, Some, Ok, Err, refl, sym, ap, ◌∙◌, arith}
use Rattle.std.specs.Io.KnownBytes.{Consumes}
use Rattle.guards_io.specs.Causes.{Rose}
use Rattle.guards_io.specs.Views.{SourceView, SinkView}
use Rattle.guards_model.specs.Missions.{MissionValue}
use Rattle.document_checks.specs.declared.why.Why.{Why}
use Rattle.guards_audit.specs.Consistency.{IsConsistent}
use Rattle.run_audit.specs.Marks.{mission_bytes}
use Rattle.mission_text.specs.Mission.{mission_of}
use Rattle.mission_check.specs.declared.limit.TheConstants.{MAX_MISSION_BYTES}
use Rattle.mission_run.specs.declared.limit.TheConstants.{MAX_AUDIT_BYTES}
use Rattle.mission_check.specs.declared.status.Status.{Status}
use Rattle.mission_check.specs.declared.status.Status.TheVariants.{Done, Usage, BadMission, TooLong, ReadFault, WriteFault, TooManyDisturbed, NoMemory, NotARun}
use Rattle.mission_run.specs.Lines.{yes_line}
use Rattle.mission_check.specs.Reading.{TakesUpTo, Tells}
use Rattle.mission_run.specs.Auditing.{AuditsBytes, CompletesAudit, Judges}
use Rattle.mission_check.proofs.MissionTold.{taken_all, taken_part}

-- the line of a trace that is consistent is told as any text
pub told_yes : (M : MissionValue) (trace : List ℕ) (old new : SinkView) (status : Status) → IsConsistent M trace →
    Tells yes_line old new status → Judges M trace old new status
told_yes M trace old new Done good told = (good, told.0, told.1)
told_yes M trace old new WriteFault good told = (good, told.0, told.1)
told_yes M trace old new NoMemory good told = told
told_yes M trace old new (NotARun line) good told = absurd told
told_yes M trace old new Usage good told = absurd told
told_yes M trace old new (BadMission why) good told = absurd told
told_yes M trace old new TooLong good told = absurd told
told_yes M trace old new ReadFault good told = absurd told
told_yes M trace old new (TooManyDisturbed cycle slot set active) good told = absurd told

-- the bytes that were taken to the source's end are those that it told
same_input : (src src' : SourceView) (taken input : List ℕ) → TakesUpTo MAX_AUDIT_BYTES src src' taken →
    src.left ≡ Some input → taken ≡ input
same_input src src' taken input all told = taken_all src.left src'.left taken input told all.1.0 all.2

module _ (src src' : SourceView) (out out' : SinkView) (input : List ℕ) (M : MissionValue)
    (told : src.left ≡ Some input) (within : length input ≤ MAX_AUDIT_BYTES)
    (fits : length (mission_bytes input) ≤ MAX_MISSION_BYTES) (is : mission_of (mission_bytes input) ≡ Ok M) where
  -- its mission's bytes are not too many
  not_long : (taken : List ℕ) → TakesUpTo MAX_AUDIT_BYTES src src' taken →
      MAX_MISSION_BYTES < length (mission_bytes taken) → ⊥
  not_long taken all many =
      let same : length (mission_bytes taken) ≡ length (mission_bytes input) =
      ap (λ bytes. length (mission_bytes bytes)) (same_input src src' taken input all told) in
      omega (arith, same, many, fits)

  -- nor is it too long
  not_over : (taken : List ℕ) → length taken ≡ MAX_AUDIT_BYTES + 1 → Consumes src.left src'.left taken → ⊥
  not_over taken long taking =
      let le = taken_part src.left src'.left taken input told taking in
      omega (arith, le, long, within)

  -- nor are they no mission
  not_bad : (taken : List ℕ) (why : Why) → TakesUpTo MAX_AUDIT_BYTES src src' taken →
      mission_of (mission_bytes taken) ≡ Err why → ⊥
  not_bad taken why all refused =
      let denied : mission_of (mission_bytes input) ≡ Err why =
      ap (λ bytes. mission_of (mission_bytes bytes)) (sym (same_input src src' taken input all told)) ∙ refused in
      cc (sym is ∙ denied)

  pub is_judged : (status : Status) → AuditsBytes src src' out out' status → (Rose src.faults src'.faults → ⊥) →
      (Rose out.faults out'.faults → ⊥) →
      (status ≡ Done) ⊎ ((line : ℕ) × (status ≡ NotARun line)) ⊎ (status ≡ NoMemory)
  is_judged Done went no_read no_write = inl refl
  is_judged (NotARun line) went no_read no_write = inr (inl (line, refl))
  is_judged NoMemory went no_read no_write = inr (inr refl)
  is_judged WriteFault went no_read no_write = absurd (no_write went.2.3.2)
  is_judged ReadFault went no_read no_write = absurd (no_read went.3)
  is_judged TooLong (inl over) no_read no_write = absurd (not_over over.0 over.1 over.2.0)
  is_judged TooLong (inr many) no_read no_write = absurd (not_long many.0 many.1 many.2.0)
  is_judged (BadMission why) went no_read no_write = absurd (not_bad went.0 why went.1 went.2.1)
  is_judged Usage went no_read no_write = absurd went.2.3
  is_judged (TooManyDisturbed cycle slot set active) went no_read no_write = absurd went.2.3

pub audit_completes : (src src' : SourceView) (out out' : SinkView) (status : Status) →
    AuditsBytes src src' out out' status → CompletesAudit src src' out out' status
audit_completes src src' out out' status went =
    λ input M told within fits is no_read no_write.
    is_judged src src' out out' input M told within fits is status went no_read no_write
