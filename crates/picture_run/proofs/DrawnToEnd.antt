-- What a report tells is drawn to its end, unless memory runs out or a fault comes.
use Rattle.std.proofs.Common.{◌≡◌, ◌≤◌, ◌<◌, ◌+◌, ◌⊎◌, inl, inr, ℕ, Bool, true, false, List, length, Option, Some, None, Ok, Err, refl, sym, ap, subst, ◌∙◌, arith}
use Rattle.guards_io.specs.Causes.{Rose}
use Rattle.guards_io.specs.Views.{SourceView, SinkView}
use Rattle.guards_model.specs.Missions.{MissionValue}
use Rattle.mission_text.specs.Mission.{mission_of}
use Rattle.mission_check.specs.declared.limit.TheConstants.{MAX_MISSION_BYTES}
use Rattle.mission_check.specs.declared.status.Status.{Status}
use Rattle.mission_check.specs.declared.status.Status.TheVariants.{Done, Usage, BadMission, TooLong, ReadFault, WriteFault, TooManyDisturbed, NoMemory, NotARun}
use Rattle.mission_check.specs.Reading.{TakesUpTo, Tells}
use Rattle.mission_check.proofs.MissionTold.{taken_all, taken_part}
use Rattle.report_story.specs.declared.reader.RunSizes.{RunSizes}
use Rattle.report_story.specs.Places.{StoryPlace, story_of}
use Rattle.run_audit.specs.Marks.{mission_bytes, trace_bytes}
use Rattle.picture_marks.specs.declared.facts.Limits.{Limits}
use Rattle.picture_run.specs.declared.status.TheConstants.{MAX_INPUT_BYTES}
use Rattle.picture_run.specs.declared.status.PictureStatus.{PictureStatus}
use Rattle.picture_run.specs.declared.status.PictureStatus.TheVariants.{BadReport, Ended}
use Rattle.picture_run.specs.Drawing.{Answers, CompletesPicture, Draws, DrawsBy, DrawsReport, DrawsStream, HasStory, IsMissionText, Pictures, has_mark, limits_of, picture_of, run_sizes}

-- ---- what a report's drawing does is what its stream's does

pub streamed : (mission report : List ℕ) (M : MissionValue) (old new : SinkView) (status : PictureStatus) →
    IsMissionText mission M → DrawsReport (Some (limits_of M)) (Some (run_sizes M)) report old new status →
    DrawsStream mission report old new status
streamed mission report M old new (BadReport line) is does = (M, is, does)
streamed mission report M old new (Ended NoMemory) is does = inr (M, is, does)
streamed mission report M old new (Ended Done) is does = (M, is, does)
streamed mission report M old new (Ended WriteFault) is does = (M, is, does)
streamed mission report M old new (Ended Usage) is does = (M, is, does)
streamed mission report M old new (Ended (BadMission why)) is does = absurd does.2
streamed mission report M old new (Ended TooLong) is does = absurd does.2
streamed mission report M old new (Ended ReadFault) is does = (M, is, does)
streamed mission report M old new (Ended (TooManyDisturbed cycle slot set active)) is does = (M, is, does)
streamed mission report M old new (Ended (NotARun line)) is does = (M, is, does)

-- what was written of a picture, as the status of a report's drawing
pub drawn : (limits : Option Limits) (known : Option RunSizes) (report : List ℕ) (p : StoryPlace) (old new : SinkView)
    (status : Status) → story_of known report ≡ Ok p → Tells (picture_of limits p) old new status →
    DrawsReport limits known report old new (Ended status)
drawn limits known report p old new Done is tells = (p, is, tells)
drawn limits known report p old new NoMemory is tells = inr (p, is, tells)
drawn limits known report p old new WriteFault is tells = (p, is, tells)
drawn limits known report p old new Usage is tells = absurd tells
drawn limits known report p old new (BadMission why) is tells = absurd tells
drawn limits known report p old new TooLong is tells = absurd tells
drawn limits known report p old new ReadFault is tells = absurd tells
drawn limits known report p old new (TooManyDisturbed cycle slot set active) is tells = absurd tells
drawn limits known report p old new (NotARun line) is tells = absurd tells

-- ---- the end of a report's drawing

abbrev pub Ends : PictureStatus → Type 0
Ends status = (status ≡ Ended Done) ⊎ (status ≡ Ended NoMemory)

report_ends : (limits : Option Limits) (known : Option RunSizes) (report : List ℕ) (p : StoryPlace)
    (old new : SinkView) (status : PictureStatus) → story_of known report ≡ Ok p →
    DrawsReport limits known report old new status → (Rose old.faults new.faults → ⊥) → Ends status
report_ends limits known report p old new (BadReport line) is does no_write = absurd (wrong (sym is ∙ does.0))
  where
    wrong : Ok p ≡ Err line → ⊥
    wrong e = cc
report_ends limits known report p old new (Ended Done) is does no_write = inl refl
report_ends limits known report p old new (Ended NoMemory) is does no_write = inr refl
report_ends limits known report p old new (Ended WriteFault) is does no_write = absurd (no_write does.2.1)
report_ends limits known report p old new (Ended Usage) is does no_write = absurd does.2
report_ends limits known report p old new (Ended (BadMission why)) is does no_write = absurd does.2
report_ends limits known report p old new (Ended TooLong) is does no_write = absurd does.2
report_ends limits known report p old new (Ended ReadFault) is does no_write = absurd does.2
report_ends limits known report p old new (Ended (TooManyDisturbed cycle slot set active)) is does no_write =
    absurd does.2
report_ends limits known report p old new (Ended (NotARun line)) is does no_write = absurd does.2

-- ---- after a mission

-- the bytes are those of one mission
one_mission : (bytes : List ℕ) (M N : MissionValue) → IsMissionText bytes M → IsMissionText bytes N → M ≡ N
one_mission bytes M N is other =
    let both : Ok M ≡ Ok N = sym is.1 ∙ other.1 in
    cc

own_ends : (mission report : List ℕ) (M N : MissionValue) (p : StoryPlace) (old new : SinkView)
    (status : PictureStatus) → IsMissionText mission M → story_of (Some (run_sizes M)) report ≡ Ok p →
    IsMissionText mission N → DrawsReport (Some (limits_of N)) (Some (run_sizes N)) report old new status →
    (Rose old.faults new.faults → ⊥) → Ends status
own_ends mission report M N p old new status is tells other does no_write =
    report_ends (Some (limits_of N)) (Some (run_sizes N)) report p old new status
    (ap (λ K. story_of (Some (run_sizes K)) report) (sym (one_mission mission M N is other)) ∙ tells) does no_write

stream_ends : (mission report : List ℕ) (M : MissionValue) (p : StoryPlace) (old new : SinkView)
    (status : PictureStatus) → IsMissionText mission M → story_of (Some (run_sizes M)) report ≡ Ok p →
    DrawsStream mission report old new status → (Rose old.faults new.faults → ⊥) → Ends status
stream_ends mission report M p old new (BadReport line) is tells does no_write =
    own_ends mission report M does.0 p old new (BadReport line) is tells does.1 does.2 no_write
stream_ends mission report M p old new (Ended Done) is tells does no_write = inl refl
stream_ends mission report M p old new (Ended NoMemory) is tells does no_write = inr refl
stream_ends mission report M p old new (Ended WriteFault) is tells does no_write =
    own_ends mission report M does.0 p old new (Ended WriteFault) is tells does.1 does.2 no_write
stream_ends mission report M p old new (Ended Usage) is tells does no_write = absurd does.2.2
stream_ends mission report M p old new (Ended (BadMission why)) is tells does no_write =
    absurd (wrong (sym is.1 ∙ does.1))
  where
    wrong : Ok M ≡ Err why → ⊥
    wrong e = cc
stream_ends mission report M p old new (Ended TooLong) is tells does no_write =
    absurd (omega (arith, does.0, is.0))
stream_ends mission report M p old new (Ended ReadFault) is tells does no_write = absurd does.2.2
stream_ends mission report M p old new (Ended (TooManyDisturbed cycle slot set active)) is tells does no_write =
    absurd does.2.2
stream_ends mission report M p old new (Ended (NotARun line)) is tells does no_write = absurd does.2.2

-- ---- an input, and a source

input_ends : (marked : Bool) (input : List ℕ) (p : StoryPlace) (old new : SinkView) (status : PictureStatus) →
    HasStory marked input p → DrawsBy marked input old new status → (Rose old.faults new.faults → ⊥) → Ends status
input_ends true input p old new status has does no_write =
    stream_ends (mission_bytes input) (trace_bytes input) has.0 p old new status has.1 has.2 does no_write
input_ends false input p old new status has does no_write =
    report_ends None None input p old new status has does no_write

module _ (src src' : SourceView) (out out' : SinkView) (input : List ℕ) (p : StoryPlace)
    (told : src.left ≡ Some input) (within : length input ≤ MAX_INPUT_BYTES) (has : HasStory (has_mark input) input p)
    (no_read : Rose src.faults src'.faults → ⊥) (no_write : Rose out.faults out'.faults → ⊥) where
  -- what was taken to the source's end is what it told
  taken_ends : (taken : List ℕ) (status : PictureStatus) → TakesUpTo MAX_INPUT_BYTES src src' taken →
      Draws taken out out' status → Ends status
  taken_ends taken status all does =
      let same = taken_all src.left src'.left taken input told all.1.0 all.2 in
      input_ends (has_mark input) input p out out' status has
      (subst (λ bytes. Draws bytes out out' status) same does) no_write

  pub source_ends : (status : PictureStatus) → Pictures src src' out out' status → Ends status
  source_ends (BadReport line) went = taken_ends went.0 (BadReport line) went.1 went.2
  source_ends (Ended Done) went = inl refl
  source_ends (Ended NoMemory) went = inr refl
  source_ends (Ended WriteFault) went = taken_ends went.0 (Ended WriteFault) went.1 went.2
  source_ends (Ended Usage) went = taken_ends went.0 (Ended Usage) went.1 went.2
  source_ends (Ended (BadMission why)) went = taken_ends went.0 (Ended (BadMission why)) went.1 went.2
  source_ends (Ended TooLong) (inl over) =
      let few = taken_part src.left src'.left over.0 input told over.2.0 in
      absurd (omega (arith, few, over.1, within))
  source_ends (Ended TooLong) (inr many) = taken_ends many.0 (Ended TooLong) many.1 many.2
  source_ends (Ended ReadFault) went = absurd (no_read went.3)
  source_ends (Ended (TooManyDisturbed cycle slot set active)) went =
      taken_ends went.0 (Ended (TooManyDisturbed cycle slot set active)) went.1 went.2
  source_ends (Ended (NotARun line)) went = taken_ends went.0 (Ended (NotARun line)) went.1 went.2

-- what the program does with no words
no_words : (words : ℕ) (src src' : SourceView) (out out' : SinkView) (status : PictureStatus) →
    Answers words src src' out out' status → words ≡ 0 → Pictures src src' out out' status
no_words words src src' out out' (Ended Usage) went none = absurd (omega (arith, went.0, none))
no_words words src src' out out' (BadReport line) went none = went.1
no_words words src src' out out' (Ended Done) went none = went.1
no_words words src src' out out' (Ended NoMemory) went none = went.1
no_words words src src' out out' (Ended WriteFault) went none = went.1
no_words words src src' out out' (Ended (BadMission why)) went none = went.1
no_words words src src' out out' (Ended TooLong) went none = went.1
no_words words src src' out out' (Ended ReadFault) went none = went.1
no_words words src src' out out' (Ended (TooManyDisturbed cycle slot set active)) went none = went.1
no_words words src src' out out' (Ended (NotARun line)) went none = went.1

pub picture_completes : (words : ℕ) (src src' : SourceView) (out out' : SinkView) (status : PictureStatus) →
    Answers words src src' out out' status → CompletesPicture words src src' out out' status
picture_completes words src src' out out' status went =
    λ input p none told within has no_read no_write.
    source_ends src src' out out' input p told within has no_read no_write status
    (no_words words src src' out out' status went none)
