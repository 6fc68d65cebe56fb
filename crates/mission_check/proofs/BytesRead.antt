-- Bytes that were taken, and then read as a mission.
use Rattle.std.proofs.Common.{◌≡◌, ◌≤◌, ◌+◌, ℕ, List, length, Result, Ok, Err, subst, ◌∙◌, arith}
use Rattle.guards_model.specs.Missions.{MissionValue}
use Rattle.guards_io.specs.Views.{SinkView, SourceView}
use Rattle.guards_io.specs.Writes.{WritesLine}
use Rattle.mission_check.specs.declared.limit.TheConstants.{MAX_MISSION_BYTES}
use Rattle.mission_check.specs.declared.status.Status.{Status}
use Rattle.mission_check.specs.declared.status.Status.TheVariants.{Done, Usage, BadMission, TooLong, ReadFault, WriteFault, TooManyDisturbed, NoMemory, NotARun}
use Rattle.mission_check.specs.Lines.{mission_line}
use Rattle.mission_check.specs.Reading.{TakesAll, ReadsBytes, ReadsMission}

module _ (src src' : SourceView) (out between out' : SinkView) (bytes : List ℕ) (all : TakesAll src src' bytes)
    (kept : between ≡ out) where
  within : length bytes ≤ MAX_MISSION_BYTES + 1
  within = omega (arith, all.0)

  -- what reading the bytes does is what reading the mission does
  pub taken_then_read : (r : Result MissionValue Status) → ReadsBytes bytes between out' r →
      ReadsMission src src' out out' r
  taken_then_read (Ok M) read = (bytes, all, read.0, read.1 ∙ kept)
  taken_then_read (Err (BadMission why)) read =
      (bytes, all, read.0, subst (λ (o : SinkView). WritesLine o out' (mission_line why)) kept read.1)
  taken_then_read (Err NoMemory) read = (bytes, within, all.1, read ∙ kept)
  taken_then_read (Err Done) read = absurd read
  taken_then_read (Err Usage) read = absurd read
  taken_then_read (Err TooLong) read = absurd read
  taken_then_read (Err ReadFault) read = absurd read
  taken_then_read (Err WriteFault) read = absurd read
  taken_then_read (Err (TooManyDisturbed cycle slot set active)) read = absurd read
  taken_then_read (Err (NotARun line)) read = absurd read
