-- What the auditor answers.
use Rattle.guards_model.specs.Missions.{MissionValue}
use Rattle.guards_model.specs.Texts.{TextValue}
use Rattle.guards_audit.specs.Consistency.{IsConsistent, IsFirstBad}
use Rattle.run_audit.specs.declared.verdict.Verdict.{Verdict}
use Rattle.run_audit.specs.declared.verdict.Verdict.TheVariants.{Yes, No}

-- Yes exactly where the trace is consistent; else the first line that is not good, or one more than the number of
-- lines where the trace ends too early.
abbrev pub IsVerdict : MissionValue → TextValue → Verdict → Type 0
IsVerdict M trace Yes = IsConsistent M trace
IsVerdict M trace (No line) = IsFirstBad M trace line
