-- What diagnosis and transfers keep in each of some cycles of a run.
use Rattle.std.specs.Prelude.{⊤, IsTrue, [], ◌∷◌}
use Rattle.guards_model.specs.Channels.{Channel, has}
use Rattle.guards_model.specs.Missions.{MissionValue}
use Rattle.guards_runs.specs.Cycles.{Past, Cycle}
use Rattle.guards_runs.specs.Promises.{EachCycle}
use Rattle.recovery_laws.specs.Diagnosed.{LeavesAlone, SparesSpotless, CostsTwo, RemovesForCause, FindsSilent, RemovesSilent, RaisesJudged, RemovesJudged}
use Rattle.recovery_laws.specs.CountHistories.{CountsJudgements, KeepsSeldomJudged}
use Rattle.recovery_laws.specs.LeastPeriods.{KeepsFromLeastPeriod}
use Rattle.recovery_laws.specs.WrongVotes.{VotesWrong, IsJudgedByVote}
use Rattle.recovery_laws.specs.Lengths.{TakeLength}

-- What a cycle makes of the vote that a channel cast in the one before: who is judged is told by who counts against it,
-- and a damaged channel of which all others have a wrong ballot, or none, is judged.
pub record JudgesVote (M : MissionValue) (past : Past) (before e : Cycle) (q : Channel) : Type 0 where
  pub exactly : IsJudgedByVote M past before e q
  pub damaged : IsTrue (has before.active q) → IsTrue (has e.active q) → IsTrue (has before.damaged q) →
      VotesWrong M past before q →
      IsTrue (has e.judged q)

abbrev pub JudgesVotes : MissionValue → Past → Cycle → Type 0
JudgesVotes M [] e = ⊤
JudgesVotes M (before ∷ past) e = (q : Channel) → JudgesVote M past before e q

pub record DiagnosesRightly (M : MissionValue) (past : Past) : Type 0 where
  -- an undisturbed channel is left alone, and where it was so since it became active it has no blame
  pub alone : EachCycle (LeavesAlone M) past
  pub spotless : EachCycle (SparesSpotless M) past
  -- a removal has its cause, and a disturbed cycle adds 2 at most to a count
  pub costs : EachCycle (CostsTwo M) past
  pub causes : EachCycle (RemovesForCause M) past
  -- a silent channel is judged, and removed in time, and so is one that is judged in each cycle
  pub silent : EachCycle (FindsSilent M) past
  pub silent_removed : EachCycle (RemovesSilent M) past
  pub raised : EachCycle (RaisesJudged M) past
  pub removed : EachCycle (RemovesJudged M) past
  -- a wrong vote is judged in the next cycle
  pub votes : EachCycle (JudgesVotes M) past
  -- a count is that of the judgements, and one that is judged seldom stays
  pub counts : EachCycle (CountsJudgements M) past
  pub seldom : EachCycle (KeepsSeldomJudged M) past
  pub least : EachCycle (KeepsFromLeastPeriod M) past
  -- a transfer takes its length
  pub transfers : EachCycle (TakeLength M) past
