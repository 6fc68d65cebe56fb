use Rattle.std.proofs.Common.{refl, arith}
use Rattle.guards_runs.proofs.RunsOnLiterals.{run_on_literals}
use Rattle.model_rows.specs.Restored as row
use Rattle.recovery_laws.proofs.TargetsKept.{had_since}
use Rattle.law_rows.proofs.lengths.crash_and_return_runs.Goals as goal

pub returns-clause-starts : goal.returns-clause-starts
unfolding run_on_literals
returns-clause-starts c = refl

pub returns-clause-kept : goal.returns-clause-kept
unfolding run_on_literals
returns-clause-kept c = (had_since row.mission row.log 4 3 5 (omega arith) refl).kept

pub returns-clause-joined : goal.returns-clause-joined
unfolding run_on_literals
returns-clause-joined c = refl
