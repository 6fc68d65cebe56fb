use Rattle.std.proofs.Common.{refl}
use Rattle.model_rows.proofs.TracesOnLiterals.{judged_on_literals}
use Rattle.model_rows.proofs.verdicts.misplaced_lines.Goals as goal

pub returns-clause-missing : goal.returns-clause-missing
unfolding judged_on_literals
returns-clause-missing c = refl

pub returns-clause-twice : goal.returns-clause-twice
unfolding judged_on_literals
returns-clause-twice c = refl

pub returns-clause-order : goal.returns-clause-order
unfolding judged_on_literals
returns-clause-order c = refl

pub returns-clause-early : goal.returns-clause-early
unfolding judged_on_literals
returns-clause-early c = refl

pub returns-clause-after : goal.returns-clause-after
unfolding judged_on_literals
returns-clause-after c = refl

pub returns-clause-stop : goal.returns-clause-stop
unfolding judged_on_literals
returns-clause-stop c = refl

pub returns-clause-no_end : goal.returns-clause-no_end
unfolding judged_on_literals
returns-clause-no_end c = refl
