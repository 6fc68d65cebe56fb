use Rattle.std.proofs.Common.{refl}
use Rattle.model_rows.proofs.TracesOnLiterals.{judged_on_literals}
use Rattle.model_rows.proofs.verdicts.changed_lines.Goals as goal

pub returns-clause-head : goal.returns-clause-head
unfolding judged_on_literals
returns-clause-head c = refl

pub returns-clause-number : goal.returns-clause-number
unfolding judged_on_literals
returns-clause-number c = refl

pub returns-clause-active : goal.returns-clause-active
unfolding judged_on_literals
returns-clause-active c = refl

pub returns-clause-transfer : goal.returns-clause-transfer
unfolding judged_on_literals
returns-clause-transfer c = refl

pub returns-clause-inputs : goal.returns-clause-inputs
unfolding judged_on_literals
returns-clause-inputs c = refl

pub returns-clause-vote : goal.returns-clause-vote
unfolding judged_on_literals
returns-clause-vote c = refl

pub returns-clause-judged : goal.returns-clause-judged
unfolding judged_on_literals
returns-clause-judged c = refl

pub returns-clause-counts : goal.returns-clause-counts
unfolding judged_on_literals
returns-clause-counts c = refl

pub returns-clause-letters : goal.returns-clause-letters
unfolding judged_on_literals
returns-clause-letters c = refl

pub returns-clause-copies : goal.returns-clause-copies
unfolding judged_on_literals
returns-clause-copies c = refl

pub returns-clause-removed : goal.returns-clause-removed
unfolding judged_on_literals
returns-clause-removed c = refl

pub returns-clause-joined : goal.returns-clause-joined
unfolding judged_on_literals
returns-clause-joined c = refl

pub returns-clause-remaining : goal.returns-clause-remaining
unfolding judged_on_literals
returns-clause-remaining c = refl

pub returns-clause-done : goal.returns-clause-done
unfolding judged_on_literals
returns-clause-done c = refl

pub returns-clause-spelling : goal.returns-clause-spelling
unfolding judged_on_literals
returns-clause-spelling c = refl
