use Rattle.std.proofs.Common.{refl}
use Rattle.model_rows.proofs.TracesOnLiterals.{judged_on_literals}
use Rattle.model_rows.proofs.verdicts.driven_words.Goals as goal

pub returns-clause-good : goal.returns-clause-good
unfolding judged_on_literals
returns-clause-good c = refl

pub returns-clause-other : goal.returns-clause-other
unfolding judged_on_literals
returns-clause-other c = refl

pub returns-clause-missing : goal.returns-clause-missing
unfolding judged_on_literals
returns-clause-missing c = refl

pub returns-clause-spelling : goal.returns-clause-spelling
unfolding judged_on_literals
returns-clause-spelling c = refl

pub returns-clause-no_actuator : goal.returns-clause-no_actuator
unfolding judged_on_literals
returns-clause-no_actuator c = refl
