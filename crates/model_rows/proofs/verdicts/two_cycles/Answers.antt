use Rattle.std.proofs.Common.{refl}
use Rattle.model_rows.proofs.TracesOnLiterals.{judged_on_literals}
use Rattle.model_rows.proofs.verdicts.two_cycles.Goals as goal

pub returns-clause-is_text : goal.returns-clause-is_text
unfolding judged_on_literals
returns-clause-is_text c = refl

pub returns-clause-good : goal.returns-clause-good
unfolding judged_on_literals
returns-clause-good c = refl

pub returns-clause-nothing : goal.returns-clause-nothing
unfolding judged_on_literals
returns-clause-nothing c = refl
