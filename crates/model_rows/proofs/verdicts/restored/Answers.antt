use Rattle.std.proofs.Common.{refl}
use Rattle.model_rows.proofs.TracesOnLiterals.{judged_on_literals}
use Rattle.model_rows.proofs.verdicts.restored.Goals as goal

pub returns : goal.returns
unfolding judged_on_literals
returns c = refl
