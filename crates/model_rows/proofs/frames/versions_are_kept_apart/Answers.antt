use Rattle.std.proofs.Common.{refl}
use Rattle.guards_model.proofs.OnLiterals.{model_on_literals}
use Rattle.model_rows.proofs.frames.versions_are_kept_apart.Goals as goal

pub returns-clause-own : goal.returns-clause-own
unfolding model_on_literals
returns-clause-own c = refl

pub returns-clause-other : goal.returns-clause-other
unfolding model_on_literals
returns-clause-other c = refl
