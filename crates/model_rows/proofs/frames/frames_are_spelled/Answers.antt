use Rattle.std.proofs.Common.{refl}
use Rattle.guards_model.proofs.OnLiterals.{model_on_literals}
use Rattle.model_rows.proofs.frames.frames_are_spelled.Goals as goal

pub returns-clause-spelled : goal.returns-clause-spelled
unfolding model_on_literals
returns-clause-spelled c = refl

pub returns-clause-found : goal.returns-clause-found
unfolding model_on_literals
returns-clause-found c = refl

pub returns-clause-others : goal.returns-clause-others
unfolding model_on_literals
returns-clause-others c = refl
