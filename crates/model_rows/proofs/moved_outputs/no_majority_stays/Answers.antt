use Rattle.std.proofs.Common.{refl}
use Rattle.model_rows.proofs.moved_outputs.no_majority_stays.Goals as goal

pub returns : goal.returns
returns c = refl
