use Rattle.std.proofs.Common.{sym}
use Rattle.guards_model.proofs.Numbers.{word_of_fits}
use Rattle.expr_core.proofs.shape.is_word.Goals as goal

pub returns : goal.returns
returns c = sym (word_of_fits c.args.number c.ranges.number)
