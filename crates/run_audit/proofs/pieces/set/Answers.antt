use Rattle.std.proofs.Common.{ap, ◌∙◌}
use Rattle.guards_model.specs.Channels.{channels_where}
use Rattle.guards_model.specs.Frames.{is_set}
use Rattle.guards_model.proofs.AscendingLists.{set-where}
use Rattle.run_audit.specs.Pieces.{has_digit}
use Rattle.run_audit.proofs.PieceLemmas.{set_read}
use Rattle.run_audit.proofs.pieces.set.Goals as goal

pub returns-clause-read : goal.returns-clause-read
returns-clause-read c = λ set h e. c.digits.ensures ∙ ap (λ t. channels_where (has_digit t)) e ∙ set_read set h

pub returns-clause-formed : goal.returns-clause-formed
returns-clause-formed c = ap is_set c.digits.ensures ∙ set-where (has_digit c.args.text.now)
