use Rattle.std.proofs.Common.{sym, ◌∙◌}
use Rattle.run_audit.proofs.PieceLemmas.{running_read}
use Rattle.run_audit.proofs.pieces.transfer.Goals as goal

pub returns-clause-read : goal.returns-clause-read
returns-clause-read c =
    λ t h e.
    running_read c.args.text.now c.piece.result.0.now c.piece.result.1.now c.set.result c.number.result t
    (sym c.eq.ensures ∙ c.if-eq.false) h e c.piece.ensures.cut c.set.ensures.read c.number.ensures.read
