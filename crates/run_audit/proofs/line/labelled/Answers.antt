use Rattle.std.proofs.Common.{◌∷◌}
use Rattle.run_audit.proofs.line.labelled.Goals as goal

pub returns : goal.returns
returns c = λ label first rest h k e.
    c.piece-2.ensures.cut first rest k (c.piece.ensures.cut label (first ∷ rest) h e).1
