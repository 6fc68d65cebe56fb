use Rattle.std.proofs.Common.{append_assoc}
use Rattle.svg_text.specs.Pieces.{rect_text}
use Rattle.svg_text.proofs.pieces.rect.Goals as goal

pub returns : goal.returns
unfolding rect_text
returns c =
    simp append_assoc
    (simp (append_assoc, c.in_ok-place.ensures, c.in_ok-size.ensures, c.in_ok-title.ensures) at c.format.ensures.ok)
