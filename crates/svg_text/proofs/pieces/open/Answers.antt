use Rattle.std.proofs.Common.{append_assoc}
use Rattle.svg_text.specs.Pieces.{open_text}
use Rattle.svg_text.proofs.pieces.open.Goals as goal

pub returns : goal.returns
unfolding open_text
returns c =
    simp append_assoc
    (simp (
      append_assoc,
      c.svg_name-name.ensures,
      c.in_ok-view.ensures,
      c.page_style-style.ensures,
      c.in_ok-title.ensures,
    ) at c.format.ensures.ok)
