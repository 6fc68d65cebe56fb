use Rattle.std.proofs.Common.{List, ℕ, length, ap, ◌∙◌}
use Rattle.std.specs.Prelude.{nat_lt}
use Rattle.picture_run.proofs.Marked.{fewer}
use Rattle.picture_run.proofs.drawing.has_mark.Goals as goal

pub returns : goal.returns
returns c =
    ap (λ (m : List ℕ). nat_lt (length m) (length c.args.input.now)) c.requires ∙ fewer c.args.input.now
