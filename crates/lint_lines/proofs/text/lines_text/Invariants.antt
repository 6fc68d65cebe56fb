use Rattle.std.proofs.Common.{◌≡◌, take}
use Rattle.std.specs.Prelude.{flat_map}
use Rattle.lint_lines.specs.LineTexts.{line_text}
use Rattle.lint_lines.proofs.text.lines_text.Given as goal

abbrev pub invariant-loop-place : goal.invariant-loop-place
invariant-loop-place l = l.text ≡ flat_map line_text (take l.place l.lines)
