use Rattle.std.proofs.Common.{rules, append_assoc}
use Rattle.lint_lines.specs.LineTexts.{line_text}
use Rattle.lint_lines.proofs.text.line_text.Goals as goal

pub returns : goal.returns
unfolding line_text
returns c = simp append_assoc (search rules)
