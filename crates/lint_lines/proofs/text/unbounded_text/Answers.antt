use Rattle.std.proofs.Common.{rules, append_assoc}
use Rattle.lint_lines.proofs.text.unbounded_text.Goals as goal

pub returns : goal.returns
returns c = simp append_assoc (search rules)
