-- Lists of lines.
use Rattle.std.specs.Prelude.{List, [], ◌∷◌, Option, Some, None}
use Rattle.lint_lines.specs.declared.line.LintLine.{LintLine}

-- a line that there may be, as a list
abbrev pub option_list : Option LintLine → List LintLine
option_list None = []
option_list (Some line) = line ∷ []
