-- What is written of a mission: a list of lines, in the order of their paths. This project's own.
use Rattle.std.specs.Prelude.{List, ◌++◌}
use Rattle.guards_model.specs.Missions.{MissionValue}
use Rattle.lint_lines.specs.declared.line.LintLine.{LintLine}
use Rattle.lint_lines.specs.ScriptLines.{script_lines}
use Rattle.lint_lines.specs.WordLines.{word_lines}
use Rattle.mission_lint.specs.RuleLines.{rule_lines}

-- the lines on the rules, whose paths begin with `core`; those on the script, with `fault`; and those on words, with
-- `outputs`, `sensors` and `task`
unfoldable pub lint_of : MissionValue → List LintLine
lint_of M = rule_lines M ++ (script_lines M ++ word_lines M)
