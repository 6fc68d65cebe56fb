use Rattle.std.proofs.Common.{◌≡◌, ◌++◌, take}
use Rattle.std.specs.Prelude.{flat_map}
use Rattle.lint_lines.specs.ScriptLines.{idle_rule}
use Rattle.lint_lines.proofs.script.push_idle_rules.Given as goal

abbrev pub invariant-loop-rule : goal.invariant-loop-rule
invariant-loop-rule l = l.lines.items
    ≡ l.initial.lines.items ++ flat_map (idle_rule l.channels l.rounds l.drives) (take l.rule-index l.rules)
