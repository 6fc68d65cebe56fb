use Rattle.std.proofs.Common.{◌≡◌, ◌≤◌}
use Rattle.lint_lines.specs.ScriptLines.{is_down_before}
use Rattle.lint_lines.proofs.script.is_down_before.Given as goal

abbrev pub invariant-loop-before : goal.invariant-loop-before
invariant-loop-before l = record {
  within : l.before ≤ l.cycle;
  down : l.down ≡ is_down_before l.script l.channel l.before;
}
