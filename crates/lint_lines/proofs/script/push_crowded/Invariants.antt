use Rattle.std.proofs.Common.{◌≡◌, ◌≤◌, ◌++◌}
use Rattle.std.specs.Prelude.{flat_map}
use Rattle.guards_model.specs.Channels.{numbers_below}
use Rattle.lint_lines.specs.ScriptLines.{crowded_line}
use Rattle.lint_lines.proofs.script.push_crowded.Given as goal

abbrev pub invariant-loop-cycle : goal.invariant-loop-cycle
invariant-loop-cycle l = record {
  within : l.cycle ≤ l.cycles;
  done : l.lines.items ≡ l.initial.lines.items ++ flat_map (crowded_line l.channels l.script) (numbers_below l.cycle);
}
