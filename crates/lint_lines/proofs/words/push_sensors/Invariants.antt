use Rattle.std.proofs.Common.{◌≡◌, ◌≤◌, ◌++◌}
use Rattle.std.specs.Prelude.{flat_map}
use Rattle.context_blocks.specs.BlockSets.{flag_at}
use Rattle.guards_model.specs.Channels.{numbers_below}
use Rattle.lint_lines.specs.WordLines.{sensor_line}
use Rattle.lint_lines.proofs.words.push_sensors.Given as goal

abbrev pub invariant-loop-k : goal.invariant-loop-k
invariant-loop-k l = record {
  within : l.k ≤ l.width;
  done : l.lines.items ≡ l.initial.lines.items ++ flat_map (sensor_line (flag_at l.read)) (numbers_below l.k);
}
