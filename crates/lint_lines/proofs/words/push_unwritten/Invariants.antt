use Rattle.std.proofs.Common.{◌≡◌, ◌≤◌, ◌++◌}
use Rattle.std.specs.Prelude.{flat_map}
use Rattle.context_blocks.specs.BlockSets.{flag_at}
use Rattle.guards_model.specs.Channels.{numbers_below}
use Rattle.lint_lines.specs.WordLines.{unwritten_line}
use Rattle.lint_lines.proofs.words.push_unwritten.Given as goal

abbrev pub invariant-loop-w : goal.invariant-loop-w
invariant-loop-w l = record {
  within : l.w ≤ l.count;
  done : l.lines.items ≡ l.initial.lines.items
      ++ flat_map (unwritten_line l.context (flag_at l.flow.words) (flag_at l.flow.written)) (numbers_below l.w);
}
