use Rattle.std.proofs.Common.{◌≡◌, ◌++◌, take}
use Rattle.context_blocks.specs.BlockSets.{flag_at}
use Rattle.table_flow.specs.Flow.{lists_from}
use Rattle.lint_lines.specs.WordLines.{output_line}
use Rattle.lint_lines.proofs.words.push_outputs.Given as goal

abbrev pub invariant-loop-place : goal.invariant-loop-place
invariant-loop-place l = l.lines.items
    ≡ l.initial.lines.items ++ lists_from (output_line (flag_at l.written)) 0 (take l.place l.outputs)
