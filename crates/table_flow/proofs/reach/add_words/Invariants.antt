use Rattle.std.proofs.Common.{take, map, option_map}
use Rattle.expr_core.specs.Tree.{tree}
use Rattle.context_blocks.specs.BlockSets.{flag_at}
use Rattle.table_flow.specs.Flow.{FlowsInto, lists_from, word_assignments}
use Rattle.table_flow.proofs.reach.add_words.Given as goal

abbrev pub invariant-loop-word : goal.invariant-loop-word
invariant-loop-word l = FlowsInto (flag_at l.kept)
    (lists_from (word_assignments l.block) 0 (take l.word (map (option_map tree) l.set))) l.initial.flow l.flow
