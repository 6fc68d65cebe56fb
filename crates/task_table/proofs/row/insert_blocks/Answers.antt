use Rattle.std.proofs.Common.{rules, tests, ◌≡◌, ◌∙◌, refl, sym, ap, subst, ℕ, ◌+◌, ◌-◌, ◌*◌, ◌<◌, ◌≤◌, ◌==◌, Bool, true, false, cond, ◌&&◌, ◌||◌, List, [], ◌∷◌, ◌++◌, length, take, drop, get_or, Option, Some, None, arith, length-append}
use Rattle.std.specs.Prelude.{nat_lt}
use Rattle.std.specs.List.{list_all}
use Rattle.guards_model.specs.Channels.{has}
use Rattle.guards_model.specs.Tasks.{WriteValue}
use Rattle.context_blocks.specs.BlockSets.{blocks_where}
use Rattle.task_table.proofs.RowWrites.{blocks_in}
use Rattle.task_table.proofs.SetOfBlocks.{none_added, one_added, blocks_more, low_more}
use Rattle.task_table.proofs.row.insert_blocks.Goals as goal

pub loop-write-init : goal.loop-write-init
loop-write-init c = record { set = λ test is. is ∙ none_added test; low = refl }

pub loop-write-preserved : goal.loop-write-preserved
loop-write-preserved c =
    let writes = c.args.writes.now in
    let at = c.loop-write.write-index in
    let done = blocks_in (take at writes) in
    let block : c.write.inside.block ≡ c.write-item.result.block = ap (λ (w : WriteValue). w.block) c.write.view_is in
    let more : blocks_in (take (at + 1) writes) ≡ done ++ c.write.inside.block ∷ [] =
    blocks_more writes at c.write-item.result c.loop-write-test.true c.write-item.is
    ∙ ap (λ b. done ++ b ∷ []) (sym block) in
    let fits : c.write.inside.block < 256 = search rules in
    record {
      set = λ test is.
          c.insert.ensures ∙ one_added test done c.write.inside.block c.loop-write.blocks
          (c.loop-write.invariant.set test is)
          ∙ ap (λ xs. blocks_where (λ b. test b || has xs b)) (sym more);
      low = ap (list_all (λ b. nat_lt b 256)) more ∙ low_more done c.write.inside.block c.loop-write.invariant.low fits;
    }
