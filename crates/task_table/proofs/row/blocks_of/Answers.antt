use Rattle.std.proofs.Common.{rules, tests, ◌≡◌, ◌∙◌, refl, sym, ap, subst, ℕ, ◌+◌, ◌-◌, ◌*◌, ◌<◌, ◌≤◌, ◌==◌, Bool, true, false, cond, ◌&&◌, ◌||◌, List, [], ◌∷◌, ◌++◌, length, take, drop, get_or, Option, Some, None, arith, length-append}
use Rattle.std.specs.Prelude.{map, nat_lt}
use Rattle.std.specs.List.{list_all}
use Rattle.std.proofs.lemmas.List.{map-append}
use Rattle.guards_model.specs.Channels.{has}
use Rattle.guards_model.specs.Tasks.{WriteValue}
use Rattle.guards_model.proofs.ListTests.{all-append}
use Rattle.context_blocks.specs.BlockSets.{blocks_where}
use Rattle.context_blocks.proofs.FlagSets.{where_none}
use Rattle.task_table.specs.Tables.{nth_task}
use Rattle.task_table.proofs.RowWrites.{named_writes, blocks_in, named_more, task_read}
use Rattle.task_table.proofs.SetOfBlocks.{both_added}
use Rattle.task_table.proofs.row.blocks_of.Goals as goal

pub loop-place-init : goal.loop-place-init
loop-place-init c = record { set = c.empty-blocks.ensures ∙ sym (where_none 256 (has []) (λ b. refl)); low = refl }

pub loop-place-preserved : goal.loop-place-preserved
loop-place-preserved c =
    let tasks = c.args.tasks.now in
    let row = c.args.row.now in
    let at = c.loop-place.place-index in
    let this = nth_task tasks (get_or row at 0) in
    let writes = c.as_slice.result.now in
    let same : this.writes ≡ writes =
    ap (λ t. t.writes) (task_read tasks row at c.index-tasks-place.result c.requires c.loop-place-test.true
    c.index-tasks-place.is)
    ∙ sym (ap (λ t. t.writes) c.task.view_is) ∙ sym c.as_slice.ensures in
    let done = blocks_in (named_writes tasks (take at row)) in
    let more : blocks_in (named_writes tasks (take (at + 1) row)) ≡ done ++ blocks_in writes =
    ap blocks_in (named_more tasks row at 0 c.loop-place-test.true)
    ∙ map-append (λ (w : WriteValue). w.block) (named_writes tasks (take at row)) this.writes
    ∙ ap (λ ws. done ++ blocks_in ws) same in
    record {
      set = c.insert_blocks.ensures.set (has done) c.loop-place.invariant.set ∙ both_added done (blocks_in writes)
          ∙ ap (λ xs. blocks_where (has xs)) (sym more);
      low = ap (list_all (λ b. nat_lt b 256)) more
          ∙ all-append (λ b. nat_lt b 256) done (blocks_in writes) c.loop-place.invariant.low
          c.insert_blocks.ensures.low;
    }
