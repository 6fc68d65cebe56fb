use Rattle.std.proofs.Common.{rules, tests, ◌≡◌, ◌∙◌, refl, sym, ap, subst, ℕ, ◌+◌, ◌-◌, ◌*◌, ◌<◌, ◌≤◌, ◌==◌, Bool, true, false, cond, ◌&&◌, ◌||◌, List, [], ◌∷◌, ◌++◌, length, take, drop, get_or, Option, Some, None, arith, length-append}
use Rattle.std.specs.Prelude.{map, option_map, max, slice_get, fold}
use Rattle.std.proofs.lemmas.List.{take_more, map-append, length-map}
use Rattle.std.proofs.lemmas.List.Sums.{fold-append}
use Rattle.std.proofs.lemmas.Option.{slice_get-map, slice_get_read, get_or_from_slice_get}
use Rattle.guards_base.specs.Seen.{Seen}
use Rattle.guards_model.specs.Tasks.{TaskValue}
use Rattle.guards_model.specs.JoinBound.{most_blocks, blocks_of_row}
use Rattle.task_table.specs.Tables.{named_tasks, names_tasks, places_of}
use Rattle.task_table.proofs.RowWrites.{named_writes, blocks_in}
use Rattle.task_table.proofs.DistinctBlocks.{distinct_counted}
use Rattle.task_table.proofs.TableRows.{row_passes}
use Rattle.task_table.proofs.row.most_of_rows.Goals as goal

-- one more row
row_more : (tasks : List TaskValue) (rows : List (Seen ℕ)) (at : ℕ) (row : Seen ℕ) (places : List ℕ) →
    slice_get rows at ≡ Some row → at < length (places_of rows) → places ≡ row.items →
    most_blocks (map (named_tasks tasks) (take (at + 1) (places_of rows)))
    ≡ max (most_blocks (map (named_tasks tasks) (take at (places_of rows))))
    (blocks_of_row (named_tasks tasks places))
row_more tasks rows at row places here low same =
    let there : slice_get (places_of rows) at ≡ Some row.items =
    slice_get-map (λ (r : Seen ℕ). r.items) rows at ∙ ap (option_map (λ (r : Seen ℕ). r.items)) here in
    let this : get_or (places_of rows) at [] ≡ places =
    get_or_from_slice_get (places_of rows) at row.items [] there ∙ sym same in
    ap (λ (rs : List (List ℕ)). most_blocks (map (named_tasks tasks) rs)) (take_more (places_of rows) at [] low)
    ∙ ap most_blocks (map-append (named_tasks tasks) (take at (places_of rows)) (get_or (places_of rows) at [] ∷ []))
    ∙ fold-append (λ n row. max n (blocks_of_row row)) 0 (map (named_tasks tasks) (take at (places_of rows)))
    (named_tasks tasks (get_or (places_of rows) at []) ∷ [])
    ∙ ap (λ p. max (most_blocks (map (named_tasks tasks) (take at (places_of rows))))
    (blocks_of_row (named_tasks tasks p))) this

pub blocks_of-requires : goal.blocks_of-requires
blocks_of-requires c =
    let rows = c.args.rows.now in
    let row = c.row-item.result in
    let here = slice_get_read rows (length rows) c.loop-row.row-index row refl c.loop-row-test.true c.row-item.is in
    ap (names_tasks (length c.args.tasks.now)) c.as_slice.ensures
    ∙ row_passes (names_tasks (length c.args.tasks.now)) rows c.loop-row.row-index row here c.requires

pub loop-row-preserved : goal.loop-row-preserved
loop-row-preserved c =
    let tasks = c.args.tasks.now in
    let rows = c.args.rows.now in
    let row = c.row-item.result in
    let at = c.loop-row.row-index in
    let places = c.as_slice.result.now in
    let here = slice_get_read rows (length rows) at row refl c.loop-row-test.true c.row-item.is in
    let count : c.count-count.result ≡ blocks_of_row (named_tasks tasks places) =
    c.count-count.ensures ∙ ap length c.blocks_of.ensures.set
    ∙ distinct_counted 256 (blocks_in (named_writes tasks places)) c.blocks_of.ensures.low in
    c.max-most.ensures ∙ ap (λ n. max n c.count-count.result) c.loop-row.invariant
    ∙ ap (max (most_blocks (map (named_tasks tasks) (take at (places_of rows))))) count
    ∙ sym (row_more tasks rows at row places here
    (omega (arith, c.loop-row-test.true, length-map rows (λ (r : Seen ℕ). r.items))) c.as_slice.ensures)
