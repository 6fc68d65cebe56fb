use Rattle.std.proofs.Common.{rules, tests, ◌≡◌, ◌∙◌, refl, sym, ap, subst, ℕ, ◌+◌, ◌-◌, ◌*◌, ◌<◌, ◌≤◌, ◌==◌, Bool, true, false, cond, ◌&&◌, ◌||◌, List, [], ◌∷◌, ◌++◌, length, take, drop, get_or, Option, Some, None, arith, length-append}
use Rattle.std.specs.Prelude.{option_map, slice_get, nat_le}
use Rattle.std.proofs.lemmas.Bool.{le-leb}
use Rattle.std.proofs.lemmas.Option.{slice_get-map, slice_get_read}
use Rattle.guards_base.specs.Seen.{Seen}
use Rattle.task_table.specs.declared.fault.TableFault.TheVariants.{Row}
use Rattle.task_table.specs.TableFaults.{fault_or, first_fault, row_fault}
use Rattle.task_table.specs.Tables.{places_of}
use Rattle.task_table.proofs.Faults.{fault_at}
use Rattle.task_table.proofs.checks.rows_fault.Goals as goal

-- the row in memory is the one at its place
row_there : (rows : List (Seen ℕ)) (at : ℕ) (row : Seen ℕ) → at < length rows → row ≡ get_or rows at row →
    slice_get (places_of rows) at ≡ Some row.items
row_there rows at row low is =
    slice_get-map (λ (r : Seen ℕ). r.items) rows at
    ∙ ap (option_map (λ (r : Seen ℕ). r.items)) (slice_get_read rows (length rows) at row refl low is)

pub returns-then-len-gt-MOST_TASKS_OF_ROW : goal.returns-then-len-gt-MOST_TASKS_OF_ROW
returns-then-len-gt-MOST_TASKS_OF_ROW c =
    let rows = c.args.rows.now in
    let at = c.loop-number.number in
    let row = c.index-rows-number.result in
    let long : nat_le (length row.items) 16 ≡ false =
    grind (arith, c.if-len-gt-MOST_TASKS_OF_ROW.true, c.len.ensures) in
    let here = row_there rows at row c.loop-number-test.true c.index-rows-number.is in
    sym (
    c.loop-number.invariant ∙ fault_at row_fault (places_of rows) at row.items here
    ∙ ap (λ b. fault_or (cond b None (Some (Row at))) (first_fault row_fault (at + 1) (drop (at + 1) (places_of rows))))
    long
    )

pub loop-number-preserved : goal.loop-number-preserved
loop-number-preserved c =
    let rows = c.args.rows.now in
    let at = c.loop-number.number in
    let row = c.index-rows-number.result in
    let short : nat_le (length row.items) 16 ≡ true =
    le-leb (length row.items) 16 (omega (arith, c.if-len-gt-MOST_TASKS_OF_ROW.false, c.len.ensures)) in
    let here = row_there rows at row c.loop-number-test.true c.index-rows-number.is in
    c.loop-number.invariant ∙ fault_at row_fault (places_of rows) at row.items here
    ∙ ap (λ b. fault_or (cond b None (Some (Row at))) (first_fault row_fault (at + 1) (drop (at + 1) (places_of rows))))
    short
