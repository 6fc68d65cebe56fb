-- The rows of a table, by the rows in memory.
use Rattle.std.proofs.Common.{◌≡◌, ℕ, zero, suc, ◌<◌, ◌≤◌, Bool, true, List, [], ◌∷◌, length, Some, sym, ap, ◌∙◌, subst}
use Rattle.std.specs.Prelude.{map, option_map, slice_get, unwrap_or, nat_lt}
use Rattle.std.specs.List.{list_all}
use Rattle.std.proofs.lemmas.List.{length-map}
use Rattle.std.proofs.lemmas.Option.{slice_get-map}
use Rattle.std.proofs.lemmas.Bool.{leb-true}
use Rattle.guards_base.specs.Seen.{Seen}
use Rattle.guards_model.specs.Tasks.{TaskValue, writes_of}
use Rattle.guards_model.specs.Missions.{row_in_turn}
use Rattle.guards_model.proofs.BoolTests.{both}
use Rattle.task_table.specs.Tables.{no_task, nth_task, named_tasks, names_tasks, tasks_in_row, places_of, table_naming, table_writes, TableValue}
use Rattle.task_table.proofs.RowWrites.{turn_named}
use Rattle.task_table.proofs.KeptRules.{turn_named_there}

pub row_count : (rows : List (Seen ℕ)) → length (places_of rows) ≡ length rows
row_count rows = length-map rows (λ row. row.items)

same_some : {A : Type 0} (x y : A) → Some x ≡ Some y → x ≡ y
same_some x y h = cc

-- the tasks of a row
pub named_at : (tasks : List TaskValue) (rows : List (Seen ℕ)) (n : ℕ) (row : Seen ℕ) → slice_get rows n ≡ Some row →
    tasks_in_row (map (named_tasks tasks) (places_of rows)) n ≡ named_tasks tasks row.items
named_at tasks [] n row h = absurd cc
named_at tasks (r ∷ rows) zero row h = ap (λ (x : Seen ℕ). named_tasks tasks x.items) (same_some r row h)
named_at tasks (r ∷ rows) (suc n) row h = named_at tasks rows n row h

-- a row passes what all pass
pub row_passes : (P : List ℕ → Bool) (rows : List (Seen ℕ)) (n : ℕ) (row : Seen ℕ) → slice_get rows n ≡ Some row →
    list_all P (places_of rows) ≡ true → P row.items ≡ true
row_passes P [] n row h all = absurd cc
row_passes P (r ∷ rows) zero row h all =
    ap (λ (x : Seen ℕ). P x.items) (sym (same_some r row h)) ∙ (both (P r.items) (list_all P (places_of rows)) all).0
row_passes P (r ∷ rows) (suc n) row h all =
    row_passes P rows n row h (both (P r.items) (list_all P (places_of rows)) all).1

-- a task that a row names is there
pub place_there : (count : ℕ) (row : List ℕ) (k p : ℕ) → slice_get row k ≡ Some p → names_tasks count row ≡ true →
    p < count
place_there count [] k p h all = absurd cc
place_there count (q ∷ row) zero p h all =
    subst (λ x. x < count) (same_some q p h)
    (leb-true (suc q) count (both (nat_lt q count) (names_tasks count row) all).0)
place_there count (q ∷ row) (suc k) p h all =
    place_there count row k p h (both (nat_lt q count) (names_tasks count row) all).1

-- a task of a row, by the place that the row names
pub named_task : (tasks : List TaskValue) (row : List ℕ) (k p : ℕ) (task : TaskValue) → slice_get row k ≡ Some p →
    slice_get tasks p ≡ Some task → slice_get (named_tasks tasks row) k ≡ Some task
named_task tasks row k p task here there =
    slice_get-map (nth_task tasks) row k ∙ ap (option_map (nth_task tasks)) here
    ∙ ap (λ o. Some (unwrap_or o no_task)) there

-- the writes of a cycle, by the row in turn that is lent
pub writes_in_turn : (tasks ts : List TaskValue) (rows : List (Seen ℕ)) (row : List ℕ) (blocks width cycle : ℕ)
    (table : TableValue) →
    ts ≡ tasks → row ≡ row_in_turn (places_of rows) cycle → table_naming tasks (places_of rows) blocks width ≡ table →
    writes_of (named_tasks ts row) ≡ table_writes table cycle
writes_in_turn tasks ts rows row blocks width cycle table a b v =
    ap (λ ts. writes_of (named_tasks ts row)) a ∙ ap (λ r. writes_of (named_tasks tasks r)) b
    ∙ sym (ap writes_of (turn_named tasks (places_of rows) cycle))
    ∙ ap (λ t. table_writes t cycle) v

-- the row in turn names tasks that are there
pub turn_names : (tasks ts : List TaskValue) (rows : List (Seen ℕ)) (row : List ℕ) (cycle : ℕ) → ts ≡ tasks →
    row ≡ row_in_turn (places_of rows) cycle →
    list_all (names_tasks (length tasks)) (places_of rows) ≡ true → names_tasks (length ts) row ≡ true
turn_names tasks ts rows row cycle a b named =
    ap (λ ts. names_tasks (length ts) row) a ∙ ap (names_tasks (length tasks)) b
    ∙ turn_named_there (length tasks) (places_of rows) cycle named
