-- Lists seen by their elements.
use Rattle.std.proofs.Common.{◌≡◌, ℕ, List, map, true, refl}
use Rattle.std.specs.List.{list_all}
use Rattle.std.proofs.lemmas.List.{map-id}
use Rattle.std.proofs.lemmas.List.Folds.{list_all-map}
use Rattle.guards_base.specs.Seen.{Seen}
use Rattle.task_table.specs.Tables.{names_tasks, places_of}

pub same_list : {A : Type 0} (xs : List A) → map (λ (x : A). x) xs ≡ xs
same_list xs = map-id xs

-- rows that name tasks
pub rows_named : (count : ℕ) (rows : List (Seen ℕ)) → list_all (λ row. names_tasks count row.items) rows ≡ true →
    list_all (names_tasks count) (places_of rows) ≡ true
rows_named count rows named = rw (list_all-map (names_tasks count) (λ row. row.items) rows, named) refl
