-- What the writes of a row have to do with the assignments of the whole table.
use Rattle.std.proofs.Common.{◌≡◌, ◌∙◌, ◌<◌, ◌≤◌, ◌+◌, ◌*◌, ◌==◌, ℕ, zero, suc, Bool, true, ◌&&◌, List, [], ◌∷◌, ◌++◌, length, Option, Some, None, refl, sym, ap, arith}
use Rattle.std.specs.Prelude.{flat_map, nat_le, nat_lt, slice_get, unwrap_or, is_some}
use Rattle.std.specs.List.{list_all, list_any}
use Rattle.std.proofs.lemmas.Bool.{ltb-true, lt-ltb, eqb-true}
use Rattle.std.proofs.lemmas.List.Folds.{list_any-append}
use Rattle.guards_model.specs.Expressions.{Expression, fits_or_none}
use Rattle.guards_model.specs.Missions.{within, is_table, is_task_in_range, is_write}
use Rattle.guards_model.specs.Tasks.{TaskValue, WriteValue, writes_of}
use Rattle.guards_model.proofs.BoolTests.{and_true, both, or_left, or_true}
use Rattle.guards_model.proofs.ListTests.{all-append}
use Rattle.table_flow.specs.Flow.{Assignment, assignments, lists_from, row_assignments, task_assignments, word_assignments, write_assignments, word_number}

-- a list whose elements are all in another one, by what some of them pass
abbrev pub IsPart : List Assignment → List Assignment → Type 0
IsPart part whole = (q : Assignment → Bool) → list_any q part ≡ true → list_any q whole ≡ true

pub first_part : (xs ys whole : List Assignment) → IsPart (xs ++ ys) whole → IsPart xs whole
first_part xs ys whole part q h = part q (list_any-append q xs ys ∙ or_left (list_any q xs) (list_any q ys) h)

pub second_part : (xs ys whole : List Assignment) → IsPart (xs ++ ys) whole → IsPart ys whole
second_part xs ys whole part q h = part q (list_any-append q xs ys ∙ or_true (list_any q xs) (list_any q ys) h)

-- each write's assignments are in a list
abbrev pub AllParts : List WriteValue → List Assignment → Type 0
AllParts [] whole = Unit {0}
AllParts (w ∷ ws) whole = IsPart (write_assignments w) whole × AllParts ws whole

parts_both : (xs ys : List WriteValue) (whole : List Assignment) → AllParts xs whole → AllParts ys whole →
    AllParts (xs ++ ys) whole
parts_both [] ys whole first second = second
parts_both (w ∷ xs) ys whole first second = (first.0, parts_both xs ys whole first.1 second)

parts_of_writes : (ws : List WriteValue) (whole : List Assignment) → IsPart (flat_map write_assignments ws) whole →
    AllParts ws whole
parts_of_writes [] whole part = tt
parts_of_writes (w ∷ ws) whole part = (
  first_part (write_assignments w) (flat_map write_assignments ws) whole part,
  parts_of_writes ws whole (second_part (write_assignments w) (flat_map write_assignments ws) whole part),
)

parts_of_task : (t : TaskValue) (whole : List Assignment) → IsPart (task_assignments t) whole → AllParts t.writes whole
unfolding task_assignments
parts_of_task t whole part = parts_of_writes t.writes whole part

parts_of_tasks : (ts : List TaskValue) (whole : List Assignment) → IsPart (flat_map task_assignments ts) whole →
    AllParts (writes_of ts) whole
parts_of_tasks [] whole part = tt
parts_of_tasks (t ∷ ts) whole part =
    parts_both t.writes (writes_of ts) whole
    (parts_of_task t whole (first_part (task_assignments t) (flat_map task_assignments ts) whole part))
    (parts_of_tasks ts whole (second_part (task_assignments t) (flat_map task_assignments ts) whole part))

parts_of_row : (ts : List TaskValue) (whole : List Assignment) → IsPart (row_assignments ts) whole →
    AllParts (writes_of ts) whole
unfolding row_assignments
parts_of_row ts whole part = parts_of_tasks ts whole part

none_of_row : (whole : List Assignment) → IsPart (row_assignments []) whole
unfolding row_assignments
none_of_row whole q h = absurd cc

row_part : (table : List (List TaskValue)) (n : ℕ) →
    IsPart (row_assignments (unwrap_or (slice_get table n) [])) (flat_map row_assignments table)
row_part [] zero q h = none_of_row [] q h
row_part [] (suc n) q h = none_of_row [] q h
row_part (r ∷ rs) zero q h =
    list_any-append q (row_assignments r) (flat_map row_assignments rs)
    ∙ or_left (list_any q (row_assignments r)) (list_any q (flat_map row_assignments rs)) h
row_part (r ∷ rs) (suc n) q h =
    list_any-append q (row_assignments r) (flat_map row_assignments rs)
    ∙ or_true (list_any q (row_assignments r)) (list_any q (flat_map row_assignments rs)) (row_part rs n q h)

-- the writes of each row are in the table
pub parts_of_table : (table : List (List TaskValue)) (n : ℕ) →
    AllParts (writes_of (unwrap_or (slice_get table n) [])) (assignments table)
unfolding assignments
parts_of_table table n = parts_of_row (unwrap_or (slice_get table n) []) (flat_map row_assignments table)
    (row_part table n)

-- the write at a place
pub part_at : (ws : List WriteValue) (whole : List Assignment) (k : ℕ) (w : WriteValue) → AllParts ws whole →
    slice_get ws k ≡ Some w → IsPart (write_assignments w) whole
part_at [] whole k w parts h = absurd cc
part_at (x ∷ ws) whole zero w parts h = by (same x w h)
  where
    same : (x w : WriteValue) → Some x ≡ Some w → x ≡ w
    same x w h = cc

    by : x ≡ w → IsPart (write_assignments w) whole
    by e q any = parts.0 q (ap (λ (v : WriteValue). list_any q (write_assignments v)) e ∙ any)
part_at (x ∷ ws) whole (suc k) w parts h = part_at ws whole k w parts.1 h

pub write_at : (blocks width : ℕ) (ws : List WriteValue) (k : ℕ) (w : WriteValue) →
    list_all (is_write blocks width) ws ≡ true → slice_get ws k ≡ Some w → is_write blocks width w ≡ true
write_at blocks width [] k w all h = absurd cc
write_at blocks width (x ∷ ws) zero w all h =
    ap (is_write blocks width) (sym (same x w h))
    ∙ (both (is_write blocks width x) (list_all (is_write blocks width) ws) all).0
  where
    same : (x w : WriteValue) → Some x ≡ Some w → x ≡ w
    same x w h = cc
write_at blocks width (x ∷ ws) (suc k) w all h =
    write_at blocks width ws k w (both (is_write blocks width x) (list_all (is_write blocks width) ws) all).1 h

-- ---- each assignment is to a word of the context

module _ (blocks width : ℕ) where
  abbrev is_low : Assignment → Bool
  is_low a = nat_lt a.word (blocks * 8)

  low_set : (block place : ℕ) (set : List (Option Expression)) → block < blocks → place + length set ≤ 8 →
      list_all is_low (lists_from (word_assignments block) place set) ≡ true
  low_set block place [] here short = refl
  low_set block place (None ∷ set) here short = low_set block (place + 1) set here (omega (arith, short))
  low_set block place (Some e ∷ set) here short =
      and_true (nat_lt (word_number block place) (blocks * 8))
      (list_all is_low (lists_from (word_assignments block) (place + 1) set))
      (lt-ltb (word_number block place) (blocks * 8) (omega (arith, here, short)))
      (low_set block (place + 1) set here (omega (arith, short)))

  low_write : (w : WriteValue) → is_write blocks width w ≡ true → list_all is_low (write_assignments w) ≡ true
  unfolding write_assignments
  low_write w h =
      let parts = both (nat_lt w.block blocks) (length w.set == 8)
      (both (nat_lt w.block blocks && length w.set == 8)
      (list_all (fits_or_none blocks width) w.set && list_any is_some w.set) h).0 in
      let eight : length w.set ≡ 8 = eqb-true (length w.set) 8 parts.1 in
      low_set w.block 0 w.set (ltb-true w.block blocks parts.0) (omega (arith, eight))

  low_flat : {A : Type 0} (guard : A → Bool) (f : A → List Assignment) (xs : List A) →
      ((x : A) → guard x ≡ true → list_all is_low (f x) ≡ true) → list_all guard xs ≡ true →
      list_all is_low (flat_map f xs) ≡ true
  low_flat guard f [] each all = refl
  low_flat guard f (x ∷ xs) each all =
      let parts = both (guard x) (list_all guard xs) all in
      all-append is_low (f x) (flat_map f xs) (each x parts.0) (low_flat guard f xs each parts.1)

  low_task : (t : TaskValue) → is_task_in_range blocks width t ≡ true → list_all is_low (task_assignments t) ≡ true
  unfolding task_assignments
  low_task t h = low_flat (is_write blocks width) write_assignments t.writes low_write
      (both (within 1 16 (length t.writes)) (list_all (is_write blocks width) t.writes) h).1

  abbrev is_row : List TaskValue → Bool
  is_row tasks = nat_le (length tasks) 16 && list_all (is_task_in_range blocks width) tasks

  low_row : (tasks : List TaskValue) → is_row tasks ≡ true → list_all is_low (row_assignments tasks) ≡ true
  unfolding row_assignments
  low_row tasks h = low_flat (is_task_in_range blocks width) task_assignments tasks low_task
      (both (nat_le (length tasks) 16) (list_all (is_task_in_range blocks width) tasks) h).1

  pub low_table : (table : List (List TaskValue)) → is_table blocks width table ≡ true →
      list_all is_low (assignments table) ≡ true
  unfolding assignments
  low_table table h = low_flat is_row row_assignments table low_row
      (both (within 1 16 (length table)) (list_all is_row table) h).1
