-- What holds of tasks and rows that break no rule.
use Rattle.std.proofs.Common.{◌≡◌, ℕ, zero, suc, ◌+◌, ◌%◌, ◌<◌, ◌≤◌, Bool, true, false, cond, ◌&&◌, List, [], ◌∷◌, length, Option, Some, None, refl, sym, ap, ◌∙◌, arith}
use Rattle.std.specs.Prelude.{nat_lt, nat_le, map, slice_get, unwrap_or, is_some}
use Rattle.std.specs.List.{list_all, list_any}
use Rattle.std.proofs.lemmas.Bool.{leb-true, le-leb}
use Rattle.guards_model.specs.Expressions.{Expression, number, cycle_number, input, block_word, negative, binary, call, pick, fits_sizes, fits_or_none}
use Rattle.guards_model.specs.Missions.{within, row_in_turn}
use Rattle.guards_model.specs.Tasks.{WriteValue, TaskValue, writes_of}
use Rattle.guards_model.proofs.BoolTests.{both, and_true}
use Rattle.guards_model.proofs.ListTests.{weaken, place_passes, all-append}
use Rattle.task_table.specs.declared.fault.TableFault.{TableFault}
use Rattle.task_table.specs.declared.fault.TableFault.TheVariants.{Tasks, Writes, Block, Set, Rows, Row}
use Rattle.task_table.specs.TableFaults.{fault_or, first_fault, write_fault, task_fault, row_fault, table_fault}
use Rattle.task_table.specs.Tables.{no_task, nth_task, named_tasks, names_tasks}

-- neither of two is a fault
neither : (a b : Option TableFault) → fault_or a b ≡ None → (a ≡ None) × (b ≡ None)
neither None b h = (refl, h)
neither (Some f) b h = absurd cc

-- the test holds, and there is no fault behind it
tested : (test : Bool) (a : Option TableFault) (f : TableFault) → cond test a (Some f) ≡ None →
    (test ≡ true) × (a ≡ None)
tested true a f h = (refl, h)
tested false a f h = absurd cc

-- no element has a fault
pub no_faults : {A : Type 0} (check : ℕ → A → Option TableFault) (P : A → Bool) →
    ((n : ℕ) (x : A) → check n x ≡ None → P x ≡ true) → (n : ℕ) (xs : List A) → first_fault check n xs ≡ None →
    list_all P xs ≡ true
no_faults check P good n [] h = refl
no_faults check P good n (x ∷ xs) h =
    let parts = neither (check n x) (first_fault check (n + 1) xs) h in
    and_true (P x) (list_all P xs) (good n x parts.0) (no_faults check P good (n + 1) xs parts.1)

in_range : (low high n : ℕ) → within low high n ≡ true → (low ≤ n) × (n ≤ high)
in_range low high n h = let parts = both (nat_le low n) (nat_le n high) h in
    (leb-true low n parts.0, leb-true n high parts.1)

pub record Rules (blocks : ℕ) (tasks : List TaskValue) (rows : List (List ℕ)) : Type 0 where
  pub some_rows : 1 ≤ length rows
  pub few_rows : length rows ≤ 16
  pub few_writes : list_all (λ t. nat_le (length t.writes) 16) tasks ≡ true
  pub blocks_there : list_all (λ t. list_all (λ w. nat_lt w.block blocks) t.writes) tasks ≡ true
  pub short_rows : list_all (λ row. nat_le (length row) 16) rows ≡ true

pub rules : (blocks : ℕ) (tasks : List TaskValue) (rows : List (List ℕ)) → table_fault blocks tasks rows ≡ None →
    Rules blocks tasks rows
unfolding table_fault
rules blocks tasks rows h =
    let outer = tested (within 1 64 (length tasks))
    (fault_or (first_fault (task_fault blocks) 0 tasks)
    (cond (within 1 16 (length rows)) (first_fault row_fault 0 rows) (Some Rows))) Tasks h in
    let parts = neither (first_fault (task_fault blocks) 0 tasks)
    (cond (within 1 16 (length rows)) (first_fault row_fault 0 rows) (Some Rows)) outer.1 in
    let row_parts = tested (within 1 16 (length rows)) (first_fault row_fault 0 rows) Rows parts.1 in
    let sizes = in_range 1 16 (length rows) row_parts.0 in
    record {
      some_rows = sizes.0;
      few_rows = sizes.1;
      few_writes = no_faults (task_fault blocks) (λ t. nat_le (length t.writes) 16) few_of 0 tasks parts.0;
      blocks_there = no_faults (task_fault blocks) (λ t. list_all (λ w. nat_lt w.block blocks) t.writes) blocks_of 0
          tasks parts.0;
      short_rows = no_faults row_fault (λ row. nat_le (length row) 16)
          (λ n row k. (tested (nat_le (length row) 16) None (Row n) k).0) 0 rows row_parts.1;
    }
  where
    few_of : (n : ℕ) (t : TaskValue) → task_fault blocks n t ≡ None → nat_le (length t.writes) 16 ≡ true
    few_of n t k = (both (nat_le 1 (length t.writes)) (nat_le (length t.writes) 16)
        (tested (within 1 16 (length t.writes)) (first_fault (write_fault blocks n) 0 t.writes) (Writes n) k).0).1

    block_of : (task n : ℕ) (w : WriteValue) → write_fault blocks task n w ≡ None → nat_lt w.block blocks ≡ true
    block_of task n w k = (tested (nat_lt w.block blocks) (cond (list_any is_some w.set) None (Some (Set task n)))
        (Block task n) k).0

    blocks_of : (n : ℕ) (t : TaskValue) → task_fault blocks n t ≡ None →
        list_all (λ w. nat_lt w.block blocks) t.writes ≡ true
    blocks_of n t k =
        no_faults (write_fault blocks n) (λ w. nat_lt w.block blocks) (block_of n) 0 t.writes
        (tested (within 1 16 (length t.writes)) (first_fault (write_fault blocks n) 0 t.writes) (Writes n) k).1

-- ---- the row in turn

pub turn_short : (rows : List (List ℕ)) (c : ℕ) → list_all (λ row. nat_le (length row) 16) rows ≡ true →
    length (row_in_turn rows c) ≤ 16
turn_short rows c h = leb-true (length (row_in_turn rows c)) 16
    (place_passes (λ row. nat_le (length row) 16) rows (c % length rows) [] refl h)

pub turn_named_there : (count : ℕ) (rows : List (List ℕ)) (c : ℕ) → list_all (names_tasks count) rows ≡ true →
    names_tasks count (row_in_turn rows c) ≡ true
turn_named_there count rows c h = place_passes (names_tasks count) rows (c % length rows) [] refl h

-- ---- each write that a row names

all_flat : (P : WriteValue → Bool) (tasks : List TaskValue) (row : List ℕ) →
    list_all (λ t. list_all P t.writes) tasks ≡ true → list_all P (writes_of (named_tasks tasks row)) ≡ true
all_flat P tasks [] h = refl
all_flat P tasks (place ∷ row) h =
    all-append P (nth_task tasks place).writes (writes_of (named_tasks tasks row))
    (place_passes (λ t. list_all P t.writes) tasks place no_task refl h) (all_flat P tasks row h)

slice_passes : (P : WriteValue → Bool) (ws : List WriteValue) (k : ℕ) (w : WriteValue) → slice_get ws k ≡ Some w →
    list_all P ws ≡ true → P w ≡ true
slice_passes P [] k w h all = absurd cc
slice_passes P (x ∷ ws) zero w h all = ap P (sym (inside h)) ∙ (both (P x) (list_all P ws) all).0
  where
    inside : Some x ≡ Some w → x ≡ w
    inside h = cc
slice_passes P (x ∷ ws) (suc k) w h all = slice_passes P ws k w h (both (P x) (list_all P ws) all).1

-- a write of a row passes what each write of each task passes
pub write_passes : (P : WriteValue → Bool) (tasks : List TaskValue) (row : List ℕ) (k : ℕ) (w : WriteValue) →
    list_all (λ t. list_all P t.writes) tasks ≡ true →
    slice_get (writes_of (named_tasks tasks row)) k ≡ Some w → P w ≡ true
write_passes P tasks row k w all h = slice_passes P (writes_of (named_tasks tasks row)) k w h (all_flat P tasks row all)

-- ---- more input words

module _ (blocks width : ℕ) (narrow : width ≤ 4) where
  pub fits_more : (e : Expression) → fits_sizes blocks width e ≡ true → fits_sizes blocks 4 e ≡ true
  fits_more (number z) h = h
  fits_more cycle_number h = h
  fits_more (input k) h = let low = leb-true (suc k) width h in le-leb (suc k) 4 (omega arith)
  fits_more (block_word i j) h = h
  fits_more (negative a) h = fits_more a h
  fits_more (binary op a b) h =
      let parts = both (fits_sizes blocks width a) (fits_sizes blocks width b) h in
      and_true (fits_sizes blocks 4 a) (fits_sizes blocks 4 b) (fits_more a parts.0) (fits_more b parts.1)
  fits_more (call code a b c) h =
      let outer = both (fits_sizes blocks width a && fits_sizes blocks width b) (fits_sizes blocks width c) h in
      let inner = both (fits_sizes blocks width a) (fits_sizes blocks width b) outer.0 in
      and_true (fits_sizes blocks 4 a && fits_sizes blocks 4 b) (fits_sizes blocks 4 c)
      (and_true (fits_sizes blocks 4 a) (fits_sizes blocks 4 b) (fits_more a inner.0) (fits_more b inner.1))
      (fits_more c outer.1)
  fits_more (pick a b c) h =
      let outer = both (fits_sizes blocks width a && fits_sizes blocks width b) (fits_sizes blocks width c) h in
      let inner = both (fits_sizes blocks width a) (fits_sizes blocks width b) outer.0 in
      and_true (fits_sizes blocks 4 a && fits_sizes blocks 4 b) (fits_sizes blocks 4 c)
      (and_true (fits_sizes blocks 4 a) (fits_sizes blocks 4 b) (fits_more a inner.0) (fits_more b inner.1))
      (fits_more c outer.1)

  pub set_fits_more : (set : List (Option Expression)) → list_all (fits_or_none blocks width) set ≡ true →
      list_all (fits_or_none blocks 4) set ≡ true
  set_fits_more set h = weaken (fits_or_none blocks width) (fits_or_none blocks 4) set more h
    where
      more : (o : Option Expression) → fits_or_none blocks width o ≡ true → fits_or_none blocks 4 o ≡ true
      more None k = k
      more (Some e) k = fits_more e k
