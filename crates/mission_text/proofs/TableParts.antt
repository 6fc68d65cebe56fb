-- Tasks that were read, and rows that name them, make a table.
use Rattle.std.proofs.Common.{◌≡◌, ℕ, zero, suc, ◌<◌, Bool, true, false, cond, ◌&&◌, ◌==◌, List, [], ◌∷◌, length, map, Option, Some, None, refl, arith}
use Rattle.std.specs.Prelude.{nat_lt, nat_le, is_some}
use Rattle.std.specs.List.{list_all, list_any}
use Rattle.std.proofs.lemmas.Bool.{ltb-true}
use Rattle.std.proofs.lemmas.List.{length-map}
use Rattle.guards_model.proofs.BoolTests.{both, and_true}
use Rattle.guards_model.proofs.ListTests.{weaken}
use Rattle.guards_model.specs.Expressions.{fits_or_none}
use Rattle.guards_model.specs.Missions.{within, is_write, is_task_in_range, is_table}
use Rattle.guards_model.specs.Tasks.{WriteValue, TaskValue}
use Rattle.task_table.specs.declared.fault.TableFault.{TableFault}
use Rattle.task_table.specs.declared.fault.TableFault.TheVariants.{Tasks, Writes, Block, Set, Rows, Row}
use Rattle.task_table.specs.TableFaults.{fault_or, first_fault, write_fault, task_fault, row_fault, table_fault}
use Rattle.task_table.specs.Tables.{nth_task, named_tasks, expressions_fit, names_tasks}
use Rattle.task_table.proofs.KeptRules.{no_faults}
use Rattle.mission_text.specs.Tasks.{are_sets, is_read_task}

neither : (a b : Option TableFault) → fault_or a b ≡ None → (a ≡ None) × (b ≡ None)
neither None b h = (refl, h)
neither (Some f) b h = absurd cc

tested : (test : Bool) (a : Option TableFault) (f : TableFault) → cond test a (Some f) ≡ None →
    (test ≡ true) × (a ≡ None)
tested true a f h = (refl, h)
tested false a f h = absurd cc

-- two tests of each element give a third
all_of_two : {A : Type 0} (P Q R : A → Bool) → ((x : A) → P x ≡ true → Q x ≡ true → R x ≡ true) → (xs : List A) →
    list_all P xs ≡ true → list_all Q xs ≡ true → list_all R xs ≡ true
all_of_two P Q R good [] ps qs = refl
all_of_two P Q R good (x ∷ xs) ps qs =
    let p = both (P x) (list_all P xs) ps in
    let q = both (Q x) (list_all Q xs) qs in
    and_true (R x) (list_all R xs) (good x p.0 q.0) (all_of_two P Q R good xs p.1 q.1)

-- a test of each task holds of the task at a place
task_passes : (P : TaskValue → Bool) (tasks : List TaskValue) (place : ℕ) → place < length tasks →
    list_all P tasks ≡ true → P (nth_task tasks place) ≡ true
task_passes P [] place there all = absurd (omega (arith, there))
task_passes P (t ∷ tasks) zero there all = (both (P t) (list_all P tasks) all).0
task_passes P (t ∷ tasks) (suc place) there all =
    task_passes P tasks place (omega (arith, there)) (both (P t) (list_all P tasks) all).1

row_passes : (P : TaskValue → Bool) (tasks : List TaskValue) (row : List ℕ) → names_tasks (length tasks) row ≡ true →
    list_all P tasks ≡ true → list_all P (named_tasks tasks row) ≡ true
row_passes P tasks [] named all = refl
row_passes P tasks (place ∷ row) named all =
    let parts = both (nat_lt place (length tasks)) (names_tasks (length tasks) row) named in
    and_true (P (nth_task tasks place)) (list_all P (named_tasks tasks row))
    (task_passes P tasks place (ltb-true place (length tasks) parts.0) all) (row_passes P tasks row parts.1 all)

module _ (blocks width : ℕ) where
  -- its block is there, and it has an expression
  abbrev is_faultless_write : WriteValue → Bool
  is_faultless_write w = nat_lt w.block blocks && list_any is_some w.set

  abbrev is_faultless_task : TaskValue → Bool
  is_faultless_task t = within 1 16 (length t.writes) && list_all is_faultless_write t.writes

  faultless_write : (task n : ℕ) (w : WriteValue) → write_fault blocks task n w ≡ None → is_faultless_write w ≡ true
  faultless_write task n w k =
      let parts = tested (nat_lt w.block blocks) (cond (list_any is_some w.set) None (Some (Set task n))) (Block task n)
      k in
      and_true (nat_lt w.block blocks) (list_any is_some w.set) parts.0
      (tested (list_any is_some w.set) None (Set task n) parts.1).0

  faultless_task : (n : ℕ) (t : TaskValue) → task_fault blocks n t ≡ None → is_faultless_task t ≡ true
  faultless_task n t k =
      let parts = tested (within 1 16 (length t.writes)) (first_fault (write_fault blocks n) 0 t.writes) (Writes n) k in
      and_true (within 1 16 (length t.writes)) (list_all is_faultless_write t.writes) parts.0
      (no_faults (write_fault blocks n) is_faultless_write (faultless_write n) 0 t.writes parts.1)

  whole_write : (w : WriteValue) → is_faultless_write w ≡ true → are_sets blocks width w.set ≡ true →
      is_write blocks width w ≡ true
  whole_write w faultless read =
      let f = both (nat_lt w.block blocks) (list_any is_some w.set) faultless in
      let r = both (length w.set == 8) (list_all (fits_or_none blocks width) w.set) read in
      rw (f.0, f.1, r.0, r.1) refl

  whole_task : (t : TaskValue) → is_faultless_task t ≡ true → is_read_task blocks width t ≡ true →
      is_task_in_range blocks width t ≡ true
  whole_task t faultless read =
      let f = both (within 1 16 (length t.writes)) (list_all is_faultless_write t.writes) faultless in
      and_true (within 1 16 (length t.writes)) (list_all (is_write blocks width) t.writes) f.0
      (all_of_two is_faultless_write (λ w. are_sets blocks width w.set) (is_write blocks width) whole_write t.writes f.1
      read)

  -- the expressions of a task that was read fit
  pub tasks_fit : (tasks : List TaskValue) → list_all (is_read_task blocks width) tasks ≡ true →
      list_all (expressions_fit blocks width) tasks ≡ true
  tasks_fit tasks read = weaken (is_read_task blocks width) (expressions_fit blocks width) tasks task_fits read
    where
      task_fits : (t : TaskValue) → is_read_task blocks width t ≡ true → expressions_fit blocks width t ≡ true
      task_fits t r =
          weaken (λ w. are_sets blocks width w.set) (λ w. list_all (fits_or_none blocks width) w.set) t.writes
          (λ w s. (both (length w.set == 8) (list_all (fits_or_none blocks width) w.set) s).1) r

  module _ (tasks : List TaskValue) (rows : List (List ℕ)) (read : list_all (is_read_task blocks width) tasks ≡ true)
      (named : list_all (names_tasks (length tasks)) rows ≡ true) where
    rows_whole : (rows : List (List ℕ)) → list_all (names_tasks (length tasks)) rows ≡ true →
        list_all (λ row. nat_le (length row) 16) rows ≡ true → list_all (is_task_in_range blocks width) tasks ≡ true
        → list_all (λ row. nat_le (length row) 16 && list_all (is_task_in_range blocks width) row)
        (map (named_tasks tasks) rows) ≡ true
    rows_whole [] names short all = refl
    rows_whole (row ∷ rows) names short all =
        let n = both (names_tasks (length tasks) row) (list_all (names_tasks (length tasks)) rows) names in
        let s = both (nat_le (length row) 16) (list_all (λ row. nat_le (length row) 16) rows) short in
        rw (
          length-map row (nth_task tasks),
          s.0,
          row_passes (is_task_in_range blocks width) tasks row n.0 all,
          rows_whole rows n.1 s.1 all,
        ) refl

    pub table_whole : table_fault blocks tasks rows ≡ None → is_table blocks width (map (named_tasks tasks) rows) ≡ true
    unfolding table_fault
    table_whole h =
        let outer = tested (within 1 64 (length tasks))
        (fault_or (first_fault (task_fault blocks) 0 tasks)
        (cond (within 1 16 (length rows)) (first_fault row_fault 0 rows) (Some Rows))) Tasks h in
        let parts = neither (first_fault (task_fault blocks) 0 tasks)
        (cond (within 1 16 (length rows)) (first_fault row_fault 0 rows) (Some Rows)) outer.1 in
        let row_parts = tested (within 1 16 (length rows)) (first_fault row_fault 0 rows) Rows parts.1 in
        let faultless = no_faults (task_fault blocks) is_faultless_task faultless_task 0 tasks parts.0 in
        let all = all_of_two is_faultless_task (is_read_task blocks width) (is_task_in_range blocks width) whole_task
        tasks faultless read in
        let short = no_faults row_fault (λ row. nat_le (length row) 16)
        (λ n row k. (tested (nat_le (length row) 16) None (Row n) k).0) 0 rows row_parts.1 in
        rw (length-map rows (named_tasks tasks), row_parts.0, rows_whole rows named short all) refl
