-- The parts of a demo mission.
use Rattle.std.proofs.Common.{◌≡◌, ℕ, zero, suc, ◌+◌, true, List, [], ◌∷◌, ◌&&◌, map, take, refl, sym, ap, ◌∙◌, arith}
use Rattle.std.proofs.lemmas.Simd.{map-map}
use Rattle.std.specs.Prelude.{ℤ, pos, Some, None, Option, Result, Ok, Err, MatchResult, IsOk, nat_lt, length, slice_get, unwrap_or}
use Rattle.std.specs.List.{list_all}
use Rattle.guards_base.specs.Padding.{padded}
use Rattle.guards_base.specs.Seen.{Seen}
use Rattle.guards_model.specs.Words.{is_word}
use Rattle.guards_model.specs.Contexts.{ContextValue, zeroed}
use Rattle.guards_model.specs.Slots.{every_slot, slot_index}
use Rattle.guards_model.specs.declared.Slot.TheVariants.{Request}
use Rattle.guards_model.specs.Faults.{FaultValue}
use Rattle.guards_model.specs.Expressions.{fits_or_none}
use Rattle.guards_model.proofs.BoolTests.{both, and_true}
use Rattle.guards_model.proofs.ListTests.{place_passes}
use Rattle.fault_script.specs.Entries.{is_in_cycle}
use Rattle.task_table.specs.TableFaults.{first_fault, write_fault, task_fault, table_fault}
use Rattle.task_table.specs.Tables.{TableValue, expressions_fit, names_tasks, table_naming}
use Rattle.mission_type.specs.Parts.{rows_of, in_use, mission_with, AreParts}
use Rattle.demo_mission.specs.Demo.{next_number, drawn, draws, number_after, in_pairs, sensor_words, sensor_rows, demo_sets, demo_write, demo_task, demo_tasks, demo_script, demo_rules, first_block, demo_mission}
use Rattle.demo_mission.proofs.Drawn.{after_sum}
use Rattle.demo_mission.proofs.IsDemo.{draws_below, demo_is_mission}

-- ---- the table

abbrev pub demo_places : List (List ℕ)
demo_places = (0 ∷ []) ∷ (1 ∷ []) ∷ (2 ∷ []) ∷ (3 ∷ []) ∷ []

write_keeps : (task n block : ℕ) → nat_lt block 128 ≡ true → write_fault 128 task n (demo_write block) ≡ None
write_keeps task n block below = rw below refl

writes_keep : (task n : ℕ) (blocks : List ℕ) → list_all (λ d. nat_lt d 128) blocks ≡ true →
    first_fault (write_fault 128 task) n (map demo_write blocks) ≡ None
writes_keep task n [] all = refl
writes_keep task n (block ∷ blocks) all =
    let parts = both (nat_lt block 128) (list_all (λ d. nat_lt d 128) blocks) all in
    rw (write_keeps task n block parts.0) (writes_keep task (n + 1) blocks parts.1)

task_keeps : (at n x : ℕ) → task_fault 128 at (demo_task n x) ≡ None
unfolding demo_task draws
task_keeps at n x = writes_keep at 0 (draws 4 128 x) (draws_below 4 128 x (omega arith))

tasks_keep : (count at n x : ℕ) → first_fault (task_fault 128) at (demo_tasks count n x) ≡ None
unfolding demo_tasks
tasks_keep zero at n x = refl
tasks_keep (suc count) at n x = rw (task_keeps at n x) (tasks_keep count (at + 1) (n + 1) (number_after 4 x))

pub no_table_fault : (x : ℕ) → table_fault 128 (demo_tasks 4 0 x) demo_places ≡ None
unfolding table_fault demo_tasks
no_table_fault x = rw (tasks_keep 4 0 0 x) refl

write_fits : (block : ℕ) → nat_lt block 128 ≡ true → list_all (fits_or_none 128 2) (demo_sets block) ≡ true
unfolding is_word
write_fits block below = rw below refl

writes_fit : (blocks : List ℕ) → list_all (λ d. nat_lt d 128) blocks ≡ true →
    list_all (λ write. list_all (fits_or_none 128 2) write.set) (map demo_write blocks) ≡ true
writes_fit [] all = refl
writes_fit (block ∷ blocks) all =
    let parts = both (nat_lt block 128) (list_all (λ d. nat_lt d 128) blocks) all in
    and_true (list_all (fits_or_none 128 2) (demo_sets block))
    (list_all (λ write. list_all (fits_or_none 128 2) write.set) (map demo_write blocks)) (write_fits block parts.0)
    (writes_fit blocks parts.1)

task_fits : (n x : ℕ) → expressions_fit 128 2 (demo_task n x) ≡ true
unfolding demo_task
task_fits n x = writes_fit (draws 4 128 x) (draws_below 4 128 x (omega arith))

pub tasks_fit : (count n x : ℕ) → list_all (expressions_fit 128 2) (demo_tasks count n x) ≡ true
unfolding demo_tasks
tasks_fit zero n x = refl
tasks_fit (suc count) n x =
    and_true (expressions_fit 128 2 (demo_task n x))
    (list_all (expressions_fit 128 2) (demo_tasks count (n + 1) (number_after 4 x))) (task_fits n x)
    (tasks_fit count (n + 1) (number_after 4 x))

pub tasks_named : (x : ℕ) → list_all (names_tasks (length (demo_tasks 4 0 x))) demo_places ≡ true
unfolding demo_tasks
tasks_named x = refl

pub table_is : (x : ℕ) → table_naming (demo_tasks 4 0 x) demo_places 128 2
    ≡ record { rows = map (λ task. task ∷ []) (demo_tasks 4 0 x); blocks = 128; width = 2 }
unfolding demo_tasks
table_is x = refl

-- where there is no fault the answer is no fault
pub answered_ok : {T E : Type 0} (P : T → Type 0) (fault : Option E) (answer : Result T E) → fault ≡ None →
    MatchResult answer P (λ e. fault ≡ Some e) → IsOk answer
answered_ok P fault (Ok table) none h = refl
answered_ok P fault (Err e) none h = absurd cc

-- ---- the script

some_slot : (k : ℕ) → nat_lt (slot_index (unwrap_or (slice_get every_slot k) Request)) 9 ≡ true
some_slot k = place_passes (λ slot. nat_lt (slot_index slot) 9) every_slot k Request refl refl

pub script_in_cycle : (count k x : ℕ) → list_all is_in_cycle (demo_script count k x) ≡ true
unfolding demo_script
script_in_cycle zero k x = refl
script_in_cycle (suc count) k x =
    and_true _ (true && (true && list_all is_in_cycle (demo_script count (k + 1) (number_after 3 x))))
    (some_slot (drawn 9 (number_after 2 x))) (script_in_cycle count (k + 1) (number_after 3 x))

-- ---- the sensors

pairs_used : (xs ys : List ℕ) → map (take 2) (map (padded 4) (in_pairs xs ys)) ≡ in_pairs xs ys
pairs_used [] ys = refl
pairs_used (x ∷ xs) [] = refl
pairs_used (x ∷ xs) (y ∷ ys) = ap (λ rest. (pos x ∷ pos y ∷ []) ∷ rest) (pairs_used xs ys)

rows_used : (count x : ℕ) → map (map (take 2)) (map (map (padded 4)) (sensor_rows count x)) ≡ sensor_rows count x
unfolding sensor_rows
rows_used zero x = refl
rows_used (suc count) x =
    rw (pairs_used (sensor_words x) (sensor_words (number_after 8 x)), rows_used count (number_after 16 x)) refl

pub sensors_used : (n : ℕ) (sensors : List (Seen (List ℤ))) → rows_of sensors ≡ map (map (padded 4)) (sensor_rows 8 n) →
    in_use 2 sensors ≡ sensor_rows 8 n
sensors_used n sensors rows =
    sym (map-map (map (take 2)) (λ row. row.items) sensors) ∙ ap (map (map (take 2))) rows ∙ rows_used 8 n

-- ---- the mission

module _ (n : ℕ) (initial : ContextValue) (table : TableValue) (outputs : List (ℕ × ℕ)) (sensors : List (Seen (List ℤ)))
    (script : List FaultValue) where
  abbrev pub AreDemo : Type 0
  AreDemo =
      (initial ≡ zeroed 128)
      × (table ≡ record {
        rows = map (λ task. task ∷ []) (demo_tasks 4 0 (number_after 128 n));
        blocks = 128;
        width = 2;
      })
      × (outputs ≡ (first_block n, 0) ∷ (first_block n, 1) ∷ [])
      × (rows_of sensors ≡ map (map (padded 4)) (sensor_rows 8 n))
      × (script ≡ demo_script 10 0 (number_after 144 n))

  pub parts_make : AreDemo → mission_with demo_rules 400 2 3 initial table outputs sensors script None ≡ demo_mission n
  unfolding demo_mission
  parts_make parts = rw (parts.0, parts.1, parts.2, parts.4, sensors_used n sensors parts.3) refl

  pub parts_fit : AreDemo →
      AreParts (mission_with demo_rules 400 2 3 initial table outputs sensors script None) table sensors None
  parts_fit parts =
      record {
        mission = rw (parts_make parts) (demo_is_mission n);
        blocks = ap (λ t. t.blocks) parts.1;
        inputs = ap (λ t. t.width) parts.1;
        zeros = parts.3 ∙ ap (map (map (padded 4))) (sym (sensors_used n sensors parts.3));
        forward = tt;
      }

  pub are_demo_of : (n0 n1 n2 block : ℕ) → n0 ≡ n → n1 ≡ number_after 128 n0 → n2 ≡ number_after 16 n1 →
      initial ≡ zeroed 128
      → table ≡ record { rows = map (λ task. task ∷ []) (demo_tasks 4 0 n1); blocks = 128; width = 2 }
      → block ≡ drawn 128 (next_number n1) → outputs ≡ (block, 0) ∷ (block, 1) ∷ []
      → rows_of sensors ≡ map (map (padded 4)) (sensor_rows 8 n0) → script ≡ demo_script 10 0 n2 → AreDemo
  unfolding first_block
  are_demo_of n0 n1 n2 block is0 is1 is2 initial_is table_is block_is outputs_are sensors_are script_is =
      let after : n1 ≡ number_after 128 n = is1 ∙ ap (number_after 128) is0 in
      let last : n2 ≡ number_after 144 n = is2 ∙ ap (number_after 16) after ∙ sym (after_sum 128 16 n) in
      let first : block ≡ drawn 128 (next_number (number_after 128 n)) =
      block_is ∙ ap (λ x. drawn 128 (next_number x)) after in (
        initial_is,
        rw after at table_is,
        outputs_are ∙ ap (λ b. (b, 0) ∷ (b, 1) ∷ []) first,
        rw is0 at sensors_are,
        rw last at script_is,
      )
