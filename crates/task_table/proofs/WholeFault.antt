-- The first fault of tasks and rows, by its parts.
use Rattle.std.proofs.Common.{◌≡◌, ℕ, ◌<◌, ◌≤◌, ◌==◌, ◌⊎◌, inl, inr, Bool, true, false, cond, ◌&&◌, List, length, Option, Some, None, refl, sym, ap, ◌∙◌, arith}
use Rattle.std.specs.Prelude.{nat_le}
use Rattle.std.proofs.lemmas.Bool.{le-leb}
use Rattle.guards_model.specs.Missions.{within}
use Rattle.guards_model.specs.Tasks.{TaskValue}
use Rattle.guards_model.proofs.BoolTests.{and_true}
use Rattle.task_table.specs.declared.fault.TableFault.{TableFault}
use Rattle.task_table.specs.declared.fault.TableFault.TheVariants.{Tasks, Rows}
use Rattle.task_table.specs.TableFaults.{fault_or, first_fault, task_fault, row_fault, table_fault}

pub not_within : (high n : ℕ) → (n ≡ 0) ⊎ (high < n) → within 1 high n ≡ false
not_within high n (inl h) = ap (within 1 high) h
not_within high n (inr h) = ap (λ b. nat_le 1 n && b) above ∙ never (nat_le 1 n)
  where
    above : nat_le n high ≡ false
    above = grind (arith, h)

    never : (b : Bool) → (b && false) ≡ false
    never true = refl
    never false = refl

pub is_within : (high n : ℕ) → (n == 0) ≡ false → n ≤ high → within 1 high n ≡ true
is_within high n h few = and_true (nat_le 1 n) (nat_le n high) (le-leb 1 n some) (le-leb n high few)
  where
    some : 1 ≤ n
    some = grind (arith, h)

module _ (blocks : ℕ) (tasks : List TaskValue) (rows : List (List ℕ)) where
  abbrev rest : Option TableFault
  rest = fault_or (first_fault (task_fault blocks) 0 tasks)
      (cond (within 1 16 (length rows)) (first_fault row_fault 0 rows) (Some Rows))

  pub wrong_tasks : within 1 64 (length tasks) ≡ false → table_fault blocks tasks rows ≡ Some Tasks
  unfolding table_fault
  wrong_tasks h = ap (λ b. cond b rest (Some Tasks)) h

  pub wrong_task : (o : Option TableFault) → within 1 64 (length tasks) ≡ true →
      first_fault (task_fault blocks) 0 tasks ≡ o →
      table_fault blocks tasks rows
      ≡ fault_or o (cond (within 1 16 (length rows)) (first_fault row_fault 0 rows) (Some Rows))
  unfolding table_fault
  wrong_task o h is = ap (λ b. cond b rest (Some Tasks)) h
      ∙ ap (λ o. fault_or o (cond (within 1 16 (length rows)) (first_fault row_fault 0 rows) (Some Rows))) is

  pub wrong_rows : within 1 64 (length tasks) ≡ true → first_fault (task_fault blocks) 0 tasks ≡ None →
      within 1 16 (length rows) ≡ false → table_fault blocks tasks rows ≡ Some Rows
  wrong_rows h is wrong = wrong_task None h is ∙ ap (λ b. cond b (first_fault row_fault 0 rows) (Some Rows)) wrong

  pub wrong_row : within 1 64 (length tasks) ≡ true → first_fault (task_fault blocks) 0 tasks ≡ None →
      within 1 16 (length rows) ≡ true → table_fault blocks tasks rows ≡ first_fault row_fault 0 rows
  wrong_row h is right = wrong_task None h is ∙ ap (λ b. cond b (first_fault row_fault 0 rows) (Some Rows)) right
