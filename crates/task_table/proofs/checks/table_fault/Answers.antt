use Rattle.std.proofs.Common.{rules, tests, ◌≡◌, ◌∙◌, refl, sym, ap, subst, ℕ, ◌+◌, ◌-◌, ◌*◌, ◌<◌, ◌≤◌, ◌==◌, Bool, true, false, cond, ◌&&◌, ◌||◌, List, [], ◌∷◌, ◌++◌, length, take, drop, get_or, Option, Some, None, arith, length-append}
use Rattle.std.proofs.Common.{◌⊎◌, inl, inr}
use Rattle.std.proofs.lemmas.Bool.{eqb-true}
use Rattle.guards_base.specs.Seen.{Seen}
use Rattle.guards_model.specs.Missions.{within}
use Rattle.guards_model.specs.Tasks.{TaskValue}
use Rattle.task_table.specs.TableFaults.{table_fault}
use Rattle.task_table.specs.Tables.{places_of}
use Rattle.task_table.proofs.TableRows.{row_count}
use Rattle.task_table.proofs.WholeFault.{not_within, is_within, wrong_tasks, wrong_task, wrong_rows, wrong_row}
use Rattle.task_table.proofs.checks.table_fault.Goals as goal

-- none, or too many
outside : (empty : Bool) (n high : ℕ) → empty ≡ (n == 0) → (empty ≡ true) ⊎ ((empty ≡ false) × (high < n)) →
    within 1 high n ≡ false
outside empty n high is (inl h) = not_within high n (inl (eqb-true n 0 (sym is ∙ h)))
outside empty n high is (inr h) = not_within high n (inr h.1)

-- the same of what is lent
as_lent : (blocks : ℕ) (tasks lent : List TaskValue) (rows lent_rows : List (Seen ℕ)) → lent ≡ tasks →
    lent_rows ≡ rows → table_fault blocks lent (places_of lent_rows) ≡ table_fault blocks tasks (places_of rows)
as_lent blocks tasks lent rows lent_rows a b =
    ap (λ ts. table_fault blocks ts (places_of lent_rows)) a ∙ ap (λ rs. table_fault blocks tasks (places_of rs)) b

pub returns-then-is_empty : goal.returns-then-is_empty
returns-then-is_empty c =
    let tasks = c.as_slice-tasks.result.now in
    let rows = c.as_slice-rows.result.now in
    sym (wrong_tasks c.args.blocks tasks (places_of rows)
    (outside c.is_empty.result (length tasks) 64 c.is_empty.ensures c.then-is_empty.either))
    ∙ as_lent c.args.blocks c.args.tasks.now.items tasks c.args.rows.now.items rows c.as_slice-tasks.ensures
    c.as_slice-rows.ensures

pub returns-in-Some : goal.returns-in-Some
returns-in-Some c =
    let tasks = c.as_slice-tasks.result.now in
    let rows = c.as_slice-rows.result.now in
    let right = is_within 64 (length tasks) (sym c.is_empty.ensures ∙ c.if-is_empty.false)
    c.if-tasks-gt-MOST_TASKS.false in
    sym (wrong_task c.args.blocks tasks (places_of rows) (Some c.in-Some.fault) right
    (sym c.tasks_fault.ensures ∙ c.in-Some.is))
    ∙ as_lent c.args.blocks c.args.tasks.now.items tasks c.args.rows.now.items rows c.as_slice-tasks.ensures
    c.as_slice-rows.ensures

pub returns-then-is_empty-2 : goal.returns-then-is_empty-2
returns-then-is_empty-2 c =
    let tasks = c.as_slice-tasks.result.now in
    let rows = c.as_slice-rows.result.now in
    let right = is_within 64 (length tasks) (sym c.is_empty.ensures ∙ c.if-is_empty.false)
    c.if-tasks-gt-MOST_TASKS.false in
    let wrong = ap (within 1 16) (row_count rows)
    ∙ outside c.is_empty-2.result (length rows) 16 c.is_empty-2.ensures c.then-is_empty-2.either in
    sym (wrong_rows c.args.blocks tasks (places_of rows) right (sym c.tasks_fault.ensures ∙ c.in_default.is) wrong)
    ∙ as_lent c.args.blocks c.args.tasks.now.items tasks c.args.rows.now.items rows c.as_slice-tasks.ensures
    c.as_slice-rows.ensures

pub returns : goal.returns
returns c =
    let tasks = c.as_slice-tasks.result.now in
    let rows = c.as_slice-rows.result.now in
    let right = is_within 64 (length tasks) (sym c.is_empty.ensures ∙ c.if-is_empty.false)
    c.if-tasks-gt-MOST_TASKS.false in
    let right_rows = ap (within 1 16) (row_count rows)
    ∙ is_within 16 (length rows) (sym c.is_empty-2.ensures ∙ c.if-is_empty-2.false) c.if-rows-gt-MOST_ROWS.false in
    c.rows_fault.ensures ∙ sym
    (wrong_row c.args.blocks tasks (places_of rows) right (sym c.tasks_fault.ensures ∙ c.in_default.is) right_rows)
    ∙ as_lent c.args.blocks c.args.tasks.now.items tasks c.args.rows.now.items rows c.as_slice-tasks.ensures
    c.as_slice-rows.ensures
