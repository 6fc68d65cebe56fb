use Rattle.std.proofs.Common.{rules, tests, ◌≡◌, ◌∙◌, refl, sym, ap, subst, ℕ, ◌+◌, ◌-◌, ◌*◌, ◌<◌, ◌≤◌, ◌==◌, Bool, true, false, cond, ◌&&◌, ◌||◌, List, [], ◌∷◌, ◌++◌, length, take, drop, get_or, Option, Some, None, arith, length-append}
use Rattle.std.specs.Prelude.{map, option_map, slice_get, nat_le, nat_lt, IsSome, IsSomeAnd}
use Rattle.std.specs.List.{list_all}
use Rattle.std.specs.Option.{option_copied}
use Rattle.std.proofs.lemmas.Bool.{leb-true}
use Rattle.std.proofs.lemmas.List.{length-map}
use Rattle.std.proofs.lemmas.Option.{slice_get-get_or}
use Rattle.guards_model.specs.Channels.{has}
use Rattle.guards_model.specs.Tasks.{WriteValue, TaskValue, writes_of, written}
use Rattle.guards_model.specs.Missions.{row_in_turn}
use Rattle.guards_model.specs.Expressions.{fits_or_none}
use Rattle.context_blocks.specs.BlockSets.{blocks_where}
use Rattle.task_table.specs.Tables.{places_of, named_tasks, names_tasks, tasks_in_row, table_writes, nth_task}
use Rattle.task_table.proofs.RowWrites.{blocks_in, named_writes}
use Rattle.task_table.proofs.KeptRules.{rules as rules_of, turn_short, write_passes, set_fits_more}
use Rattle.task_table.proofs.TableRows.{row_count, named_at, row_passes, place_there, named_task, writes_in_turn, turn_names}
use Rattle.task_table.proofs.table.Table.row_len.Goals as goal

pub overflow_cast-result : goal.overflow_cast-result
overflow_cast-result c =
    let tasks = c.self.inside.tasks.items in
    let rows = c.self.inside.rows.items in
    let kept = rules_of c.self.inside.blocks tasks (places_of rows) c.self.invariant.faultless in
    let short : length c.get.result.now.items ≤ 16 =
    leb-true (length c.get.result.now.items) 16
    (row_passes (λ r. nat_le (length r) 16) rows c.args.row c.get.result.now c.get.ensures kept.short_rows) in
    omega (arith, short, c.len.ensures)

pub returns-clause-count : goal.returns-clause-count
returns-clause-count c =
    let tasks = c.self.inside.tasks.items in
    let rows = c.self.inside.rows.items in
    c.len.ensures ∙ sym (length-map c.get.result.now.items (nth_task tasks))
    ∙ sym (ap length (named_at tasks rows c.args.row c.get.result.now c.get.ensures))
    ∙ ap (λ t. length (tasks_in_row t.rows c.args.row)) c.self.view_is

pub returns-clause-few : goal.returns-clause-few
returns-clause-few c =
    let tasks = c.self.inside.tasks.items in
    let rows = c.self.inside.rows.items in
    let kept = rules_of c.self.inside.blocks tasks (places_of rows) c.self.invariant.faultless in
    let short : length c.get.result.now.items ≤ 16 =
    leb-true (length c.get.result.now.items) 16
    (row_passes (λ r. nat_le (length r) 16) rows c.args.row c.get.result.now c.get.ensures kept.short_rows) in
    omega (arith, short, c.len.ensures)
