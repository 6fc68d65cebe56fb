use Rattle.std.proofs.Common.{rules, tests, ◌≡◌, ◌∙◌, refl, sym, ap, subst, ℕ, ◌+◌, ◌-◌, ◌*◌, ◌<◌, ◌≤◌, ◌==◌, Bool, true, false, cond, ◌&&◌, ◌||◌, List, [], ◌∷◌, ◌++◌, length, take, drop, get_or, Option, Some, None, arith, length-append}
use Rattle.std.specs.Prelude.{map, option_map, slice_get, nat_le, nat_lt, IsSome, IsSomeAnd}
use Rattle.std.specs.List.{list_all}
use Rattle.std.specs.Option.{option_copied}
use Rattle.std.proofs.lemmas.Bool.{leb-true}
use Rattle.std.proofs.lemmas.List.{length-map}
use Rattle.std.proofs.lemmas.Option.{slice_get-get_or}
use Rattle.guards_model.specs.Channels.{has}
use Rattle.guards_model.specs.Tasks.{WriteValue, TaskValue, writes_of, written}
use Rattle.guards_model.specs.Missions.{row_in_turn}
use Rattle.guards_model.specs.Expressions.{fits_or_none}
use Rattle.context_blocks.specs.BlockSets.{blocks_where}
use Rattle.task_table.specs.Tables.{places_of, named_tasks, names_tasks, tasks_in_row, table_writes, nth_task}
use Rattle.task_table.proofs.RowWrites.{blocks_in, named_writes}
use Rattle.task_table.proofs.KeptRules.{rules as rules_of, turn_short, write_passes, set_fits_more}
use Rattle.task_table.proofs.TableRows.{row_count, named_at, row_passes, place_there, named_task, writes_in_turn, turn_names}
use Rattle.task_table.proofs.table.Table.rows.Goals as goal

pub overflow_cast-result : goal.overflow_cast-result
overflow_cast-result c =
    let tasks = c.self.inside.tasks.items in
    let rows = c.self.inside.rows.items in
    let kept = rules_of c.self.inside.blocks tasks (places_of rows) c.self.invariant.faultless in
    omega (arith, kept.few_rows, row_count rows, c.len.ensures)

pub returns-clause-some : goal.returns-clause-some
returns-clause-some c =
    let tasks = c.self.inside.tasks.items in
    let rows = c.self.inside.rows.items in
    let kept = rules_of c.self.inside.blocks tasks (places_of rows) c.self.invariant.faultless in
    omega (arith, kept.some_rows, row_count rows, c.len.ensures)

pub returns-clause-few : goal.returns-clause-few
returns-clause-few c =
    let tasks = c.self.inside.tasks.items in
    let rows = c.self.inside.rows.items in
    let kept = rules_of c.self.inside.blocks tasks (places_of rows) c.self.invariant.faultless in
    omega (arith, kept.few_rows, row_count rows, c.len.ensures)
