use Rattle.std.proofs.Common.{rules, tests, ◌≡◌, ◌∙◌, refl, sym, ap, subst, ℕ, ◌+◌, ◌-◌, ◌*◌, ◌<◌, ◌≤◌, ◌==◌, Bool, true, false, cond, ◌&&◌, ◌||◌, List, [], ◌∷◌, ◌++◌, length, take, drop, get_or, Option, Some, None, arith, length-append}
use Rattle.std.specs.Prelude.{map, option_map, slice_get, nat_le, nat_lt, IsSome, IsSomeAnd}
use Rattle.std.specs.List.{list_all}
use Rattle.std.specs.Option.{option_copied}
use Rattle.std.proofs.lemmas.Bool.{leb-true}
use Rattle.std.proofs.lemmas.List.{length-map}
use Rattle.std.proofs.lemmas.Option.{slice_get-get_or}
use Rattle.guards_model.specs.Channels.{has}
use Rattle.guards_model.specs.Tasks.{WriteValue, TaskValue, writes_of, written}
use Rattle.guards_model.specs.Missions.{row_in_turn}
use Rattle.guards_model.specs.Expressions.{fits_or_none}
use Rattle.context_blocks.specs.BlockSets.{blocks_where}
use Rattle.task_table.specs.Tables.{places_of, named_tasks, names_tasks, tasks_in_row, table_writes, nth_task}
use Rattle.task_table.proofs.RowWrites.{blocks_in, named_writes}
use Rattle.task_table.proofs.KeptRules.{rules as rules_of, turn_short, write_passes, set_fits_more}
use Rattle.task_table.proofs.TableRows.{row_count, named_at, row_passes, place_there, named_task, writes_in_turn, turn_names}
use Rattle.task_table.proofs.table.Table.task.Goals as goal

pub get-number-requires : goal.get-number-requires
get-number-requires c =
    let tasks = c.self.inside.tasks.items in
    let rows = c.self.inside.rows.items in
    let size : length (tasks_in_row c.args.self.now.rows c.args.row) ≡ length c.get.result.now.items =
    sym (ap (λ t. length (tasks_in_row t.rows c.args.row)) c.self.view_is)
    ∙ ap length (named_at tasks rows c.args.row c.get.result.now c.get.ensures)
    ∙ length-map c.get.result.now.items (nth_task tasks) in
    omega (arith, size, c.requires.place)

pub get-requires-2 : goal.get-requires-2
get-requires-2 c =
    let tasks = c.self.inside.tasks.items in
    let rows = c.self.inside.rows.items in
    let named = row_passes (names_tasks (length tasks)) rows c.args.row c.get.result.now c.get.ensures
    c.self.invariant.named in
    place_there (length tasks) c.get.result.now.items c.args.place c.get-number.result.now c.get-number.ensures named

pub returns : goal.returns
returns c =
    let tasks = c.self.inside.tasks.items in
    let rows = c.self.inside.rows.items in
    sym (ap (λ t. slice_get (tasks_in_row t.rows c.args.row) c.args.place) c.self.view_is)
    ∙ ap (λ ts. slice_get ts c.args.place) (named_at tasks rows c.args.row c.get.result.now c.get.ensures)
    ∙ named_task tasks c.get.result.now.items c.args.place c.get-number.result.now c.get-2.result.now
    c.get-number.ensures c.get-2.ensures
