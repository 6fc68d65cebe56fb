use Rattle.std.proofs.Common.{rules, tests, ◌≡◌, ◌∙◌, refl, sym, ap, subst, ℕ, ◌+◌, ◌-◌, ◌*◌, ◌<◌, ◌≤◌, ◌==◌, Bool, true, false, cond, ◌&&◌, ◌||◌, List, [], ◌∷◌, ◌++◌, length, take, drop, get_or, Option, Some, None, arith, length-append}
use Rattle.std.specs.Prelude.{map, option_map, slice_get, nat_le, nat_lt, IsSome, IsSomeAnd}
use Rattle.std.specs.List.{list_all}
use Rattle.std.specs.Option.{option_copied}
use Rattle.std.proofs.lemmas.Bool.{leb-true}
use Rattle.std.proofs.lemmas.List.{length-map}
use Rattle.std.proofs.lemmas.Option.{slice_get-get_or}
use Rattle.guards_model.specs.Channels.{has}
use Rattle.guards_model.specs.Tasks.{WriteValue, TaskValue, writes_of, written}
use Rattle.guards_model.specs.Missions.{row_in_turn}
use Rattle.guards_model.specs.Expressions.{fits_or_none}
use Rattle.context_blocks.specs.BlockSets.{blocks_where}
use Rattle.task_table.specs.Tables.{places_of, named_tasks, names_tasks, tasks_in_row, table_writes, nth_task}
use Rattle.task_table.proofs.RowWrites.{blocks_in, named_writes}
use Rattle.task_table.proofs.KeptRules.{rules as rules_of, turn_short, write_passes, set_fits_more}
use Rattle.task_table.proofs.TableRows.{row_count, named_at, row_passes, place_there, named_task, writes_in_turn, turn_names}
use Rattle.task_table.proofs.table.Table.distinct_blocks.Goals as goal

pub row_of-requires : goal.row_of-requires
row_of-requires c =
    let tasks = c.self.inside.tasks.items in
    let rows = c.self.inside.rows.items in
    let kept = rules_of c.self.inside.blocks tasks (places_of rows) c.self.invariant.faultless in
    omega (arith, kept.some_rows, row_count rows)

pub blocks_of-requires : goal.blocks_of-requires
blocks_of-requires c =
    let tasks = c.self.inside.tasks.items in
    let rows = c.self.inside.rows.items in
    let kept = rules_of c.self.inside.blocks tasks (places_of rows) c.self.invariant.faultless in
    let turn : c.as_slice-2.result.now ≡ row_in_turn (places_of rows) c.args.cycle =
    c.as_slice-2.ensures ∙ c.row_of.ensures in
    turn_names tasks c.as_slice.result.now rows c.as_slice-2.result.now c.args.cycle c.as_slice.ensures turn
    c.self.invariant.named

pub returns : goal.returns
returns c =
    let tasks = c.self.inside.tasks.items in
    let rows = c.self.inside.rows.items in
    let kept = rules_of c.self.inside.blocks tasks (places_of rows) c.self.invariant.faultless in
    let turn : c.as_slice-2.result.now ≡ row_in_turn (places_of rows) c.args.cycle =
    c.as_slice-2.ensures ∙ c.row_of.ensures in
    c.blocks_of.ensures.set
    ∙ ap (λ ws. blocks_where (has (blocks_in ws)))
    (writes_in_turn tasks c.as_slice.result.now rows c.as_slice-2.result.now c.self.inside.blocks c.self.inside.width
    c.args.cycle c.args.self.now c.as_slice.ensures turn c.self.view_is)
