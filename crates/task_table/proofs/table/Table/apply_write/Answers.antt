use Rattle.std.proofs.Common.{rules, tests, ◌≡◌, ◌∙◌, refl, sym, ap, subst, ℕ, ◌+◌, ◌-◌, ◌*◌, ◌<◌, ◌≤◌, ◌==◌, Bool, true, false, cond, ◌&&◌, ◌||◌, List, [], ◌∷◌, ◌++◌, length, take, drop, get_or, Option, Some, None, Bor, suc, arith, length-append}
use Rattle.std.specs.Prelude.{map, option_map, slice_get, nat_le, nat_lt, IsSome, IsSomeAnd}
use Rattle.std.specs.List.{list_all}
use Rattle.std.specs.Option.{option_copied}
use Rattle.std.proofs.lemmas.Bool.{leb-true}
use Rattle.std.proofs.lemmas.List.{length-map}
use Rattle.std.proofs.lemmas.Option.{slice_get-get_or}
use Rattle.guards_model.specs.Channels.{has}
use Rattle.guards_model.specs.Tasks.{WriteValue, TaskValue, writes_of, written}
use Rattle.guards_model.specs.Missions.{row_in_turn}
use Rattle.guards_model.specs.Expressions.{fits_or_none}
use Rattle.context_blocks.specs.BlockSets.{blocks_where}
use Rattle.task_table.specs.Tables.{places_of, named_tasks, names_tasks, tasks_in_row, table_writes, nth_task}
use Rattle.task_table.proofs.RowWrites.{blocks_in, named_writes}
use Rattle.task_table.proofs.KeptRules.{rules as rules_of, turn_short, write_passes, set_fits_more}
use Rattle.task_table.proofs.TableRows.{row_count, named_at, row_passes, place_there, named_task, writes_in_turn, turn_names}
use Rattle.task_table.proofs.table.Table.apply_write.Goals as goal

copied_some : (o : Option (Bor WriteValue)) (ws : List WriteValue) (k : ℕ) → option_copied o ≡ slice_get ws k →
    k < length ws → IsSome o
copied_some None ws k h low = absurd (clash (h ∙ slice_get-get_or ws k (record { block = 0; set = [] }) low))
  where
    clash : None ≡ Some (get_or ws k (record { block = 0; set = [] })) → ⊥
    clash e = cc
copied_some (Some w) ws k h low = refl

pub find_write-requires : goal.find_write-requires
find_write-requires g c =
    let tasks = c.self.inside.tasks.items in
    let rows = c.self.inside.rows.items in
    let kept = rules_of c.self.inside.blocks tasks (places_of rows) c.self.invariant.faultless in
    let turn : c.as_slice-2.result.now ≡ row_in_turn (places_of rows) c.args.cycle =
    c.as_slice-2.ensures ∙ c.row_of.ensures in
    turn_names tasks c.as_slice.result.now rows c.as_slice-2.result.now c.args.cycle c.as_slice.ensures turn
    c.self.invariant.named

pub unwrap-write-requires : goal.unwrap-write-requires
unwrap-write-requires g c =
    let tasks = c.self.inside.tasks.items in
    let rows = c.self.inside.rows.items in
    let kept = rules_of c.self.inside.blocks tasks (places_of rows) c.self.invariant.faultless in
    let turn : c.as_slice-2.result.now ≡ row_in_turn (places_of rows) c.args.cycle =
    c.as_slice-2.ensures ∙ c.row_of.ensures in
    let ws = writes_in_turn tasks c.as_slice.result.now rows c.as_slice-2.result.now c.self.inside.blocks
    c.self.inside.width c.args.cycle c.args.self.now c.as_slice.ensures turn c.self.view_is in
    copied_some c.find_write.result (table_writes c.args.self.now c.args.cycle) c.args.k
    (c.find_write.ensures ∙ ap (λ w. slice_get w c.args.k) ws) c.requires.step

pub apply-requires-clause-there : goal.apply-requires-clause-there
apply-requires-clause-there g c =
    let tasks = c.self.inside.tasks.items in
    let rows = c.self.inside.rows.items in
    let kept = rules_of c.self.inside.blocks tasks (places_of rows) c.self.invariant.faultless in
    let turn : c.as_slice-2.result.now ≡ row_in_turn (places_of rows) c.args.cycle =
    c.as_slice-2.ensures ∙ c.row_of.ensures in
    let here : slice_get (writes_of (named_tasks c.as_slice.result.now c.as_slice-2.result.now)) c.args.k
    ≡ Some c.unwrap-write.result.now =
    sym c.find_write.ensures ∙ ap option_copied c.unwrap-write.ensures in
    let inner : slice_get (writes_of (named_tasks tasks (row_in_turn (places_of rows) c.args.cycle))) c.args.k
    ≡ Some c.unwrap-write.result.now =
    sym (ap (λ ts. slice_get (writes_of (named_tasks ts (row_in_turn (places_of rows) c.args.cycle))) c.args.k)
    c.as_slice.ensures) ∙ sym (ap (λ r. slice_get (writes_of (named_tasks c.as_slice.result.now r)) c.args.k) turn)
    ∙ here in
    let size : c.self.inside.blocks ≡ length c.args.ctx.now =
    ap (λ t. t.blocks) c.self.view_is ∙ sym c.requires.blocks in
    let there = leb-true (suc c.unwrap-write.result.now.block) c.self.inside.blocks
    (write_passes (λ w. nat_lt w.block c.self.inside.blocks) tasks (row_in_turn (places_of rows) c.args.cycle) c.args.k
    c.unwrap-write.result.now kept.blocks_there inner) in
    omega (arith, there, size)

pub apply-requires-clause-fits : goal.apply-requires-clause-fits
apply-requires-clause-fits g c =
    let tasks = c.self.inside.tasks.items in
    let rows = c.self.inside.rows.items in
    let kept = rules_of c.self.inside.blocks tasks (places_of rows) c.self.invariant.faultless in
    let turn : c.as_slice-2.result.now ≡ row_in_turn (places_of rows) c.args.cycle =
    c.as_slice-2.ensures ∙ c.row_of.ensures in
    let here : slice_get (writes_of (named_tasks c.as_slice.result.now c.as_slice-2.result.now)) c.args.k
    ≡ Some c.unwrap-write.result.now =
    sym c.find_write.ensures ∙ ap option_copied c.unwrap-write.ensures in
    let inner : slice_get (writes_of (named_tasks tasks (row_in_turn (places_of rows) c.args.cycle))) c.args.k
    ≡ Some c.unwrap-write.result.now =
    sym (ap (λ ts. slice_get (writes_of (named_tasks ts (row_in_turn (places_of rows) c.args.cycle))) c.args.k)
    c.as_slice.ensures) ∙ sym (ap (λ r. slice_get (writes_of (named_tasks c.as_slice.result.now r)) c.args.k) turn)
    ∙ here in
    let size : c.self.inside.blocks ≡ length c.args.ctx.now =
    ap (λ t. t.blocks) c.self.view_is ∙ sym c.requires.blocks in
    let fit = write_passes (λ w. list_all (fits_or_none c.self.inside.blocks c.self.inside.width) w.set) tasks
    (row_in_turn (places_of rows) c.args.cycle) c.args.k c.unwrap-write.result.now c.self.invariant.fit inner in
    subst (λ b. list_all (fits_or_none b 4) c.unwrap-write.result.now.set ≡ true) size
    (set_fits_more c.self.inside.blocks c.self.inside.width c.self.invariant.narrow c.unwrap-write.result.now.set
    fit)

pub returns : goal.returns
returns g c =
    let tasks = c.self.inside.tasks.items in
    let rows = c.self.inside.rows.items in
    let kept = rules_of c.self.inside.blocks tasks (places_of rows) c.self.invariant.faultless in
    let turn : c.as_slice-2.result.now ≡ row_in_turn (places_of rows) c.args.cycle =
    c.as_slice-2.ensures ∙ c.row_of.ensures in
    let here : slice_get (writes_of (named_tasks c.as_slice.result.now c.as_slice-2.result.now)) c.args.k
    ≡ Some c.unwrap-write.result.now =
    sym c.find_write.ensures ∙ ap option_copied c.unwrap-write.ensures in
    let inner : slice_get (writes_of (named_tasks tasks (row_in_turn (places_of rows) c.args.cycle))) c.args.k
    ≡ Some c.unwrap-write.result.now =
    sym (ap (λ ts. slice_get (writes_of (named_tasks ts (row_in_turn (places_of rows) c.args.cycle))) c.args.k)
    c.as_slice.ensures) ∙ sym (ap (λ r. slice_get (writes_of (named_tasks c.as_slice.result.now r)) c.args.k) turn)
    ∙ here in
    let size : c.self.inside.blocks ≡ length c.args.ctx.now =
    ap (λ t. t.blocks) c.self.view_is ∙ sym c.requires.blocks in
    let ws = writes_in_turn tasks c.as_slice.result.now rows c.as_slice-2.result.now c.self.inside.blocks
    c.self.inside.width c.args.cycle c.args.self.now c.as_slice.ensures turn c.self.view_is in
    let outer : slice_get (table_writes c.args.self.now c.args.cycle) c.args.k ≡ Some c.unwrap-write.result.now =
    sym (ap (λ w. slice_get w c.args.k) ws) ∙ here in
    subst (λ o. IsSomeAnd o (λ write. (c.apply.new.ctx ≡ written write c.args.ctx.now c.args.inputs.now c.args.cycle)
    × (c.write.inside.block ≡ write.block))) (sym outer)
    (c.apply.ensures, ap (λ (w : WriteValue). w.block) c.write.view_is)
