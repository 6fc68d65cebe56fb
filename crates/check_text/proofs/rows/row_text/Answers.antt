use Rattle.std.proofs.Common.{◌≡◌, ◌<◌, ◌≤◌, ◌++◌, [], length, get_or, ap, sym, ◌∙◌, arith}
use Rattle.std.specs.Prelude.{flat_map}
use Rattle.std.proofs.lemmas.List.{take_all}
use Rattle.std.proofs.lemmas.Option.{get_or_from_slice_get}
use Rattle.task_table.specs.Tables.{tasks_in_row}
use Rattle.check_text.specs.Check.{task_text, row_text}
use Rattle.check_text.proofs.PlaceTexts.{element_more}
use Rattle.check_text.proofs.rows.row_text.Goals as goal

pub loop-place-preserved : goal.loop-place-preserved
loop-place-preserved c =
    let tasks = tasks_in_row c.args.table.now.rows c.args.row in
    let at = c.loop-place.place in
    let task = c.task.result.now in
    let low : at < length tasks = omega (arith, c.loop-place-test.true, c.row_len-place-end.ensures.count) in
    let this : get_or tasks at task ≡ task = get_or_from_slice_get tasks at task task c.task.ensures in
    element_more [] tasks at task c.loop-place.text c.push_task.new.text (task_text c.args.row) low
    c.loop-place.invariant
    (c.in_ok-push_task.ensures ∙ ap (λ t. c.loop-place.text ++ task_text c.args.row t) (sym this))

pub returns : goal.returns
unfolding row_text
returns c =
    let tasks = tasks_in_row c.args.table.now.rows c.args.row in
    let end : length tasks ≤ c.loop-place.place =
    omega (arith, c.loop-place-test.false, c.row_len-place-end.ensures.count) in
    c.loop-place.invariant ∙ ap (flat_map (task_text c.args.row)) (take_all c.loop-place.place tasks end)
