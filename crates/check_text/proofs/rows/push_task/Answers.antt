use Rattle.std.proofs.Common.{◌≡◌, ◌≤◌, ◌++◌, length, ap, ◌∙◌, arith}
use Rattle.std.specs.Prelude.{flat_map}
use Rattle.std.proofs.lemmas.List.{take_all}
use Rattle.guards_model.specs.Tasks.{TaskValue}
use Rattle.check_text.specs.Check.{write_text, task_text}
use Rattle.check_text.proofs.rows.push_task.Goals as goal

pub returns : goal.returns
unfolding task_text
returns c =
    let writes = c.args.task.now.writes in
    let seen : length c.as_slice-writes.result.now ≡ length writes =
    ap length c.as_slice-writes.ensures ∙ ap (λ (t : TaskValue). length t.writes) c.task.view_is in
    let end : length writes ≤ c.loop-place.place = omega (arith, c.loop-place-test.false, seen) in
    c.loop-place.invariant ∙ ap (λ ws. c.args.text.now ++ flat_map (write_text c.args.row c.args.task.now.name) ws)
    (take_all c.loop-place.place writes end)
