use Rattle.std.proofs.Common.{◌≤◌, length, subst, Ok, Err, arith}
use Rattle.std.proofs.lemmas.List.{take_all}
use Rattle.std.proofs.lemmas.Result.{err_from_is_err_and}
use Rattle.std.specs.Prelude.{flat_map, List, ℕ}
use Rattle.world_run.specs.Keeping.{HandsOver}
use Rattle.world_run.proofs.Giving.{part_given, part_failed}
use Rattle.world_run.proofs.keeping.give_parts.Goals as goal

pub returns-in_err-give : goal.returns-in_err-give
returns-in_err-give g c =
    let p = err_from_is_err_and c.from_residual.result c.from_residual.ensures.1 in
    let gave = subst (λ text.
    HandsOver (g.K.Sink.seen c.loop-place.out) (g.K.Sink.seen c.give.new.out) text (Err c.in_err-give.field-0.0))
    c.as_slice.ensures c.in_err-give.ensures in
    rw p.1 (part_failed _ _ _ c.args.log.now.parts c.loop-place.place c.get.result.now.items p.0 c.get.ensures
    c.loop-place.invariant gave)

pub loop-place-preserved : goal.loop-place-preserved
loop-place-preserved g c =
    let gave = subst (λ text. HandsOver (g.K.Sink.seen c.loop-place.out) (g.K.Sink.seen c.give.new.out) text (Ok tt))
    c.as_slice.ensures c.in_ok-give.ensures in
    part_given _ _ _ c.args.log.now.parts c.loop-place.place c.get.result.now.items c.get.ensures c.loop-place.invariant
    gave

pub returns : goal.returns
returns g c =
    let parts = c.args.log.now.parts in
    let all : length parts ≤ c.loop-place.place = omega (arith, c.loop-place-test.false, c.len-place-end.ensures.len) in
    subst (λ (texts : List (List ℕ)).
    HandsOver (g.K.Sink.seen c.args.out.now) (g.K.Sink.seen c.loop-place.out) (flat_map (λ text. text) texts)
    (Ok tt))
    (take_all c.loop-place.place parts all) c.loop-place.invariant
