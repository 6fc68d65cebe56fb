use Rattle.std.proofs.Common.{◌++◌, ◌∙◌, Ok, Err, subst}
use Rattle.std.proofs.lemmas.Result.{err_from_is_err_and}
use Rattle.std.specs.Prelude.{flat_map}
use Rattle.guards_io.specs.Views.{SinkView}
use Rattle.world_run.specs.Keeping.{HandsOver}
use Rattle.world_run.proofs.Giving.{gives_then, gives_stop}
use Rattle.world_run.proofs.keeping.give_kept.Goals as goal

pub returns-in_err-give : goal.returns-in_err-give
returns-in_err-give g c =
    let p = err_from_is_err_and c.from_residual.result c.from_residual.ensures.1 in
    let a : SinkView = g.K.Sink.seen c.args.out.now in
    let b : SinkView = g.K.Sink.seen c.give.new.out in
    let parts = flat_map (λ text. text) c.args.log.now.parts in
    let gave = subst (λ text. HandsOver a b text (Err c.in_err-give.field-0.0))
    (c.as_bytes.ensures.value ∙ c.as_str.ensures) c.in_err-give.ensures in
    rw p.1 (gives_stop a b (c.args.head.now ++ parts) c.args.line.now p.0
    (gives_stop a b c.args.head.now parts p.0 gave))

pub returns-in_err-give_parts : goal.returns-in_err-give_parts
returns-in_err-give_parts g c =
    let p = err_from_is_err_and c.from_residual-in_err-give_parts.result c.from_residual-in_err-give_parts.ensures.1 in
    let a : SinkView = g.K.Sink.seen c.args.out.now in
    let b : SinkView = g.K.Sink.seen c.give.new.out in
    let d : SinkView = g.K.Sink.seen c.give_parts.new.out in
    let parts = flat_map (λ text. text) c.args.log.now.parts in
    let first = subst (λ text. HandsOver a b text (Ok tt)) (c.as_bytes.ensures.value ∙ c.as_str.ensures)
    c.in_ok-give.ensures in
    rw p.1 (gives_stop a d (c.args.head.now ++ parts) c.args.line.now p.0
    (gives_then a b d c.args.head.now parts (Err p.0) first c.in_err-give_parts.ensures))

pub returns : goal.returns
returns g c =
    let a : SinkView = g.K.Sink.seen c.args.out.now in
    let b : SinkView = g.K.Sink.seen c.give.new.out in
    let d : SinkView = g.K.Sink.seen c.give_parts.new.out in
    let e : SinkView = g.K.Sink.seen c.give-2.new.out in
    let parts = flat_map (λ text. text) c.args.log.now.parts in
    let first = subst (λ text. HandsOver a b text (Ok tt)) (c.as_bytes.ensures.value ∙ c.as_str.ensures)
    c.in_ok-give.ensures in
    let third = subst (λ text. HandsOver d e text c.give-2.result) (c.as_bytes-2.ensures.value ∙ c.as_str-2.ensures)
    c.give-2.ensures in
    gives_then a d e (c.args.head.now ++ parts) c.args.line.now c.give-2.result
    (gives_then a b d c.args.head.now parts (Ok tt) first c.in_ok-give_parts.ensures) third
