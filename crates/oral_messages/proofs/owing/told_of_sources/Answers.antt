use Rattle.std.proofs.Common.{[], ◌∷◌, ap, sym, ◌∙◌, arith}
use Rattle.guards_model.specs.Frames.{ItemValue}
use Rattle.guards_model.specs.OralMessages.{paths}
use Rattle.oral_messages.proofs.Levels.{apart_one}
use Rattle.oral_messages.proofs.ItemsTold.{front_none, front_more, front_same, front_all, read_none, has_one}
use Rattle.oral_messages.proofs.Formulas.{sizes}
use Rattle.oral_messages.proofs.Ranged.{sources_good}
use Rattle.oral_messages.proofs.owing.told_of_sources.Goals as goal
use Rattle.oral_messages.proofs.owing.told_of_sources.Goals.{then-a-me+in_ok-push, else-a-me}

pub loop-place-init : goal.loop-place-init
loop-place-init c = front_none c.args.me c.args.values.now (paths c.args.members.now 1) c.reserve.new.self.items
    (c.reserve.ensures.items ∙ c.new-items.ensures.items)

pub loop-place-preserved : goal.loop-place-preserved
loop-place-preserved c =
    let a = c.first_at-a.result in
    elim c.if-a-me.branch [
      | then-a-me+in_ok-push w ↦
          front_more c.args.me c.args.values.now (paths c.args.members.now 1) c.loop-place.items.items
          c.if-a-me.items.items c.loop-place.place (a ∷ []) c.loop-place-test.true c.first_at-a.ensures
          _ (apart_one a c.args.me w.if-a-me.true) (ap (λ v. v.items) w.items-is ∙ w.in_ok-push.ensures.pushed)
          (ap (λ v. let one : ItemValue = record { path = a ∷ []; word = v } in one)
          (read_none c.args.values.now c.loop-place.place c.index-values-place.result c.loop-place-test.true
          c.index-values-place.is)) c.loop-place.invariant
      | else-a-me w ↦
          front_same c.args.me c.args.values.now (paths c.args.members.now 1) c.loop-place.items.items
          c.if-a-me.items.items c.loop-place.place (a ∷ []) c.loop-place-test.true c.first_at-a.ensures
          (has_one a c.args.me w.if-a-me.false) (ap (λ v. v.items) w.items-is) c.loop-place.invariant
    ]

pub returns-clause-items : goal.returns-clause-items
returns-clause-items c = front_all c.args.me c.args.values.now (paths c.args.members.now 1) c.loop-place.items.items
    c.loop-place.place (omega arith) c.loop-place.invariant

pub returns-clause-range : goal.returns-clause-range
returns-clause-range c =
    sources_good c.args.members.now c.args.me c.requires.set c.requires.mine c.args.values.now c.values_fit.ensures
    c.loop-place.items.items
    (c.requires.many ∙ sym (sizes c.args.members.now c.requires.set).first)
    (front_all c.args.me c.args.values.now (paths c.args.members.now 1) c.loop-place.items.items c.loop-place.place
    (omega arith) c.loop-place.invariant)
