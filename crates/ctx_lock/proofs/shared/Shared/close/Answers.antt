use Rattle.std.proofs.Common.{rules, ◌≡◌, [], ◌∷◌, ◌<◌, ap, sym, ◌∙◌, subst, refl, arith, Some}
use mathlib.Core.Option.{some-injective}
use Rattle.guards_model.specs.declared.Actor.{Actor}
use Rattle.guards_model.specs.declared.Actor.TheVariants.{Task, Sweep}
use Rattle.ctx_lock.specs.declared.view.View.{View}
use Rattle.ctx_lock.specs.History.{times, one_if}
use Rattle.ctx_lock.specs.Views.{has, made}
use Rattle.ctx_lock.specs.Passes.{AreStepsOf, IsClosed}
use Rattle.ctx_lock.proofs.Joining.{joins}
use Rattle.ctx_lock.proofs.StepMade.{one_self}
use Rattle.ctx_lock.proofs.TableClosed.{gives_back}
use Rattle.ctx_lock.proofs.shared.Shared.close.Goals as goal

-- a seat for one actor has it
has_own : {O : Type 0} (v : View O) (a : Actor) → v.actors ≡ a ∷ [] → 0 < has a v
has_own v a is = let n = ap (times a) is in omega (arith, one_self a)

-- and has made no step of the other
made_none : {O : Type 0} (v : View O) (actor : Actor) (n : _) (a b : Actor) → actor ≡ a → one_if b a ≡ 0 →
    AreStepsOf actor n v.steps → made b v ≡ 0
made_none v actor n a b is other steps = steps.alone b (ap (one_if b) is ∙ other)

pub join_seat-requires : goal.join_seat-requires
join_seat-requires g c =
    let t = g.T.Turned in
    let key = c.args.self.table.shared.key.value in
    let task = c.args.task in
    let sweep = c.args.sweep in (
      search rules,
      search rules,
      search rules,
      search rules,
      joins t.origin t.history t.due (t.origin key) (t.history key) _ _ _ _ task.actor sweep.actor
          (has_own task.seat.me.0 task.actor task.acts) (has_own sweep.seat.me.0 sweep.actor sweep.acts) task.waits
          sweep.waits,
    )

pub unreachable-requires : goal.unreachable-requires
unreachable-requires g c =
    let t = g.T.Turned in
    let key = c.args.self.table.shared.key.value in
    let task = c.args.task in
    let sweep = c.args.sweep in
    let back = gives_back t.origin t.history t.due (t.origin key) (t.history key) _ _ task.seat.me.0 sweep.seat.me.0 _ _
    key (ap (λ m. m.0) c.join_seat.ensures.2) refl refl (task.acts ∙ ap (λ a. a ∷ []) c.requires.actors.0)
    (sweep.acts ∙ ap (λ a. a ∷ []) c.requires.actors.1) task.waits
    (made_none task.seat.me.0 _ _ Task Sweep c.requires.actors.0 refl task.counts)
    (made_none sweep.seat.me.0 _ _ Sweep Task c.requires.actors.1 refl sweep.counts)
    c.close_with-closed.ensures.values.2 in
    c.in_default.not-Some back.0 (some-injective _ _ (sym c.take-last.ensures.value ∙ back.1))

pub returns-clause-closed : goal.returns-clause-closed
returns-clause-closed g c =
    let t = g.T.Turned in
    let key = c.args.self.table.shared.key.value in
    let task = c.args.task in
    let sweep = c.args.sweep in
    let back = gives_back t.origin t.history t.due (t.origin key) (t.history key) _ _ task.seat.me.0 sweep.seat.me.0 _ _
    key (ap (λ m. m.0) c.join_seat.ensures.2) refl refl (task.acts ∙ ap (λ a. a ∷ []) c.requires.actors.0)
    (sweep.acts ∙ ap (λ a. a ∷ []) c.requires.actors.1) task.waits
    (made_none task.seat.me.0 _ _ Task Sweep c.requires.actors.0 refl task.counts)
    (made_none sweep.seat.me.0 _ _ Sweep Task c.requires.actors.1 refl sweep.counts)
    c.close_with-closed.ensures.values.2 in
    let taken : Some back.0 ≡ c.take-last.result = some-injective _ _ (sym back.1 ∙ c.take-last.ensures.value) in
    let here : Some back.0 ≡ Some c.in-Some.value = taken ∙ c.in-Some.is in
    let same : back.0 ≡ c.in-Some.value = cc in
    subst (λ (x : g.row.T.Denot). IsClosed t.origin t.history t.due key task.seat.me.0 sweep.seat.me.0 x) same back.2
