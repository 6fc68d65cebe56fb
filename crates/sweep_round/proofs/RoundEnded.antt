-- A round after all its steps.
use Rattle.std.proofs.Common.{◌≡◌, List, sym, ap, subst, ◌∙◌, Option, Some, None}
use Rattle.std.specs.Prelude.{IfSome}
use Rattle.guards_model.specs.declared.Actor.{Actor}
use Rattle.guards_model.specs.declared.Actor.TheVariants.{Task, Sweep}
use Rattle.guards_model.specs.Rounds.{Origin, context_at, context_of_replay, copies_of_replay}
use Rattle.ctx_lock.specs.History.{times}
use Rattle.sweep_round.specs.declared.start.RoundStart.{RoundStart}
use Rattle.sweep_round.specs.declared.trail.Finished.{Finished}
use Rattle.sweep_round.specs.declared.turns.Round.{Round}
use Rattle.sweep_round.specs.Rounds.{start_origin, due_steps, round_start, round_history}
use Rattle.sweep_round.specs.Trails.{trail_steps}
use Rattle.sweep_round.specs.Endings.{IsFinished, IsEndOf, IsEnded}
use Rattle.sweep_round.proofs.RoundSteps.{times_task, is_full}

pub finished_full : (s : RoundStart) (h : List Actor) (f : Finished) → IsFinished s h f →
    ((a : Actor) → times a h ≡ due_steps s a) → IsEnded s f
finished_full s h f fin full =
    let o = start_origin s in
    let steps = trail_steps f.history in
    let all : (a : Actor) → times a steps ≡ due_steps s a = λ a. ap (times a) fin.steps_are ∙ full a in
    record {
      full = is_full o steps (all Task) (all Sweep);
      context_is = fin.context_is ∙ ap (context_of_replay o) (sym fin.steps_are)
          ∙ ap (context_at o) (sym (times_task steps) ∙ all Task);
      copies_are = fin.copies_are ∙ ap (copies_of_replay o) (sym fin.steps_are);
      pipe_is = fin.pipe_is;
      cycle_is = fin.cycle_is;
    }

module _ {C : Type 0} where
  pub ended : (value : Round C) (f : Finished) →
      IsEndOf round_start round_history due_steps (λ v f. IsFinished (round_start v) (round_history v) f) value f →
      IsEnded (round_start value) f
  ended value f e =
      finished_full (round_start value) (round_history e.last) f
      (subst (λ s. IsFinished s (round_history e.last) f) e.origin_is e.finished_is) e.full

  pub some_ended : {A : Type 0} (value : Round C) (crew : A) (r : Option (Finished × A))
      → IfSome r (λ p. IsEndOf round_start round_history due_steps
      (λ v f. IsFinished (round_start v) (round_history v) f) value p.0 × (p.1 ≡ crew))
      → IfSome r (λ p. IsEnded (round_start value) p.0 × (p.1 ≡ crew))
  some_ended value crew (Some p) h = (ended value p.0 h.0, h.1)
  some_ended value crew None h = h
