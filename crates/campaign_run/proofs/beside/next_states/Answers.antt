use Rattle.std.proofs.Common.{ℕ, ◌+◌, List, [], ◌∷◌, length, length-append, refl, sym, ap, ◌∙◌, arith}
use Rattle.campaign_draws.specs.Drawing.{after_run, state_of}
use Rattle.campaign_run.proofs.Following.{next_state, one_more_state}
use Rattle.campaign_run.proofs.beside.next_states.Goals as goal

pub loop-place-init : goal.loop-place-init
unfolding state_of
loop-place-init c = record { count = ap (λ (l : List ℕ). length l) c.new-states.ensures.items; are = λ place lt. absurd (omega (arith, lt)); next = refl }

pub loop-place-preserved : goal.loop-place-preserved
loop-place-preserved c =
    let inv = c.loop-place.invariant in
    record {
      count =
          ap (λ (l : List ℕ). length l) c.in_ok-push.ensures.items
          ∙ length-append c.loop-place.states.items (c.number.result ∷ []) ∙ ap (λ n. n + 1) inv.count;
      are =
          one_more_state c.args.sizes c.args.rates c.args.draws.now c.loop-place._place c.number.result
          c.loop-place.states.items c.push.new.self.items inv.count (c.number.ensures ∙ inv.next)
          c.in_ok-push.ensures.items inv.are;
      next =
          c.in_ok-pass_run.ensures ∙ ap (after_run c.args.sizes c.args.rates) inv.next
          ∙ sym (next_state c.args.sizes c.args.rates c.args.draws.now c.loop-place._place);
    }
