use Rattle.std.proofs.Common.{◌≡◌, ◌+◌, ◌∙◌, suc, refl, ap, arith}
use Rattle.guards_model.specs.Diagnosis.{decayed}
use Rattle.recovery_laws.specs.CountHistories.{decayed_for}
use Rattle.mission_lint.proofs.removal.decayed_for.Goals as goal

pub loop-cycle-init : goal.loop-cycle-init
loop-cycle-init c = record { within = omega arith; left = refl; lower = omega arith }

pub loop-cycle-preserved : goal.loop-cycle-preserved
loop-cycle-preserved c =
    let r = c.args.rules.now in
    let n = c.loop-cycle.cycle in
    let next : suc n ≡ n + 1 = omega arith in
    record {
      within = omega (arith, c.loop-cycle-test.true);
      left =
          c.decayed-left.ensures.value
          ∙ ap (decayed r.law r.keep r.decrement) c.loop-cycle.invariant.left
          ∙ ap (λ m. decayed_for r.law r.keep r.decrement m c.args.count) next;
      lower = omega (arith, c.decayed-left.ensures.lower, c.loop-cycle.invariant.lower);
    }

pub returns-clause-value : goal.returns-clause-value
returns-clause-value c =
    let r = c.args.rules.now in
    let end : c.loop-cycle.cycle ≡ c.args.cycles =
    omega (arith, c.loop-cycle-test.false, c.loop-cycle.invariant.within) in
    c.loop-cycle.invariant.left ∙ ap (λ m. decayed_for r.law r.keep r.decrement m c.args.count) end
