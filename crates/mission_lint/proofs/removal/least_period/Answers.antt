use Rattle.std.proofs.Common.{◌∙◌, sym, arith}
use Rattle.mission_lint.proofs.FirstNumber.{found_next, found_none}
use Rattle.mission_lint.proofs.LeastPeriod.{least_is, stays}
use Rattle.mission_lint.proofs.Length.{none_more}
use Rattle.mission_lint.proofs.removal.least_period.Goals as goal

pub loop-before-init : goal.loop-before-init
loop-before-init c = record { within = omega arith; none = λ j low high. absurd (omega (arith, low, high)) }

pub loop-before-preserved : goal.loop-before-preserved
loop-before-preserved c =
    let n = c.loop-before.before in
    record {
      within = omega (arith, c.loop-before-test.true);
      none = none_more (stays c.args.rules.now) n c.loop-before.invariant.none
          (sym c.stays_below.ensures ∙ c.if-stays_below.false);
    }

pub returns-then-stays_below : goal.returns-then-stays_below
returns-then-stays_below c = λ M same.
    found_next (stays c.args.rules.now) c.loop-before.before c.loop-before.invariant.none c.loop-before-test.true
    (sym c.stays_below.ensures ∙ c.if-stays_below.true)
    ∙ least_is M c.args.rules.now same

pub returns : goal.returns
returns c = λ M same.
    found_none (stays c.args.rules.now) c.loop-before.before c.loop-before.invariant.none
    (omega (arith, c.loop-before-test.false, c.loop-before.invariant.within))
    ∙ least_is M c.args.rules.now same
