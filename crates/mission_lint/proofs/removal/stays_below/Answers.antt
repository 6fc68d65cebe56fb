use Rattle.std.proofs.Common.{◌≡◌, ◌≤◌, ◌<◌, ◌+◌, ◌-◌, ◌∙◌, suc, sym, ap, arith}
use Rattle.std.proofs.lemmas.Bool.{lt-ltb}
use Rattle.recovery_laws.specs.CountHistories.{next_peak, peak_from}
use Rattle.recovery_laws.specs.LeastPeriods.{is_below}
use Rattle.mission_lint.proofs.Peaks.{never_below, steady_here, step_on}
use Rattle.mission_lint.proofs.removal.stays_below.Goals as goal

pub loop-step-init : goal.loop-step-init
loop-step-init c =
    let r = c.args.rules.now in
    let all : r.threshold ≡ c.args.threshold - 0 = omega (arith, c.requires.threshold) in
    record {
      within = omega arith;
      small = omega arith;
      peak = ap (λ n. peak_from r.law r.keep r.decrement n c.args.period 65536) all;
    }

pub loop-step-preserved : goal.loop-step-preserved
loop-step-preserved c =
    let r = c.args.rules.now in
    let n = c.loop-step.step in
    let count = c.loop-step.count in
    let inv = c.loop-step.invariant in
    let few = c.args.threshold - (n + 1) in
    let left : c.args.threshold - n ≡ suc few = omega (arith, c.loop-step-test.true) in
    let is = c.next_peak-next.ensures.value in
    let up : count < next_peak r.law r.keep r.decrement c.args.period count =
    omega (arith, is, c.if-next-count.false) in
    record {
      within = omega (arith, c.loop-step-test.true);
      small = omega (arith, c.if-threshold-count.false, c.next_peak-next.ensures.most, c.requires.few);
      peak =
          inv.peak
          ∙ ap (λ k. peak_from r.law r.keep r.decrement k c.args.period count) left
          ∙ step_on r.law r.keep r.decrement c.args.period r.threshold few count up
          ∙ ap (peak_from r.law r.keep r.decrement few c.args.period) (sym is);
    }

pub returns-then-threshold-count : goal.returns-then-threshold-count
returns-then-threshold-count c =
    let r = c.args.rules.now in
    let count = c.loop-step.count in
    let high : r.threshold ≤ count = omega (arith, c.requires.threshold, c.if-threshold-count.true) in
    sym (ap (is_below r.threshold) c.loop-step.invariant.peak
    ∙ never_below r.law r.keep r.decrement c.args.period r.threshold (c.args.threshold - c.loop-step.step) count high)

pub returns-then-next-count : goal.returns-then-next-count
returns-then-next-count c =
    let r = c.args.rules.now in
    let count = c.loop-step.count in
    let few = c.args.threshold - c.loop-step.step in
    let some : 0 < few = omega (arith, c.loop-step-test.true) in
    let low : next_peak r.law r.keep r.decrement c.args.period count ≤ count =
    omega (arith, c.next_peak-next.ensures.value, c.if-next-count.true) in
    let below : count < r.threshold = omega (arith, c.requires.threshold, c.if-threshold-count.false) in
    sym (ap (is_below r.threshold)
    (c.loop-step.invariant.peak ∙ steady_here r.law r.keep r.decrement c.args.period r.threshold few count some low)
    ∙ lt-ltb count r.threshold below)

pub returns : goal.returns
returns c =
    let r = c.args.rules.now in
    let none : c.args.threshold - c.loop-step.step ≡ 0 =
    omega (arith, c.loop-step-test.false, c.loop-step.invariant.within) in
    sym (ap (is_below r.threshold) (c.loop-step.invariant.peak
    ∙ ap (λ n. peak_from r.law r.keep r.decrement n c.args.period c.loop-step.count) none))
