use Rattle.std.proofs.Common.{◌<◌, ◌==◌, ◌&&◌, ◌||◌, not, length, sym, ◌∙◌, arith}
use Rattle.std.specs.Prelude.{nat_le, nat_lt}
use Rattle.std.specs.List.{list_all}
use Rattle.guards_model.specs.Channels.{has, without}
use Rattle.guards_audit.specs.Tests.{stays_rightly}
use Rattle.told_cycles.proofs.SetLemmas.{all_members, fails_for}
use Rattle.told_cycles.proofs.rules.all_stay_rightly.Goals as goal

pub returns-then-not-stays_rightly : goal.returns-then-not-stays_rightly
returns-then-not-stays_rightly c =
    let M = c.args.mission.now in
    let q = c.loop-chan.chan in
    λ r e same.
    let low : q < 7 = omega (arith, c.loop-chan-test.true) in
    sym (fails_for (stays_rightly M r c.args.removed) c.args.active q
    ((λ i. not (has c.args.active q)
    || ((not (nat_le (sym c.threshold_of-threshold.ensures i) (sym (same q low) i)) || has c.args.removed q)
    || (length (without (e i) c.args.removed) == 3 && list_all (λ p. nat_lt p q) c.args.removed)))
    ∙ sym c.stays_rightly.ensures ∙ c.if-not-stays_rightly.true))

pub returns : goal.returns
returns c =
    let M = c.args.mission.now in
    λ r e same.
    sym (all_members (stays_rightly M r c.args.removed) c.args.active c.mask-mask.result c.mask-mask.ensures.members
    c.mask-mask.ensures.below
    (λ q low.
    (λ i. not (has c.args.active q)
    || ((not (nat_le (sym c.threshold_of-threshold.ensures i) (sym (same q low) i)) || has c.args.removed q)
    || (length (without (e i) c.args.removed) == 3 && list_all (λ p. nat_lt p q) c.args.removed)))
    ∙ c.loop-chan.invariant q (omega (arith, low, c.loop-chan-test.false))))
