use Rattle.std.proofs.Common.{◌≡◌, ◌<◌, ◌≤◌, map, ap, arith}
use Rattle.campaign_draws.specs.Drawing.{SizesValue}
use Rattle.fault_script.specs.Entries.{fault_value}
use Rattle.campaign_draws.proofs.Drawn.{cycles_more, cycles_end, after_cycles_more, after_cycles_end}
use Rattle.campaign_draws.proofs.script.all_faults.Goals as goal

pub loop-cycle-preserved : goal.loop-cycle-preserved
loop-cycle-preserved c =
    let S = c.args.sizes in
    let rates = c.args.rates in
    let i = c.loop-cycle.cycle in
    let x = c.loop-cycle.draws in
    let size = ap (λ (s : SizesValue). s.cycles) c.sizes.view_is in
    let below : i < S.cycles = omega (arith, c.loop-cycle-test.true, size) in
    rw c.in_ok-push_cycle.ensures.number (
      cycles_more S rates S.cycles i x (map fault_value c.loop-cycle.faults.items) _ _ below c.in_ok-push_cycle.ensures.faults c.loop-cycle.invariant.0,
      after_cycles_more S rates S.cycles i x _ below c.loop-cycle.invariant.1,
    )

pub returns-clause-faults : goal.returns-clause-faults
returns-clause-faults c =
    let size = ap (λ (s : SizesValue). s.cycles) c.sizes.view_is in
    let end : c.args.sizes.cycles ≤ c.loop-cycle.cycle = omega (arith, c.loop-cycle-test.false, size) in
    cycles_end c.args.sizes c.args.rates c.args.sizes.cycles c.loop-cycle.cycle c.loop-cycle.draws (map fault_value c.loop-cycle.faults.items) _ end c.loop-cycle.invariant.0

pub returns-clause-number : goal.returns-clause-number
returns-clause-number c =
    let size = ap (λ (s : SizesValue). s.cycles) c.sizes.view_is in
    let end : c.args.sizes.cycles ≤ c.loop-cycle.cycle = omega (arith, c.loop-cycle-test.false, size) in
    after_cycles_end c.args.sizes c.args.rates c.args.sizes.cycles c.loop-cycle.cycle c.loop-cycle.draws _ end c.loop-cycle.invariant.1
