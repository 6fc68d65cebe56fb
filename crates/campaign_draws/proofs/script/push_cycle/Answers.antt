use Rattle.std.proofs.Common.{◌≡◌, ◌<◌, ◌≤◌, map, ap, arith}
use Rattle.campaign_draws.specs.Drawing.{SizesValue}
use Rattle.fault_script.specs.Entries.{fault_value}
use Rattle.campaign_draws.proofs.Drawn.{channels_more, channels_end, after_channels_more, after_channels_end}
use Rattle.campaign_draws.proofs.script.push_cycle.Goals as goal

pub loop-number-preserved : goal.loop-number-preserved
loop-number-preserved c =
    let S = c.args.sizes in
    let rates = c.args.rates in
    let i = c.loop-number.number in
    let x = c.loop-number.draws in
    let size = ap (λ (s : SizesValue). s.channels) c.sizes.view_is in
    let below : i < S.channels = omega (arith, c.loop-number-test.true, size) in
    rw c.in_ok-push_channel.ensures.number (
      channels_more S rates c.args.cycle S.channels i x (map fault_value c.loop-number.faults.items) _ _ below (rw c.chan-channel.ensures at c.in_ok-push_channel.ensures.faults) c.loop-number.invariant.0,
      after_channels_more S rates S.channels i x _ below c.loop-number.invariant.1,
    )

pub returns-clause-faults : goal.returns-clause-faults
returns-clause-faults c =
    let size = ap (λ (s : SizesValue). s.channels) c.sizes.view_is in
    let end : c.args.sizes.channels ≤ c.loop-number.number = omega (arith, c.loop-number-test.false, size) in
    channels_end c.args.sizes c.args.rates c.args.cycle c.args.sizes.channels c.loop-number.number c.loop-number.draws (map fault_value c.loop-number.faults.items) _ end c.loop-number.invariant.0

pub returns-clause-number : goal.returns-clause-number
returns-clause-number c =
    let size = ap (λ (s : SizesValue). s.channels) c.sizes.view_is in
    let end : c.args.sizes.channels ≤ c.loop-number.number = omega (arith, c.loop-number-test.false, size) in
    after_channels_end c.args.sizes c.args.rates c.args.sizes.channels c.loop-number.number c.loop-number.draws _ end c.loop-number.invariant.1
