use Rattle.std.proofs.Common.{◌≡◌, ◌==◌, ◌/◌, ◌%◌, ◌^◌, filter}
use Rattle.std.specs.List.{range_with_len}
use Rattle.campaign_text.proofs.causes.members.Given as goal

abbrev pub invariant-loop-channel : goal.invariant-loop-channel
invariant-loop-channel l = l.list.items ≡ filter (λ q. (l.mask / 2 ^ q) % 2 == 1) (range_with_len 0 l.channel)
