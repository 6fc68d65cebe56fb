use Rattle.std.proofs.Common.{◌≡◌, filter}
use Rattle.std.specs.List.{range_with_len}
use Rattle.guards_model.specs.Channels.{has}
use Rattle.slot_traffic.proofs.receivers.members.Given as goal

abbrev pub invariant-loop-number : goal.invariant-loop-number
invariant-loop-number l = l.numbers.items ≡ filter (has l.fn.set) (range_with_len 0 l.number)
