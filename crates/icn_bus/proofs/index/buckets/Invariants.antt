use Rattle.std.proofs.Common.{◌≡◌, ◌<◌, length, take, All}
use Rattle.icn_bus.specs.Indexes.{buckets_of}
use Rattle.icn_bus.proofs.index.buckets.Given as goal

abbrev pub invariant-loop-rule : goal.invariant-loop-rule
invariant-loop-rule l = record {
  value : l.buckets.items ≡ buckets_of (length l.rules) (take l.rule-index l.rules);
  below : All (λ b. b < length l.rules) l.buckets.items;
}
