use Rattle.std.proofs.Common.{◌≡◌}
use Rattle.std.specs.List.{AllByRecursion}
use Rattle.slot_traffic.specs.Arrivals.{SpellInRange}
use Rattle.slot_traffic.proofs.traffic.opened.Given as goal

abbrev pub invariant-loop-parcel : goal.invariant-loop-parcel
invariant-loop-parcel l = record {
  same : l.all.items ≡ l.yielded;
  spelled : AllByRecursion SpellInRange l.all.items;
}
