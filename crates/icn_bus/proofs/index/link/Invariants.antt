use Rattle.std.proofs.Common.{◌≡◌, ◌≤◌, length}
use Rattle.icn_bus.specs.Indexes.{LeadsFrom}
use Rattle.icn_bus.proofs.index.link.Given as goal

abbrev pub invariant-loop-place : goal.invariant-loop-place
invariant-loop-place l = record {
  within : l.place ≤ length l.buckets;
  heads : length l.heads ≡ length l.initial.heads;
  places : length l.nexts ≡ length l.buckets;
  leads : LeadsFrom l.place l.buckets l.heads l.nexts;
}

abbrev pub decreases-loop-place : goal.decreases-loop-place
decreases-loop-place l = l.place
