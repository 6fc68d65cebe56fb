use Rattle.std.proofs.Common.{◌-◌, length}
use Rattle.icn_bus.proofs.Finding.{IsReached}
use Rattle.icn_bus.proofs.index.IndexedRules.first_fitting.Given as goal

abbrev pub invariant-loop-place : goal.invariant-loop-place
invariant-loop-place l = IsReached l.self-inside.rules.items (length l.self-inside.heads.items) l.cycle l.slot l.from
    l.to l.place

abbrev pub decreases-loop-place : goal.decreases-loop-place
decreases-loop-place l = length l.self-inside.rules.items - l.place
