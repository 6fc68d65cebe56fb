use Rattle.std.proofs.Common.{◌≡◌, ◌≤◌, None, length, take}
use Rattle.std.specs.Prelude.{replicate}
use Rattle.oral_messages.proofs.tree.clear.Given as goal

-- the places before this one are missing
abbrev pub invariant-loop-place : goal.invariant-loop-place
invariant-loop-place l = record {
  cleared : take l.place l.values.items ≡ replicate l.place None;
  long : length l.values.items ≡ l.kept;
}
