use Rattle.std.proofs.Common.{◌≡◌}
use Rattle.tree_rows.proofs.tests.tree_of.Given as goal

abbrev pub invariant-loop-step : goal.invariant-loop-step
invariant-loop-step g l = record { members : l.tree.members ≡ l.active; me : l.tree.me ≡ l.me }
