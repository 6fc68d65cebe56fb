use Rattle.std.proofs.Common.{◌≡◌, drop}
use Rattle.guards_model.specs.OralMessages.{majority_value}
use Rattle.oral_messages.proofs.SettledBranches.{settled_among}
use Rattle.oral_messages.proofs.votes.settle.Given as goal

abbrev pub invariant-loop-value : goal.invariant-loop-value
invariant-loop-value l = settled_among l.values (drop l.value-index l.values) ≡ majority_value l.values
