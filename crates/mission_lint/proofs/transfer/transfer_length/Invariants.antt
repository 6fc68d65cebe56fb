use Rattle.std.proofs.Common.{◌≡◌, ◌≤◌, ℕ, false, []}
use Rattle.guards_model.specs.Tags.{StandFor}
use Rattle.recovery_laws.specs.Lengths.{fits_after, transfer_cycles}
use Rattle.mission_lint.proofs.transfer.transfer_length.Given as goal

abbrev pub invariant-loop-before : goal.invariant-loop-before
invariant-loop-before l = record {
  within : l.before ≤ 2000;
  blocks : l.tags.blocks ≡ l.mission.rules.blocks;
  stands : StandFor l.tags (transfer_cycles l.mission l.row l.before) [];
  unfit : (j : ℕ) → 1 ≤ j → j ≤ l.before → fits_after l.mission l.row j ≡ false;
}
