use Rattle.std.proofs.Common.{◌≡◌, ◌≤◌, ◌++◌}
use Rattle.std.specs.Prelude.{flat_map}
use Rattle.guards_model.specs.Channels.{numbers_below}
use Rattle.recovery_laws.specs.Lengths.{transfer_length}
use Rattle.mission_lint.specs.RuleLines.{length_line}
use Rattle.mission_lint.proofs.transfer.push_transfers.Given as goal

abbrev pub invariant-loop-row : goal.invariant-loop-row
invariant-loop-row l = record {
  within : l.row ≤ l.rows;
  done : l.lines.items ≡ l.initial.lines.items
      ++ flat_map (λ row. length_line row (transfer_length l.mission row)) (numbers_below l.row);
}
