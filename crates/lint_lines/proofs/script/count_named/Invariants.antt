use Rattle.std.proofs.Common.{◌≡◌, ◌≤◌, length, filter}
use Rattle.guards_model.specs.Channels.{numbers_below}
use Rattle.lint_lines.specs.ScriptLines.{is_named}
use Rattle.lint_lines.proofs.script.count_named.Given as goal

abbrev pub invariant-loop-channel : goal.invariant-loop-channel
invariant-loop-channel l = record {
  within : l.channel ≤ l.channels;
  count : l.count ≡ length (filter (is_named l.script l.cycle) (numbers_below l.channel));
  few : l.count ≤ l.channel;
}
