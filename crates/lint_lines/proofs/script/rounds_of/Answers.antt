use Rattle.std.proofs.Common.{◌+◌, ◌-◌, ◌/◌, sym, ap}
use Rattle.std.proofs.lemmas.List.FromFn.{length-range_with_len}
use Rattle.lint_lines.proofs.script.rounds_of.Goals as goal

pub returns : goal.returns
returns c = ap (λ n. (n - 1) / 3 + 1) (sym (length-range_with_len 0 c.args.channels))
