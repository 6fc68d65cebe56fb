use Rattle.std.proofs.Common.{◌∙◌}
use Rattle.told_cycles.proofs.CountLemmas.{counts_are}
use Rattle.told_cycles.proofs.counts.counts_after.Goals as goal

pub returns : goal.returns
returns c =
    let r = c.args.rules.now in
    λ base same. c.each_count.ensures
    ∙ counts_are r.law r.keep r.decrement c.args.active c.args.fresh c.args.judged c.args.before.now base same
