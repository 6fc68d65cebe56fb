use Rattle.std.proofs.Common.{◌∙◌, sym, ap}
use Rattle.mission_lint.specs.RuleLines.{period_line}
use Rattle.mission_lint.proofs.rules.keep_line.Goals as goal

pub returns : goal.returns
returns c = c.period_line.ensures
    ∙ ap period_line (c.least_period.ensures c.args.mission.now (sym c.rules_of.ensures.rules))
