use Rattle.std.proofs.Common.{rules, append_assoc}
use Rattle.campaign_text.specs.Summaries.{removals_line}
use Rattle.campaign_text.proofs.summary.removals_line.Goals as goal

pub returns : goal.returns
unfolding removals_line
returns c = simp append_assoc (search rules)
