use Rattle.std.proofs.Common.{rules, append_assoc}
use Rattle.campaign_text.specs.Summaries.{joins_line}
use Rattle.campaign_text.proofs.summary.joins_line.Goals as goal

pub returns : goal.returns
unfolding joins_line
returns c = simp append_assoc (search rules)
