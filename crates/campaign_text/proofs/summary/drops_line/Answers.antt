use Rattle.std.proofs.Common.{rules, append_assoc}
use Rattle.campaign_text.specs.Summaries.{drops_line}
use Rattle.campaign_text.proofs.summary.drops_line.Goals as goal

pub returns : goal.returns
unfolding drops_line
returns c = simp append_assoc (search rules)
