use Rattle.std.proofs.Common.{rules, append_assoc}
use Rattle.campaign_text.specs.Summaries.{runs_line}
use Rattle.campaign_text.proofs.summary.runs_line.Goals as goal

pub returns : goal.returns
unfolding runs_line
returns c = simp append_assoc (search rules)
