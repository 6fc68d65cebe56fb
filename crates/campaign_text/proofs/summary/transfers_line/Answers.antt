use Rattle.std.proofs.Common.{rules, append_assoc}
use Rattle.campaign_text.specs.Summaries.{transfers_line}
use Rattle.campaign_text.proofs.summary.transfers_line.Goals as goal

pub returns : goal.returns
unfolding transfers_line
returns c = simp append_assoc (search rules)
