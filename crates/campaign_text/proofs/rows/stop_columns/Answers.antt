use Rattle.std.proofs.Common.{rules, append_assoc}
use Rattle.campaign_text.specs.Rows.{stop_columns}
use Rattle.campaign_text.proofs.rows.stop_columns.Goals as goal

pub returns : goal.returns
unfolding stop_columns
returns c = simp append_assoc (search rules)
