use Rattle.std.proofs.Common.{rules, append_assoc}
use Rattle.campaign_text.specs.Rows.{outcome_columns}
use Rattle.campaign_text.proofs.rows.outcome_columns.Goals as goal

pub returns : goal.returns
unfolding outcome_columns
returns c = simp append_assoc (search rules)
