use Rattle.std.proofs.Common.{rules, append_assoc}
use Rattle.campaign_text.specs.Rows.{fault_columns}
use Rattle.campaign_text.proofs.rows.fault_columns.Goals as goal

pub returns : goal.returns
unfolding fault_columns
returns c = simp append_assoc (search rules)
