use Rattle.std.proofs.Common.{rules, append_assoc}
use Rattle.campaign_text.specs.Rows.{transfer_columns}
use Rattle.campaign_text.proofs.rows.transfer_columns.Goals as goal

pub returns : goal.returns
unfolding transfer_columns
returns c = simp append_assoc (search rules)
