use Rattle.std.proofs.Common.{rules, append_assoc}
use Rattle.campaign_text.specs.Rows.{run_columns}
use Rattle.campaign_text.proofs.rows.run_columns.Goals as goal

pub returns : goal.returns
unfolding run_columns
returns c = simp append_assoc (search rules)
