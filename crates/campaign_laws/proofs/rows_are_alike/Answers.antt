use Rattle.campaign_laws.proofs.Alike.{rows_alike}
use Rattle.campaign_laws.proofs.rows_are_alike.Goals as goal

pub returns : goal.returns
returns c = rows_alike
