use Rattle.campaign_laws.proofs.Lawful.{rows_lawful}
use Rattle.campaign_laws.proofs.rows_are_lawful.Goals as goal

pub returns : goal.returns
returns c = rows_lawful
