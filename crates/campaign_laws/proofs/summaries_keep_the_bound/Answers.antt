use Rattle.campaign_laws.proofs.Lawful.{keep_the_bound}
use Rattle.campaign_laws.proofs.summaries_keep_the_bound.Goals as goal

pub returns : goal.returns
returns c = keep_the_bound
