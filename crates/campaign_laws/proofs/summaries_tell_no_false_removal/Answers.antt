use Rattle.campaign_laws.proofs.Lawful.{no_false_removal}
use Rattle.campaign_laws.proofs.summaries_tell_no_false_removal.Goals as goal

pub returns : goal.returns
returns c = no_false_removal
