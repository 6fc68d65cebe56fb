use Rattle.campaign_facts.proofs.Steps.{tally_goes_on}
use Rattle.campaign_facts.proofs.tallies_are_kept.Goals as goal

pub returns : goal.returns
returns c = tally_goes_on
