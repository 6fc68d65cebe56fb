-- What is kept after one more cycle.
use Rattle.std.proofs.Common.{◌≡◌, List, ◌∷◌, refl}
use Rattle.guards_model.specs.Channels.{by_channel, channels_where}
use Rattle.guards_model.specs.Faults.{FaultValue}
use Rattle.campaign_facts.specs.Facts.{FactsValue, PastFacts}
use Rattle.campaign_facts.specs.Tallies.{next_tally, tally_of}

pub tally_goes_on : (script : List FaultValue) (f : FactsValue) (past : PastFacts) → next_tally script f (tally_of script past) ≡ tally_of script (f ∷ past)
unfolding next_tally tally_of by_channel channels_where
tally_goes_on script f past = refl
