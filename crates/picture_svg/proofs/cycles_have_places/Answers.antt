use Rattle.picture_svg.proofs.PlacesRise.{rising, within}
use Rattle.picture_svg.proofs.cycles_have_places.Goals as goal

pub returns-clause-rising : goal.returns-clause-rising
returns-clause-rising c = rising

pub returns-clause-within : goal.returns-clause-within
returns-clause-within c = within
