use Rattle.campaign_laws.proofs.Alike.{texts_alike}
use Rattle.campaign_laws.proofs.texts_are_alike.Goals as goal

pub returns : goal.returns
returns c = texts_alike
