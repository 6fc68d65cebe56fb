use Rattle.campaign_draws.proofs.Kept.{drawn_kept}
use Rattle.campaign_draws.proofs.drawn_scripts_keep_their_rules.Goals as goal

pub returns : goal.returns
returns c = drawn_kept
