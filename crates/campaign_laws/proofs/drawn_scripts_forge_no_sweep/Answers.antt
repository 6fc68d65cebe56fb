use Rattle.campaign_laws.proofs.Forging.{forges_no_sweep}
use Rattle.campaign_laws.proofs.drawn_scripts_forge_no_sweep.Goals as goal

pub returns : goal.returns
returns c = forges_no_sweep
