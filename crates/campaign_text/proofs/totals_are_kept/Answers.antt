use Rattle.campaign_text.proofs.TotalsKept.{totals_go_on}
use Rattle.campaign_text.proofs.totals_are_kept.Goals as goal

pub returns : goal.returns
returns c = totals_go_on
