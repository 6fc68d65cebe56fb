use Rattle.campaign_call.proofs.Empty.{empty_by_parts}
use Rattle.campaign_call.proofs.top.is_empty.Goals as goal

pub returns : goal.returns
returns c =
    rw (c.both.ensures, c.is_empty-no_rules.ensures, c.is_empty-no_others.ensures)
    (empty_by_parts c.rules.result.now c.others.result.now c.args.script.now c.rules.ensures c.others.ensures)
