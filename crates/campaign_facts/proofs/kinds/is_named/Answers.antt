use Rattle.campaign_facts.specs.Facts.{names}
use Rattle.campaign_facts.proofs.Parts.{said_by_parts}
use Rattle.campaign_facts.proofs.kinds.is_named.Goals as goal

pub returns : goal.returns
returns c =
    rw (c.either.ensures, c.others_name-by_other.ensures, c.rules_name-by_rule.ensures)
    (said_by_parts (names c.args.channel c.args.first c.args.last) _ _ c.args.script.now c.others.ensures c.rules.ensures)
