use Rattle.std.proofs.Common.{◌&&◌}
use Rattle.campaign_facts.specs.Facts.{is_kind, names}
use Rattle.campaign_facts.proofs.Parts.{said_by_parts}
use Rattle.campaign_facts.proofs.kinds.is_named_by.Goals as goal

pub returns : goal.returns
returns c =
    rw (c.either.ensures, c.others_name_by-by_other.ensures, c.rules_name_by-by_rule.ensures)
    (said_by_parts (λ entry. is_kind c.args.kind entry && names c.args.channel c.args.first c.args.last entry) _ _ c.args.script.now c.others.ensures c.rules.ensures)
