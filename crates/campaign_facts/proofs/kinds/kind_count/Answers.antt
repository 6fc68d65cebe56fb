use Rattle.std.proofs.Common.{◌&&◌}
use Rattle.std.specs.Prelude.{nat_lt}
use Rattle.campaign_facts.specs.Facts.{fault_cycle, is_kind}
use Rattle.campaign_facts.proofs.Parts.{counted_by_parts}
use Rattle.campaign_facts.proofs.kinds.kind_count.Goals as goal

pub returns : goal.returns
returns c =
    rw (c.others_count-others.ensures, c.rules_count-rules.ensures)
    (counted_by_parts (λ entry. is_kind c.args.kind entry && nat_lt (fault_cycle entry) c.args.cycles) _ _ c.args.script.now c.others.ensures c.rules.ensures)
