use Rattle.std.proofs.Common.{rules, tests, ◌∙◌, sym, ap, length}
use Rattle.context_blocks.proofs.FlagSets.{flags_counted}
use Rattle.std.proofs.lemmas.Iterator.{YieldsList-from_slice}
use Rattle.std.proofs.lemmas.Iterator.Consumers.{count_from_yields_List, YieldsList-from_filter}
use Rattle.context_blocks.proofs.block_set.BlockSet.count.Goals as goal

pub returns : goal.returns
returns c =
    count_from_yields_List _ c.count.result c.count.ensures.ran
    (YieldsList-from_filter _ (λ flag. flag) (YieldsList-from_slice c.self.inside.flags cc) c.filter.ensures.closure
    (λ x b q k. search (rules, tests)))
    ∙ sym (flags_counted c.self.inside.flags 256 c.self.told) ∙ ap length c.self.view_is
