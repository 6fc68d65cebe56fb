use Rattle.dirty_tags.proofs.tags.Tags.all.Goals as goal
use Rattle.dirty_tags.proofs.MarkedLists.{seen_all}

pub returns-clause-tags : goal.returns-clause-tags
returns-clause-tags c = seen_all c.args.blocks c.filled.result c.filled-2.result c.filled.ensures c.filled-2.ensures
    c.requires.most
