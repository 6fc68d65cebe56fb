use Rattle.std.proofs.Common.{◌≤◌, ◌∙◌, ap, length, take, arith}
use Rattle.std.specs.Prelude.{count_by}
use Rattle.guards_model.proofs.TagSteps.{stand_remain}
use Rattle.dirty_tags.proofs.tags.Tags.remaining.Goals as goal
use Rattle.dirty_tags.proofs.MarkedLists.{count_seen}

counted : goal.returns-clause-tags
counted c =
    let fits : c.self.inside.blocks ≤ length c.self.inside.remaining = omega arith in
    c.count.ensures.value
    ∙ ap (λ n. count_by (λ m. m) (take n c.self.inside.remaining)) c.from.ensures
    ∙ count_seen c.self.inside.blocks c.self.inside.cursor c.self.inside.remaining c.self.inside.written c.args.self.now
    c.self.view_is fits

pub returns-clause-tags : goal.returns-clause-tags
returns-clause-tags c = counted c

pub returns-clause-cycles : goal.returns-clause-cycles
returns-clause-cycles c =
    λ cycles written stands. counted c ∙ ap length (stand_remain c.args.self.now cycles written stands)
