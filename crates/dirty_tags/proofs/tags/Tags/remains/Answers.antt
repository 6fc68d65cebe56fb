use Rattle.std.proofs.Common.{◌≡◌, ◌<◌, ◌∙◌, ap, arith}
use Rattle.guards_model.proofs.TagSteps.{stand_at}
use Rattle.dirty_tags.specs.Marks.{is_marked}
use Rattle.dirty_tags.proofs.tags.Tags.remains.Goals as goal
use Rattle.dirty_tags.proofs.MarkedLists.{remains_seen, blocks_seen}

told : goal.returns-clause-tags
told c =
    let same : c.args.self.now.blocks ≡ c.self.inside.blocks =
    blocks_seen c.self.inside.blocks c.self.inside.cursor c.self.inside.remaining c.self.inside.written
    c.args.self.now c.self.view_is in
    let low : c.args.block < c.self.inside.blocks = omega (arith, c.requires, same) in
    ap (is_marked c.self.inside.remaining) c.from.ensures
    ∙ remains_seen c.self.inside.blocks c.self.inside.cursor c.self.inside.remaining c.self.inside.written
    c.args.self.now c.self.view_is c.args.block low

pub returns-clause-tags : goal.returns-clause-tags
returns-clause-tags c = told c

pub returns-clause-cycles : goal.returns-clause-cycles
returns-clause-cycles c =
    λ cycles written stands. told c ∙ stand_at c.args.self.now cycles written stands c.args.block c.requires
