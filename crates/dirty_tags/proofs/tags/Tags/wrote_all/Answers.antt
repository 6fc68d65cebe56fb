use Rattle.std.proofs.Common.{ap, ◌∙◌, arith}
use Rattle.guards_model.specs.Tags.{tags_of}
use Rattle.guards_model.proofs.TagSteps.{stand_noted}
use Rattle.dirty_tags.proofs.tags.Tags.wrote_all.Goals as goal
use Rattle.dirty_tags.proofs.MarkedLists.{seen_noted, blocks_seen}

noted : goal.returns-clause-tags
noted c =
    seen_noted c.self.inside.blocks c.self.inside.cursor c.self.inside.remaining c.self.inside.written c.args.self.now
    c.self.view_is
    c.args.blocks.now c.mark_all.new.marks c.self.invariant.most c.mark_all.ensures

pub returns-clause-tags : goal.returns-clause-tags
returns-clause-tags c = noted c

pub returns-clause-cycles : goal.returns-clause-cycles
returns-clause-cycles c = λ cycles stands.
    let same = blocks_seen c.self.inside.blocks c.self.inside.cursor c.self.inside.remaining c.self.inside.written
    c.args.self.now c.self.view_is in
    noted c ∙ stand_noted c.args.self.now cycles c.args.blocks.now stands
    ∙ ap (λ b. tags_of b cycles c.args.blocks.now) same

pub returns-clause-blocks : goal.returns-clause-blocks
returns-clause-blocks c =
    omega (
      arith,
      blocks_seen c.self.inside.blocks c.self.inside.cursor c.self.inside.remaining c.self.inside.written
          c.args.self.now c.self.view_is,
    )
