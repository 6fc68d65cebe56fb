use Rattle.std.proofs.Common.{◌<◌, ◌∙◌, ap, length, arith, ◌∷◌}
use Rattle.guards_model.specs.Tags.{tags_of}
use Rattle.guards_model.proofs.TagSteps.{stand_written}
use Rattle.dirty_tags.proofs.tags.Tags.wrote.Goals as goal
use Rattle.dirty_tags.proofs.MarkedLists.{seen_written, blocks_seen}

noted : goal.returns-clause-tags
noted c =
    let fits : c.args.block < length c.self.inside.written = omega arith in
    seen_written c.self.inside.blocks c.self.inside.cursor c.self.inside.remaining c.self.inside.written c.args.self.now
    c.self.view_is c.from.result c.args.block c.from.ensures fits

pub returns-clause-tags : goal.returns-clause-tags
returns-clause-tags c = noted c

pub returns-clause-cycles : goal.returns-clause-cycles
returns-clause-cycles c = λ cycles written stands.
    let same = blocks_seen c.self.inside.blocks c.self.inside.cursor c.self.inside.remaining c.self.inside.written
    c.args.self.now c.self.view_is in
    noted c ∙ stand_written c.args.self.now cycles written stands c.args.block
    ∙ ap (λ b. tags_of b cycles (c.args.block ∷ written)) same

pub returns-clause-blocks : goal.returns-clause-blocks
returns-clause-blocks c =
    omega (
      arith,
      blocks_seen c.self.inside.blocks c.self.inside.cursor c.self.inside.remaining c.self.inside.written
          c.args.self.now c.self.view_is,
    )
