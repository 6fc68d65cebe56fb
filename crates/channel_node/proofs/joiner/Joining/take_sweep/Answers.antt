use Rattle.std.proofs.Common.{◌≡◌, ◌∙◌, ap, length, refl, rules}
use Rattle.channel_node.proofs.Lengths.{length-swept}
use Rattle.channel_node.proofs.joiner.Joining.take_sweep.Goals as goal

pub returns-clause-blocks : goal.returns-clause-blocks
returns-clause-blocks c =
    let blocks : length c.self.inside.replica.blocks ≡ length c.args.self.now.replica.blocks = search rules in
    ap (λ r. length r.blocks) c.take_sweep.ensures
    ∙ length-swept (length c.self.inside.replica.blocks) c.args.cycle c.args.frames.now.items
    (record { replica = c.self.inside.replica; taken = c.self.inside.taken }) refl
    ∙ blocks
