use Rattle.std.proofs.Common.{ap, ◌∙◌, [], ◌∷◌}
use Rattle.guards_model.specs.Channels.{set_of_mask, without}
use Rattle.guards_base.specs.Masks.{set_of_mask-without}
use Rattle.guards_base.proofs.channel.ChanSet.without.Goals as goal

pub returns : goal.returns
returns c =
    ap set_of_mask c.without_bit.ensures
    ∙ set_of_mask-without c.self.inside.bits c.c.inside.number c.self.invariant c.c.invariant
    ∙ ap (λ set. without set (c.c.inside.number ∷ [])) c.self.view_is
    ∙ ap (λ q. without c.args.self (q ∷ [])) c.c.view_is
