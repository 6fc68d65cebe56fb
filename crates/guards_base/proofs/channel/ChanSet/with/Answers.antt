use Rattle.std.proofs.Common.{sym, ap, subst, ◌∙◌, ◌<◌, [], ◌∷◌}
use Rattle.guards_model.specs.Channels.{set_of_mask, union}
use Rattle.guards_base.specs.Masks.{mask_with-below, set_of_mask-with}
use Rattle.guards_base.proofs.channel.ChanSet.with.Goals as goal

pub invariant_of-result : goal.invariant_of-result
invariant_of-result c =
    subst (λ bits. bits < 128) (sym c.with_bit.ensures)
    (mask_with-below c.self.inside.bits c.c.inside.number c.self.invariant c.c.invariant)

pub returns : goal.returns
returns c =
    ap set_of_mask c.with_bit.ensures
    ∙ set_of_mask-with c.self.inside.bits c.c.inside.number c.self.invariant c.c.invariant
    ∙ ap (λ set. union set (c.c.inside.number ∷ [])) c.self.view_is ∙ ap (λ q. union c.args.self (q ∷ [])) c.c.view_is
