use Rattle.std.proofs.Common.{sym, ap, ◌∙◌}
use Rattle.guards_model.specs.Channels.{has}
use Rattle.guards_base.specs.Masks.{has-set_of_mask}
use Rattle.guards_base.proofs.channel.ChanSet.has.Goals as goal

pub returns : goal.returns
returns c =
    c.has_bit.ensures ∙ sym (has-set_of_mask c.self.inside.bits c.c.inside.number c.self.invariant c.c.invariant)
    ∙ ap (λ set. has set c.c.inside.number) c.self.view_is ∙ ap (λ q. has c.args.self.now q) c.c.view_is
