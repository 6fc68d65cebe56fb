use Rattle.std.proofs.Common.{sym, ap, subst, ◌∙◌, ◌<◌}
use Rattle.guards_model.specs.Channels.{set_of_mask}
use Rattle.guards_base.specs.Masks.{mask_below-below, set_of_mask-below}
use Rattle.guards_base.proofs.channel.ChanSet.below.Goals as goal

pub invariant_of-result : goal.invariant_of-result
invariant_of-result c = subst (λ bits. bits < 128) (sym c.bits_below.ensures) (mask_below-below c.args.count c.requires)

pub returns : goal.returns
returns c = ap set_of_mask c.bits_below.ensures ∙ set_of_mask-below c.args.count c.requires
