use Rattle.std.proofs.Common.{sym, ap, ◌∙◌, length}
use Rattle.guards_base.specs.Masks.{length-set_of_mask}
use Rattle.guards_base.proofs.channel.ChanSet.count.Goals as goal

pub returns-clause-value : goal.returns-clause-value
returns-clause-value c = sym (length-set_of_mask c.self.inside.bits c.self.invariant) ∙ ap length c.self.view_is
