use Rattle.std.proofs.Common.{◌≡◌, sym, ap, ◌∙◌}
use Rattle.guards_model.specs.Channels.{mask}
use Rattle.guards_model.proofs.Masks.{mask_back}
use Rattle.guards_base.proofs.channel.ChanSetPartialEq.eq.Goals as goal

pub returns : goal.returns
returns c =
    let a : mask c.args.self.now ≡ c.t1-1.inside.bits =
    ap mask (sym c.t1-1.view_is) ∙ mask_back c.t1-1.inside.bits c.t1-1.invariant in
    let b : mask c.args.other.now ≡ c.t2-1.inside.bits =
    ap mask (sym c.t2-1.view_is) ∙ mask_back c.t2-1.inside.bits c.t2-1.invariant in
    rw (a, b) c.eq.ensures
