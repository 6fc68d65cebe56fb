use Rattle.std.proofs.Common.{◌*◌, length, nat_lt, ap, ◌∙◌}
use Rattle.icn_bus.proofs.Switches.{kept_by}
use Rattle.icn_bus.proofs.switchboard.stays.Goals as goal

pub returns : goal.returns
returns c =
    ap (λ n. nat_lt n (2 * c.count-2.result)) c.count.ensures.value
    ∙ ap (λ n. nat_lt (length c.args.on) (2 * n)) c.count-2.ensures.value
    ∙ kept_by c.args.on c.args.frames.now c.args.channel c.senders.result c.senders.ensures
