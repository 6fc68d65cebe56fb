use Rattle.std.proofs.Common.{sym, ◌∙◌}
use Rattle.icn_world.proofs.SlotSent.{charges_one}
use Rattle.icn_world.proofs.carrying.+charge_each.Goals as goal

pub returns-then-has-clause-charged : goal.returns-then-has-clause-charged
returns-then-has-clause-charged t c =
    charges_one c.args.disturbance.now.charged c.charge.new.self.charged c.charge_each.new.disturbance.charged
    c.args.senders c.in-Some.channel.now c.in-Some.rest.now
    c.args.channels.now c.in-Some.ensures.cases.0 (sym c.has.ensures ∙ c.if-has.true) c.charge.ensures.charged
    c.charge_each.ensures.charged
