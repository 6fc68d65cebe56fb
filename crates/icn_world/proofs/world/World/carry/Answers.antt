use Rattle.std.proofs.Common.{ap, sym, ◌∙◌}
use Rattle.guards_model.specs.Ledgers.{disturbed_by, limit_reached}
use Rattle.guards_world.specs.Worlds.{WorldValue}
use Rattle.slot_traffic.specs.Receiving.{receiver_numbers}
use Rattle.icn_world.proofs.SlotSent.{charged_all, carry_breaks_off, carry_stops, carry_unread, carry_arrives}
use Rattle.icn_world.proofs.world.World.carry.Goals as goal

pub returns-in-Err : goal.returns-in-Err
returns-in-Err g c =
    carry_breaks_off g.B.Bus.may c.args.slot (receiver_numbers c.args.to) c.args.self.now c.send.new.self
    (g.B.Bus.seen c.args.bus.now) (g.B.Bus.seen c.send.new.bus) c.args.disturbance.now _ c.in-Err.ensures

pub returns-then-reached : goal.returns-then-reached
returns-then-reached g c =
    let after = c.charge_each.new.disturbance in
    carry_stops g.B.Bus.may c.args.slot (receiver_numbers c.args.to) c.args.self.now c.send.new.self
    (g.B.Bus.seen c.args.bus.now) (g.B.Bus.seen c.send.new.bus) c.args.disturbance.now after c.in-Ok.traffic
    c.in-Ok.ensures
    (λ entries is. charged_all c.args.slot c.args.self.now c.args.disturbance.now after c.charged.result
    c.every_channel.result c.in-Ok.traffic entries
    c.every_channel.ensures is c.charged.ensures c.charge_each.ensures.active c.charge_each.ensures.charged)
    c.self.inside.done c.set.result c.on.result (ap (λ (x : WorldValue). x.done) c.self.view_is)
    (c.set.ensures ∙ ap (λ (x : WorldValue). disturbed_by after.active after.charged x.ledger) c.self.view_is)
    (c.on.ensures ∙ ap (λ (x : WorldValue). x.switches) c.self.view_is)
    (ap (λ (x : WorldValue). limit_reached after.active after.charged x.ledger) (sym c.self.view_is)
    ∙ sym c.reached.ensures ∙ c.if-reached.true)

pub returns-in-Err-read : goal.returns-in-Err-read
returns-in-Err-read g c =
    let after = c.charge_each.new.disturbance in
    carry_unread g.B.Bus.may c.args.slot (receiver_numbers c.args.to) c.args.self.now c.send.new.self
    (g.B.Bus.seen c.args.bus.now) (g.B.Bus.seen c.send.new.bus) c.args.disturbance.now after c.in-Ok.traffic
    c.in-Ok.ensures
    (λ entries is. charged_all c.args.slot c.args.self.now c.args.disturbance.now after c.charged.result
    c.every_channel.result c.in-Ok.traffic entries
    c.every_channel.ensures is c.charged.ensures c.charge_each.ensures.active c.charge_each.ensures.charged)

pub returns-in-Ok-read : goal.returns-in-Ok-read
returns-in-Ok-read g c =
    let after = c.charge_each.new.disturbance in
    carry_arrives g.B.Bus.may c.args.slot (receiver_numbers c.args.to) c.args.self.now c.send.new.self
    (g.B.Bus.seen c.args.bus.now) (g.B.Bus.seen c.send.new.bus) c.args.disturbance.now after c.in-Ok.traffic
    c.in-Ok.ensures
    (λ entries is. charged_all c.args.slot c.args.self.now c.args.disturbance.now after c.charged.result
    c.every_channel.result c.in-Ok.traffic entries
    c.every_channel.ensures is c.charged.ensures c.charge_each.ensures.active c.charge_each.ensures.charged)
    c.of.result c.in-Ok-read.arrived c.format.result c.of.ensures c.in-Ok-read.ensures c.format.ensures
    (ap (λ (x : WorldValue). limit_reached after.active after.charged x.ledger) (sym c.self.view_is)
    ∙ sym c.reached.ensures ∙ c.if-reached.false)
