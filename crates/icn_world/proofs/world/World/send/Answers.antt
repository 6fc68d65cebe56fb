use Rattle.std.proofs.Common.{rules, arith}
use Rattle.slot_traffic.specs.Receiving.{receiver_numbers}
use Rattle.icn_world.proofs.SlotSent.{may_send_by, entries_few, sent_ok, sent_err}
use Rattle.icn_world.proofs.world.World.send.Goals.{in-Ok, in-Err}
use Rattle.icn_world.proofs.world.World.send.Goals as goal

pub send_slot-sent-requires : goal.send_slot-sent-requires
send_slot-sent-requires g c =
    let ready = may_send_by c.args.self.now _ c.args.slot (receiver_numbers c.args.to) c.begin-traffic.result
    c.self.view_is c.begin-traffic.ensures c.requires in
    search (rules, ready)

pub len-requires : goal.len-requires
len-requires g c =
    let few = entries_few g.B.Bus.may (g.B.Bus.seen c.args.bus.now).script
    (g.B.Bus.seen c.send_slot-sent.new.bus).script (g.B.Bus.seen c.args.bus.now).log
    (g.B.Bus.seen c.send_slot-sent.new.bus).log
    c.args.slot (receiver_numbers c.args.to) c.args.self.now _ c.begin-traffic.result c.send_slot-sent.new.traffic
    c.begin-traffic.ensures c.self.view_is c.requires
    c.send_slot-sent.result c.send_slot-sent.ensures.sent c.send_slot-sent.ensures.some in
    omega (arith, few.0)

pub overflow_add-self : goal.overflow_add-self
overflow_add-self g c =
    let few = entries_few g.B.Bus.may (g.B.Bus.seen c.args.bus.now).script
    (g.B.Bus.seen c.send_slot-sent.new.bus).script (g.B.Bus.seen c.args.bus.now).log
    (g.B.Bus.seen c.send_slot-sent.new.bus).log
    c.args.slot (receiver_numbers c.args.to) c.args.self.now _ c.begin-traffic.result c.send_slot-sent.new.traffic
    c.begin-traffic.ensures c.self.view_is c.requires
    c.send_slot-sent.result c.send_slot-sent.ensures.sent c.send_slot-sent.ensures.some in
    omega (arith, few.0, few.1, c.len.ensures)

pub returns : goal.returns
returns g c =
    elim c.match-sent.branch [
      | in-Ok w ↦ sent_ok g.B.Bus.may (g.B.Bus.seen c.args.bus.now).script
          (g.B.Bus.seen c.send_slot-sent.new.bus).script (g.B.Bus.seen c.args.bus.now).log
          (g.B.Bus.seen c.send_slot-sent.new.bus).log
          c.args.slot (receiver_numbers c.args.to) c.args.self.now _ c.begin-traffic.result c.send_slot-sent.new.traffic
          c.begin-traffic.ensures c.self.view_is c.requires
          c.len.result c.match-sent.result c.len.ensures w.result-is c.send_slot-sent.ensures.script
          w.in-Ok.ensures.sent
      | in-Err w ↦ sent_err g.B.Bus.may (g.B.Bus.seen c.args.bus.now).script
          (g.B.Bus.seen c.send_slot-sent.new.bus).script (g.B.Bus.seen c.args.bus.now).log
          (g.B.Bus.seen c.send_slot-sent.new.bus).log
          c.args.slot (receiver_numbers c.args.to) c.args.self.now _ c.begin-traffic.result c.send_slot-sent.new.traffic
          c.begin-traffic.ensures c.self.view_is c.requires
          c.len.result c.match-sent.result _ c.len.ensures w.result-is c.send_slot-sent.ensures.script
          w.in-Err.ensures.some
    ]
