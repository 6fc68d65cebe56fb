use Rattle.std.proofs.Common.{Option, subst}
use Rattle.std.specs.Prelude.{OnOk, OnErr}
use Rattle.guards_model.specs.Frames.{FrameValue}
use Rattle.slot_traffic.specs.Receiving.{receiver_numbers}
use Rattle.guards_world.specs.SlotSends.{SendsSlot, SendsFirstOfSlot, sends_by}
use Rattle.world_traffic.proofs.NodeSends.{frame_owed, owed_fits}
use Rattle.world_traffic.proofs.sending.send_owed.Goals as goal

pub send_frame-requires : goal.send_frame-requires
send_frame-requires g c =
    let held = c.requires in
    let node = c.args.node.now in
    owed_fits c.args.mission.now c.args.traffic.now.cycle c.args.traffic.now.slot (held.0 node.channel) node
    c.args.target c.cycle.result c.slot.result c.in_ok-frame.frame
    held.2.fits c.cycle.ensures c.slot.ensures (c.in_ok-frame.ensures (held.0 node.channel) held.1.stands)

pub returns-clause-sent : goal.returns-clause-sent
returns-clause-sent g c = λ received stands.
    let node = c.args.node.now in
    let before = c.args.traffic.now in
    subst (λ (frame : Option FrameValue).
    OnOk c.send_frame.result (SendsSlot g.B.Bus.may (g.B.Bus.seen c.args.bus.now).script
    (g.B.Bus.seen c.args.bus.now).log (g.B.Bus.seen c.send_frame.new.bus).log
    (sends_by before.cycle before.slot (receiver_numbers c.args.to) frame) before c.send_frame.new.traffic))
    (frame_owed c.args.mission.now before.cycle before.slot (received node.channel) node c.args.target c.cycle.result
    c.slot.result c.in_ok-frame.frame c.cycle.ensures c.slot.ensures
    (c.in_ok-frame.ensures (received node.channel) stands.stands))
    c.send_frame.ensures.sent

pub returns-clause-some : goal.returns-clause-some
returns-clause-some g c = λ received stands.
    let node = c.args.node.now in
    let before = c.args.traffic.now in
    subst (λ (frame : Option FrameValue).
    OnErr c.send_frame.result (SendsFirstOfSlot g.B.Bus.may (g.B.Bus.seen c.args.bus.now).script
    (g.B.Bus.seen c.args.bus.now).log (g.B.Bus.seen c.send_frame.new.bus).log
    (sends_by before.cycle before.slot (receiver_numbers c.args.to) frame) before c.send_frame.new.traffic))
    (frame_owed c.args.mission.now before.cycle before.slot (received node.channel) node c.args.target c.cycle.result
    c.slot.result c.in_ok-frame.frame c.cycle.ensures c.slot.ensures
    (c.in_ok-frame.ensures (received node.channel) stands.stands))
    c.send_frame.ensures.some
