use Rattle.std.proofs.lemmas.Result.{on_ok_weaker, on_err_weaker}
use Rattle.slot_traffic.specs.Receiving.{receiver_numbers}
use Rattle.world_traffic.proofs.Growing.{frame_sends, frame_sends_some}
use Rattle.world_traffic.proofs.sending.send_frame.Goals as goal

pub returns-in-Some-clause-sent : goal.returns-in-Some-clause-sent
returns-in-Some-clause-sent g c =
    rw (c.in-Some.is) (on_ok_weaker c.send.result
    (frame_sends g.B.Bus.may (g.B.Bus.seen c.args.bus.now).script (g.B.Bus.seen c.args.bus.now).log
    (g.B.Bus.seen c.send.new.bus).log c.in-Some.frame
    (receiver_numbers c.args.to) c.args.traffic.now c.send.new.self) c.send.ensures.sent)

pub returns-in-Some-clause-some : goal.returns-in-Some-clause-some
returns-in-Some-clause-some g c =
    rw (c.in-Some.is) (on_err_weaker c.send.result
    (frame_sends_some g.B.Bus.may (g.B.Bus.seen c.args.bus.now).script (g.B.Bus.seen c.args.bus.now).log
    (g.B.Bus.seen c.send.new.bus).log c.in-Some.frame
    (receiver_numbers c.args.to) c.args.traffic.now c.send.new.self) c.send.ensures.some)
