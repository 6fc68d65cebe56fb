use Rattle.std.proofs.Common.{◌∙◌}
use Rattle.slot_traffic.specs.Receiving.{receiver_numbers}
use Rattle.slot_traffic.proofs.PieceCarriedLemmas.{frame_sent, few_sent}
use Rattle.slot_traffic.proofs.traffic.carried.Goals as goal

pub returns-clause-some : goal.returns-clause-some
returns-clause-some g c =
    few_sent g.B.Bus.may (g.B.Bus.seen c.args.bus.now).script (g.B.Bus.seen c.args.bus.now).log
    (g.B.Bus.seen c.carry_to_each.new.bus).log c.args.cycle c.args.slot
    c.sender_of-sender.result c.as_slice.result.now (receiver_numbers c.args.receivers) c.as_slice-2.result.now
    c.carry_to_each.new.pieces.items c.args.frame.now
    c.sender_of-sender.ensures (c.as_slice.ensures.value ∙ c.in_ok-numbers.ensures)
    (c.as_slice-2.ensures ∙ c.in_ok-sent.ensures) c.in-Err.ensures.some

pub returns-in-Ok-clause-sent : goal.returns-in-Ok-clause-sent
returns-in-Ok-clause-sent g c =
    frame_sent g.B.Bus.may (g.B.Bus.seen c.args.bus.now).script (g.B.Bus.seen c.args.bus.now).log
    (g.B.Bus.seen c.carry_to_each.new.bus).log c.args.cycle c.args.slot
    c.sender_of-sender.result c.as_slice.result.now (receiver_numbers c.args.receivers) c.as_slice-2.result.now
    c.carry_to_each.new.pieces.items c.args.frame.now
    c.sender_of-sender.ensures (c.as_slice.ensures.value ∙ c.in_ok-numbers.ensures)
    (c.as_slice-2.ensures ∙ c.in_ok-sent.ensures) c.in-Ok.ensures.carried
