use Rattle.std.proofs.Common.{arith}
use Rattle.icn_frames.proofs.Answered.{answers_spelled, answers_read}
use Rattle.icn_frames.proofs.decoding.decode.Goals as goal

pub returns-clause-spelled : goal.returns-clause-spelled
returns-clause-spelled c =
    answers_spelled c.args.bytes.now c.frame_if_any.result (λ i. omega (arith, c.type_inv.bytes i))
    c.frame_if_any.ensures

pub returns-clause-read : goal.returns-clause-read
returns-clause-read c = λ f spells. answers_read c.args.bytes.now c.frame_if_any.result f spells c.frame_if_any.ensures
