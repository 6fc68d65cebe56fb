use Rattle.std.proofs.Common.{◌∙◌, arith}
use Rattle.run_audit.proofs.PieceLemmas.{number_read}
use Rattle.run_audit.proofs.pieces.block_count.Goals as goal

pub returns : goal.returns
returns c = λ n h e. c.unwrap_or.ensures
    ∙ number_read 16 n c.args.text.now c.parse.result 0 h (omega arith) e c.parse.ensures.value.0
