use Rattle.std.proofs.Common.{◌∙◌, arith}
use Rattle.run_audit.proofs.PieceLemmas.{number_read}
use Rattle.run_audit.proofs.pieces.small_number.Goals as goal

pub returns : goal.returns
returns c = λ n h e. c.unwrap_or.ensures
    ∙ number_read 8 n c.args.text.now c.parse.result 0 h (omega arith) e c.parse.ensures.value.0
