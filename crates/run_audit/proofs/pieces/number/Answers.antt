use Rattle.std.proofs.Common.{◌∙◌, arith}
use Rattle.run_audit.proofs.PieceLemmas.{number_read}
use Rattle.run_audit.proofs.pieces.number.Goals as goal

pub returns-clause-read : goal.returns-clause-read
returns-clause-read c = λ n h e. c.unwrap_or.ensures
    ∙ number_read 32 n c.args.text.now c.parse.result 0 h (omega arith) e c.parse.ensures.value.0
