use Rattle.run_audit.proofs.PieceLemmas.{taken_again}
use Rattle.run_audit.proofs.pieces.inputs.Goals as goal

pub returns-clause-read : goal.returns-clause-read
returns-clause-read c = λ ws h long e.
    taken_again c.copy_from_slice.new.self c.words.result ws c.args.width 4 c.requires c.copy_from_slice.ensures.after
    (c.words.ensures.read ws h long e)
