use Rattle.std.proofs.Common.{sym, ◌∙◌}
use Rattle.run_audit.proofs.PieceLemmas.{dash_remaining}
use Rattle.run_audit.proofs.pieces.remaining.Goals as goal

pub returns-then-eq : goal.returns-then-eq
returns-then-eq c = λ n h e. dash_remaining c.args.text.now n (sym c.eq.ensures ∙ c.if-eq.true) h e
