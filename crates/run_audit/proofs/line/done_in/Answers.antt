use Rattle.std.proofs.Common.{suc, ◌^◌, [], Some, refl, ap}
use Rattle.std.specs.Fmt.{decimal}
use Rattle.std.proofs.lemmas.Bool.{leb-true}
use Rattle.guards_audit.specs.Lines.{done_told}
use Rattle.guards_audit.proofs.ReadBack.{lacks-decimal}
use Rattle.run_audit.proofs.line.done_in.Goals as goal

pub returns-clause-read : goal.returns-clause-read
returns-clause-read c =
    λ s cycles form size e.
    let a = c.piece.ensures.cut (decimal cycles) [] (lacks-decimal 32 cycles refl) e in
    ap (λ n. Some (done_told n)) (c.number.ensures.read cycles (leb-true (suc cycles) (2 ^ 32) form) a.0)
