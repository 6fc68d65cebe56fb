use Rattle.std.proofs.Common.{sym, subst}
use Rattle.std.specs.Str.{IsUtf8, IsCharBoundary}
use Rattle.std.proofs.lemmas.Str.{IsUtf8-drop}
use Rattle.run_audit.proofs.PieceLemmas.{cut_none, cut_some}
use Rattle.run_audit.proofs.pieces.piece.Goals as goal

pub returns-in-Some-clause-cut : goal.returns-in-Some-clause-cut
returns-in-Some-clause-cut c =
    λ first rest k e. cut_some c.args.letter c.args.text.now c.in-Some.cut c.in-Some.ensures.cases c.requires first rest
    k e

pub returns-in-Some-clause-text : goal.returns-in-Some-clause-text
returns-in-Some-clause-text c =
    let h = c.in-Some.ensures.cases in
    let at = h.2.1 in
    let boundary : IsCharBoundary c.args.text.now h.1 = subst (IsCharBoundary c.args.text.now) (sym at.ends) at.after in
    subst IsUtf8 (sym h.4) (IsUtf8-drop c.args.text.now h.1 c.utf8.text boundary)

pub returns-in-None-clause-cut : goal.returns-in-None-clause-cut
returns-in-None-clause-cut c =
    λ first rest k e. cut_none c.args.letter c.args.text.now c.in-None.ensures.cases c.requires first rest k e
