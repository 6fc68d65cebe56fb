use Rattle.std.proofs.Common.{not, [], Some, refl, length, ap, arith}
use Rattle.std.specs.List.{list_all}
use Rattle.std.proofs.lemmas.Bool.{eqb-true}
use Rattle.guards_model.specs.Texts.{words_text}
use Rattle.guards_model.specs.Words.{is_word}
use Rattle.guards_model.proofs.BoolTests.{both}
use Rattle.guards_audit.specs.Lines.{is_empty, out_told}
use Rattle.guards_audit.proofs.ReadBack.{plain_lacks_all, plain-words}
use Rattle.run_audit.proofs.PieceLemmas.{some_taken}
use Rattle.run_audit.proofs.line.out_in.Goals as goal

pub returns-clause-read : goal.returns-clause-read
returns-clause-read c =
    λ ws form size e.
    let a = c.piece.ensures.cut (words_text ws) [] (plain_lacks_all 32 (words_text ws) refl (plain-words ws)) e in
    let formed = both (not (is_empty ws)) (list_all is_word ws) form in
    ap (λ words. Some (out_told words))
    (c.words.ensures.read ws formed.1 (eqb-true (length ws) c.args.sizes.outputs size) a.0)

pub returns-clause-formed : goal.returns-clause-formed
returns-clause-formed c =
    some_taken is_word c.words.result c.args.sizes.outputs c.words.ensures.formed (omega arith)
    (omega (arith, c.words.ensures.whole))
