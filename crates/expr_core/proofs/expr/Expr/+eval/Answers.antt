use Rattle.std.proofs.Common.{rules, ◌≡◌, ◌∙◌, sym, ap, w64, slice_index_or, pos, to_z, of_z}
use Rattle.guards_model.specs.Expressions.{value_of}
use Rattle.expr_core.specs.Tree.{tree}
use Rattle.expr_core.proofs.Trees.{tree_input, tree_word}
use Rattle.expr_core.proofs.Words.{word_is, word_in_block}
use Rattle.expr_core.proofs.expr.Expr.+eval.Goals as goal

pub returns-in-Input : goal.returns-in-Input
returns-in-Input g t c =
    let word = slice_index_or c.args.inputs.now c.in-Input.place (pos 0) in
    let stays : to_z w64 (of_z w64 word) ≡ word = search rules in
    stays ∙ word_is c.args.inputs.now c.in-Input.place
    ∙ sym (ap (λ e. value_of e c.args.ctx.now c.args.inputs.now c.args.cycle)
    (ap tree c.in-Input.is ∙ tree_input c.in-Input.place))

pub returns-in-Word : goal.returns-in-Word
returns-in-Word g t c =
    let word = slice_index_or c.get.result.words c.in-Word.word (pos 0) in
    let stays : to_z w64 (of_z w64 word) ≡ word = search rules in
    stays ∙ word_in_block c.args.ctx.now c.in-Word.block c.in-Word.word c.get.result.words c.get.ensures
    ∙ sym (ap (λ e. value_of e c.args.ctx.now c.args.inputs.now c.args.cycle)
    (ap tree c.in-Word.is ∙ tree_word c.in-Word.block c.in-Word.word))
