use Rattle.std.proofs.Common.{◌≡◌, ◌-◌, ◌+◌, suc, ap, sym, ◌∙◌, arith}
use Rattle.guards_model.specs.Expressions.{negative}
use Rattle.expr_core.specs.Tree.{tree}
use Rattle.expr_text.specs.Reading.{negated}
use Rattle.expr_core.proofs.Trees.{tree_neg}
use Rattle.expr_text.proofs.build.negated.Goals as goal

pub loop-preserved : goal.loop-preserved
loop-preserved c =
    let left = c.args.minuses - (c.loop.counter + 1) in
    let one_less : c.args.minuses - c.loop.counter ≡ suc left = omega arith in
    ap (negated left) (tree_neg c.in_ok-new.field-0 ∙ ap (λ e. negative (tree e)) c.in_ok-new.ensures)
    ∙ sym (ap (λ n. negated n (tree c.loop.expr)) one_less)
    ∙ c.loop.invariant
