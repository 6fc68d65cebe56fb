use Rattle.std.proofs.Common.{rules, ◌∷◌, ◌++◌, sym, ◌∙◌}
use Rattle.guards_audit.specs.Lines.{lines_in}
use Rattle.run_audit.proofs.Splitting.{parts_back, cut_here, goes_on, at_end}
use Rattle.run_audit.proofs.recorded.split_run.Goals as goal

pub returns-then-is_mark-clause-mission : goal.returns-then-is_mark-clause-mission
returns-then-is_mark-clause-mission c =
    (cut_here c.args.input.now c.loop-line.rest.now c.split_at.result.0.now c.split_at.result.1.now
    c.loop-line.invariant
    (c.line_len.ensures.cut ∙ (λ i. sym c.split_at.ensures.front i ∷ lines_in (sym c.split_at.ensures.back i)))
    (sym c.is_mark.ensures ∙ c.if-is_mark.true)).0

pub returns-then-is_mark-clause-trace : goal.returns-then-is_mark-clause-trace
returns-then-is_mark-clause-trace c =
    (cut_here c.args.input.now c.loop-line.rest.now c.split_at.result.0.now c.split_at.result.1.now
    c.loop-line.invariant
    (c.line_len.ensures.cut ∙ (λ i. sym c.split_at.ensures.front i ∷ lines_in (sym c.split_at.ensures.back i)))
    (sym c.is_mark.ensures ∙ c.if-is_mark.true)).1

pub loop-line-preserved : goal.loop-line-preserved
loop-line-preserved c =
    goes_on c.args.input.now c.loop-line.rest.now c.split_at.result.0.now c.split_at.result.1.now c.loop-line.invariant
    (parts_back c.line_len.result c.loop-line.rest.now
    ∙ (λ i. sym c.split_at.ensures.front i ++ sym c.split_at.ensures.back i))
    (c.line_len.ensures.cut ∙ (λ i. sym c.split_at.ensures.front i ∷ lines_in (sym c.split_at.ensures.back i)))
    (sym c.is_mark.ensures ∙ c.if-is_mark.false)

pub returns-clause-mission : goal.returns-clause-mission
returns-clause-mission c = (at_end c.args.input.now c.loop-line.rest.now c.loop-line.invariant (search rules)).0

pub returns-clause-trace : goal.returns-clause-trace
returns-clause-trace c = (at_end c.args.input.now c.loop-line.rest.now c.loop-line.invariant (search rules)).1
