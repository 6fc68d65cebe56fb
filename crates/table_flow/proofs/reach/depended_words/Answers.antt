use Rattle.std.proofs.Common.{◌≡◌, ◌*◌, ◌∙◌, ap, arith}
use Rattle.table_flow.specs.Flow.{assignments, depends_within}
use Rattle.table_flow.proofs.Whole.{one_further}
use Rattle.table_flow.proofs.reach.depended_words.Goals as goal

pub loop-step-init : goal.loop-step-init
loop-step-init c = record { within = omega arith; reached = c.output_words-words.ensures }

pub loop-step-preserved : goal.loop-step-preserved
loop-step-preserved c =
    let list = assignments c.args.table.now.rows in
    let n = c.loop-step.step in
    record {
      within = omega (arith, c.loop-step-test.true);
      reached = λ w low.
          c.fed_words-words.ensures (depends_within list c.args.outputs.now n) c.loop-step.invariant.reached w low
          ∙ one_further list c.args.outputs.now n w;
    }

pub returns : goal.returns
returns c = λ w low.
    let end : c.loop-step.step ≡ c.args.blocks * 8 =
    omega (arith, c.loop-step-test.false, c.loop-step.invariant.within) in
    c.loop-step.invariant.reached w low
    ∙ ap (λ n. depends_within (assignments c.args.table.now.rows) c.args.outputs.now n w) end
