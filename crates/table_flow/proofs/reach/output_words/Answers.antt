use Rattle.std.proofs.Common.{◌==◌, ◌||◌, ℕ, Bool, get_or, sym, ap, ◌∙◌}
use Rattle.std.proofs.lemmas.List.Folds.{list_any_more}
use Rattle.context_blocks.proofs.FlagSets.{no_flag}
use Rattle.table_flow.specs.Flow.{word_number}
use Rattle.table_flow.proofs.reach.output_words.Goals as goal

pub loop-place-init : goal.loop-place-init
loop-place-init c = λ w low. no_flag 2048 w

pub loop-place-preserved : goal.loop-place-preserved
loop-place-preserved c = λ w low.
    let outputs = c.args.outputs.now in
    let at = c.loop-place.place in
    let test : ℕ × ℕ → Bool = λ o. word_number o.0 o.1 == w in
    c.flag_output.ensures w low
    ∙ ap (λ f. f || test (get_or outputs at (0, 0))) (c.loop-place.invariant w low)
    ∙ sym (list_any_more test outputs at (0, 0) c.loop-place-test.true)
