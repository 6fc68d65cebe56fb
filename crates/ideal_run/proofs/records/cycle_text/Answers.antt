use Rattle.std.proofs.Common.{◌≡◌, ℕ, ℤ, ◌+◌, List, add-one, take, length, refl, ap, subst, ◌∙◌}
use Rattle.std.specs.Prelude.{IfOk, suc}
use Rattle.guards_model.specs.Missions.{RulesValue, output_words}
use Rattle.guards_runs.specs.IdealMachine.{ideal, ideal_inputs}
use Rattle.guards_runs.specs.IdealReport.{part, record_text, record_with}
use Rattle.ideal_run.proofs.IdealContexts.{ideal_length}
use Rattle.ideal_run.proofs.Sensing.{inputs_length, take_padded}
use Rattle.ideal_run.proofs.records.cycle_text.Goals as goal

pub output_words-ballot-requires : goal.output_words-ballot-requires
output_words-ballot-requires g c =
    ap length c.run_cycle-inputs.ensures.context ∙ ideal_length c.args.mission.now (c.args.cycle + 1)
    ∙ c.prove_sizes.ensures.initial

pub returns-clause-text : goal.returns-clause-text
unfolding part
returns-clause-text g c =
    let M = c.args.mission.now in
    let n = c.args.cycle in
    let channels = ap (λ (r : RulesValue). r.channels) (c.behind-mission.view_is ∙ c.rules.ensures) in
    let later : ideal M (n + 1) ≡ ideal M (suc n) = rw add-one refl in
    let inputs : take c.width-width.result c.run_cycle-inputs.result ≡ ideal_inputs M n =
    ap (λ k. take k c.run_cycle-inputs.result) c.width-width.ensures
    ∙ ap (take M.width) c.run_cycle-inputs.ensures.inputs
    ∙ take_padded (ideal_inputs M n) M.width (inputs_length M n) _ in
    let outputs = c.output_words-ballot.ensures ∙ ap (output_words M) (c.run_cycle-inputs.ensures.context ∙ later) in
    let text : ℕ → List ℤ → List ℤ → List ℕ = λ k ins outs. record_text (record_with k n ins outs) in
    subst (λ (t : List ℕ). IfOk c.record_text.result (λ text. text ≡ t))
    (ap (λ k. text k (take c.width-width.result c.run_cycle-inputs.result) c.output_words-ballot.result) channels
    ∙ ap (λ ins. text M.rules.channels ins c.output_words-ballot.result) inputs
    ∙ ap (text M.rules.channels (ideal_inputs M n)) outputs)
    c.record_text.ensures
