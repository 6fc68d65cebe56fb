use Rattle.std.proofs.Common.{◌≡◌, ℕ, List, None, ap, ◌∙◌}
use Rattle.guards_model.specs.declared.Law.{Law}
use Rattle.guards_model.specs.Channels.{ChannelSet}
use Rattle.guards_model.specs.Frames.{ControlWordValue}
use Rattle.guards_model.specs.Controls.{ControlValue, control_of_word}
use Rattle.control_state.proofs.control.Control.from_word.Goals as goal

control_view : (w : ControlWordValue) (law : Law) (active fresh : ChannelSet) (counts units : List ℕ) → counts ≡ units →
    record { law = law; active = active; fresh = fresh; counts = units } ≡ w →
    record { active = active; fresh = fresh; counts = counts; sweeping = None } ≡ control_of_word w
unfolding control_of_word
control_view w law active fresh counts units e seen =
    let made : List ℕ → ControlValue = λ x. record { active = active; fresh = fresh; counts = x; sweeping = None } in
    ap made e ∙ ap control_of_word seen

pub returns : goal.returns
returns c = control_view c.args.word.now c.word.inside.law c.word.inside.active c.word.inside.fresh c.alphas_of.result
    c.word.inside.alphas c.alphas_of.ensures c.word.view_is
