use Rattle.std.proofs.Common.{◌≡◌, ℕ, List, Option, ap, ◌∙◌}
use Rattle.guards_model.specs.declared.Law.{Law}
use Rattle.guards_model.specs.Channels.{ChannelSet}
use Rattle.guards_model.specs.Missions.{RulesValue}
use Rattle.guards_model.specs.Frames.{ControlWordValue}
use Rattle.guards_model.specs.Controls.{SweepingValue, ControlValue, word_of_control}
use Rattle.control_state.proofs.control.Control.word.Goals as goal

word_view : (rules : RulesValue) (k : ControlValue) (law : Law) (active fresh : ChannelSet) (units counts : List ℕ)
    (sweeping : Option SweepingValue) →
    law ≡ rules.law → units ≡ counts →
    record { active = active; fresh = fresh; counts = counts; sweeping = sweeping } ≡ k →
    record { law = law; active = active; fresh = fresh; counts = units } ≡ word_of_control rules k
unfolding word_of_control
word_view rules k law active fresh units counts sweeping l u seen =
    let made : Law → List ℕ →
    ControlWordValue = λ x y. record { law = x; active = active; fresh = fresh; counts = y } in
    ap (λ x. made x units) l ∙ ap (made rules.law) u ∙ ap (word_of_control rules) seen

pub returns : goal.returns
returns c =
    word_view c.args.rules.now c.args.self.now c.rules.inside.law c.self.inside.active c.self.inside.fresh
    c.units_of.result c.self.inside.alphas c.self.inside.transfer
    (ap (λ (r : RulesValue). r.law) c.rules.view_is) c.units_of.ensures c.self.view_is
