use Rattle.std.proofs.Common.{◌≡◌, ℕ, [], ◌∷◌, None, ap, ◌∙◌}
use Rattle.guards_model.specs.Channels.{ChannelSet, by_channel, numbers_below}
use Rattle.guards_model.specs.Missions.{RulesValue}
use Rattle.guards_model.specs.Controls.{ControlValue, first_control}
use Rattle.control_state.proofs.control.Control.first.Goals as goal

first_view : (rules : RulesValue) (channels : ℕ) (active fresh : ChannelSet) (zero_count : ℕ) →
    active ≡ numbers_below channels → channels ≡ rules.channels → fresh ≡ [] → zero_count ≡ 0 →
    record {
      active = active;
      fresh = fresh;
      counts = zero_count ∷ zero_count ∷ zero_count ∷ zero_count ∷ zero_count ∷ zero_count ∷ zero_count ∷ [];
      sweeping = None;
    } ≡ first_control rules
unfolding first_control by_channel
first_view rules channels active fresh zero_count a c f z =
    let seen : ChannelSet → ChannelSet → ℕ → ControlValue
    = λ s t k. record { active = s; fresh = t; counts = k ∷ k ∷ k ∷ k ∷ k ∷ k ∷ k ∷ []; sweeping = None } in
    ap (λ s. seen s fresh zero_count) (a ∙ ap numbers_below c)
    ∙ ap (λ t. seen (numbers_below rules.channels) t zero_count) f ∙ ap (seen (numbers_below rules.channels) []) z

pub returns : goal.returns
returns c =
    first_view c.args.rules.now c.rules.inside.channels c.below.result c.empty.result c.zero.result c.below.ensures
    (ap (λ (r : RulesValue). r.channels) c.rules.view_is) c.empty.ensures c.zero.ensures
