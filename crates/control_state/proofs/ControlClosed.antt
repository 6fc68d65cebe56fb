-- The parts of a closed cycle make the control and the answer of the definition.
use Rattle.std.proofs.Common.{◌≡◌, ℕ, List, length, Option, ap, ◌∙◌}
use Rattle.std.specs.Prelude.{option_map}
use Rattle.guards_model.specs.Channels.{ChannelSet, union, without}
use Rattle.guards_model.specs.Diagnosis.{counts_carried}
use Rattle.guards_model.specs.Controls.{SweepingValue, ControlValue, ClosedValue, sweeping_after, joined_by, goes_on, start_if_joined, rest_if_joined, control_closed, closed_by}

module _ (last : ℕ) (act fr : ChannelSet) (al : List ℕ) (tr : Option SweepingValue) (removed : ChannelSet)
    (plan written : List ℕ) where
  abbrev pub k1 : ControlValue
  k1 = record { active = act; fresh = fr; counts = al; sweeping = tr }

  abbrev pub c1 : ClosedValue
  c1 = closed_by last plan written k1

  -- the transfer after the cycle, and who joined
  pub record AreClosed (swept : Option SweepingValue) (joined : ChannelSet) : Type 0 where
    pub swept_is : swept ≡ sweeping_after plan written tr
    pub joined_is : joined ≡ joined_by last (sweeping_after plan written tr)

  pub are_closed : (swept : Option SweepingValue) (joined : ChannelSet) (n : ℕ) →
      swept ≡ sweeping_after plan written tr → n ≡ last → joined ≡ joined_by n swept → AreClosed swept joined
  are_closed swept joined n s l e =
      record { swept_is = s; joined_is = e ∙ ap (λ m. joined_by m swept) l ∙ ap (joined_by last) s }

  module _ (swept : Option SweepingValue) (joined : ChannelSet) (known : AreClosed swept joined) where
    pub joined1 : joined ≡ c1.joined
    unfolding closed_by
    joined1 = known.joined_is

    pub start1 : (s : ℕ) → s ≡ start_if_joined joined swept → s ≡ c1.start
    unfolding closed_by
    start1 s e = e ∙ ap (start_if_joined joined) known.swept_is
        ∙ ap (λ (j : ChannelSet). start_if_joined j (sweeping_after plan written tr)) known.joined_is

    pub remaining1 : (r : Option ℕ) → r ≡ option_map (λ (s : SweepingValue). length s.tags.remaining) swept →
        r ≡ c1.remaining
    unfolding closed_by
    remaining1 r e = e ∙ ap (option_map (λ (s : SweepingValue). length s.tags.remaining)) known.swept_is

    pub rest1 : (r : List ℕ) → r ≡ rest_if_joined joined swept → r ≡ c1.rest
    unfolding closed_by
    rest1 r e = e ∙ ap (rest_if_joined joined) known.swept_is
        ∙ ap (λ (j : ChannelSet). rest_if_joined j (sweeping_after plan written tr)) known.joined_is

    pub swept1 : (taken new : Option SweepingValue) → taken ≡ swept → new ≡ goes_on joined taken →
        new ≡ goes_on joined (sweeping_after plan written tr)
    swept1 taken new t e = e ∙ ap (goes_on joined) (t ∙ known.swept_is)

    pub control1 : (left active : ChannelSet) (counts : List ℕ) (taken new : Option SweepingValue) →
        left ≡ without act removed → active ≡ union left joined → counts ≡ counts_carried active joined al →
        taken ≡ swept → new ≡ goes_on joined taken →
        record { active = active; fresh = joined; counts = counts; sweeping = new }
        ≡ control_closed last removed plan written k1
    unfolding control_closed
    control1 left active counts taken new l a n t e =
        let made : ChannelSet → ChannelSet → List ℕ → Option SweepingValue →
        ControlValue = λ s j x y. record { active = s; fresh = j; counts = x; sweeping = y } in
        let S : Option SweepingValue = sweeping_after plan written tr in
        let whole : active ≡ union (without act removed) joined = a ∙ ap (λ (s : ChannelSet). union s joined) l in
        ap (made active joined counts) (swept1 taken new t e)
        ∙ ap (λ (x : List ℕ). made active joined x (goes_on joined S)) n
        ∙ ap (λ (s : ChannelSet). made s joined (counts_carried s joined al) (goes_on joined S)) whole
        ∙ ap (λ (j : ChannelSet).
        made (union (without act removed) j) j (counts_carried (union (without act removed) j) j al) (goes_on j S))
        known.joined_is
