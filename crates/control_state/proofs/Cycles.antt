-- The tags of a transfer through the end of a cycle.
use Rattle.std.proofs.Common.{◌≡◌, ℕ, List, [], ◌∷◌, Option, Some, ap, sym, ◌∙◌, subst}
use Rattle.guards_model.specs.Channels.{ChannelSet}
use Rattle.guards_model.specs.Transfers.{TransferCycle}
use Rattle.guards_model.specs.Tags.{TagsValue, StandFor, tags_noted, tags_closed}
use Rattle.guards_model.specs.Controls.{SweepingValue, tags_after, sweeping_after, goes_on}
use Rattle.guards_model.proofs.TagSteps.{stand_noted, stand_closed}

stand_after : (planned written : List ℕ) (t : TagsValue) (cycles : List TransferCycle) → StandFor t cycles [] →
    StandFor (tags_after planned written t) (record { planned = planned; written = written } ∷ cycles) []
unfolding tags_noted tags_closed
stand_after planned written t cycles stands =
    stand_closed (tags_noted written t) cycles written (stand_noted t cycles written stands) planned

went_on : (joined : ChannelSet) (o : Option SweepingValue) (t : SweepingValue) → goes_on joined o ≡ Some t → o ≡ Some t
went_on [] o t h = h
went_on (q ∷ joined) o t h = absurd cc

pub stand_next : (planned written : List ℕ) (old new : Option SweepingValue) (joined : ChannelSet) (s t : SweepingValue)
    (cycles : List TransferCycle) →
    new ≡ goes_on joined (sweeping_after planned written old) → old ≡ Some s → new ≡ Some t →
    StandFor s.tags cycles [] →
    StandFor t.tags (record { planned = planned; written = written } ∷ cycles) []
stand_next planned written old new joined s t cycles closed was is stands =
    let on : sweeping_after planned written old ≡ Some t =
    went_on joined (sweeping_after planned written old) t (sym closed ∙ is) in
    let made : Some (record { transfer = s.transfer; tags = tags_after planned written s.tags }) ≡ Some t
    = ap (λ (o : Option SweepingValue). sweeping_after planned written o) (sym was) ∙ on in
    let one : record { transfer = s.transfer; tags = tags_after planned written s.tags } ≡ t = cc in
    let P : SweepingValue → Type 0 =
    λ u. StandFor u.tags (record { planned = planned; written = written } ∷ cycles) [] in
    subst P one (stand_after planned written s.tags cycles stands)
