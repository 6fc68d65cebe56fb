-- A list of nodes decides one after the other.
use Rattle.std.proofs.Common.{◌≡◌, ℕ, List, ◌∷◌, Option, None, All, map, sym, ap, subst, ◌∙◌}
use Rattle.std.specs.Option.{option_or}
use Rattle.guards_model.specs.Channels.{ChannelSet}
use Rattle.guards_model.specs.Missions.{MissionValue}
use Rattle.guards_nodes.specs.NodeStates.{NodeValue}
use Rattle.guards_world.specs.NodeLists.{AllReceived, StandsForReceived, with_decisions, removed_in, first_removed}
use Rattle.world_nodes.proofs.Changes.{all_parts}

pub decided_more : (M : MissionValue) (c : ℕ) (node left : NodeValue) (rest remain nodes : List NodeValue) →
    nodes ≡ node ∷ rest →
    ((received : AllReceived) → StandsForReceived received node → left ≡ with_decisions M c received node) →
    ((received : AllReceived) → All (StandsForReceived received) rest →
    remain ≡ map (with_decisions M c received) rest) →
    (received : AllReceived) → All (StandsForReceived received) nodes →
    left ∷ remain ≡ map (with_decisions M c received) nodes
decided_more M c node left rest remain nodes are one others received stands =
    let parts = all_parts (StandsForReceived received) node rest
    (subst (λ (all : List NodeValue). All (StandsForReceived received) all) are stands) in
    ap (λ (x : NodeValue). x ∷ remain) (one received parts.0)
    ∙ ap (λ (xs : List NodeValue). with_decisions M c received node ∷ xs) (others received parts.1)
    ∙ sym (ap (λ (all : List NodeValue). map (with_decisions M c received) all) are)

-- where the first of them does not run, the others answer
pub removed_later : (node left : NodeValue) (rest remain nodes : List NodeValue) (first later : Option ChannelSet) →
    nodes ≡ node ∷ rest →
    first ≡ None → ((received : AllReceived) → StandsForReceived received node → first ≡ removed_in left.state) →
    ((received : AllReceived) → All (StandsForReceived received) rest → later ≡ first_removed remain) →
    (received : AllReceived) → All (StandsForReceived received) nodes →
    later ≡ option_or (removed_in left.state) (first_removed remain)
removed_later node left rest remain nodes first later are none one others received stands =
    let parts = all_parts (StandsForReceived received) node rest
    (subst (λ (all : List NodeValue). All (StandsForReceived received) all) are stands) in
    others received parts.1 ∙ ap (λ (o : Option ChannelSet). option_or o (first_removed remain))
    (sym none ∙ one received parts.0)
