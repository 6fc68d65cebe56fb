-- A step of every node, and of the state of each mode.
use Rattle.std.proofs.Common.{◌≡◌, suc, ◌<◌, ◌&&◌, Bool, true, false, cond, not, List, [], ◌∷◌, map, refl, ap, ◌∙◌}
use Rattle.std.specs.List.{list_all}
use Rattle.std.proofs.lemmas.Bool.{leb-true}
use Rattle.guards_model.specs.Channels.{Channel, ChannelSet}
use Rattle.guards_model.specs.Missions.{MissionValue, IsMission, channels_of}
use Rattle.guards_model.specs.Frames.{is_channel}
use Rattle.guards_model.specs.Modes.{ModeValue, up, down, waiting, joining}
use Rattle.guards_model.proofs.BoolTests.{both}
use Rattle.guards_model.proofs.AscendingLists.{set_parts}
use Rattle.guards_laws.proofs.WithinChannels.{active_is_set}
use Rattle.guards_nodes.specs.NodeStates.{NodeValue, StateValue, running, fallen, returning, RunningValue, JoinerValue}
use Rattle.guards_nodes.specs.NodeCalls.{on_running, on_returning}
use Rattle.guards_world.specs.NodeFacts.{node_with, state_of_mode}
use Rattle.guards_model.specs.Ledgers.{is_down}

each_of : (f : NodeValue → NodeValue) (a b : Channel → NodeValue) → ((q : Channel) → q < 7 → f (a q) ≡ b q) →
    (qs : ChannelSet) → list_all is_channel qs ≡ true → map f (map a qs) ≡ map b qs
each_of f a b here [] low = refl
each_of f a b here (q ∷ qs) low =
    let parts = both (is_channel q) (list_all is_channel qs) low in
    ap (λ (x : NodeValue). x ∷ map f (map a qs)) (here q (leb-true (suc q) 7 parts.0))
    ∙ ap (λ (xs : List NodeValue). b q ∷ xs) (each_of f a b here qs parts.1)

-- what takes the node of each channel to another one takes all nodes of a mission there
pub each_node : (M : MissionValue) (f : NodeValue → NodeValue) (a b : Channel → NodeValue) → IsMission M →
    ((q : Channel) → q < 7 → f (a q) ≡ b q) → map f (map a (channels_of M)) ≡ map b (channels_of M)
each_node M f a b mission here =
    each_of f a b here (channels_of M) (set_parts (channels_of M) (active_is_set M [] mission)).0

same_of : (a b : Channel → NodeValue) → ((q : Channel) → q < 7 → a q ≡ b q) →
    (qs : ChannelSet) → list_all is_channel qs ≡ true → map a qs ≡ map b qs
same_of a b here [] low = refl
same_of a b here (q ∷ qs) low =
    let parts = both (is_channel q) (list_all is_channel qs) low in
    ap (λ (x : NodeValue). x ∷ map a qs) (here q (leb-true (suc q) 7 parts.0))
    ∙ ap (λ (xs : List NodeValue). b q ∷ xs) (same_of a b here qs parts.1)

pub same_nodes : (M : MissionValue) (a b : Channel → NodeValue) → IsMission M →
    ((q : Channel) → q < 7 → a q ≡ b q) → map a (channels_of M) ≡ map b (channels_of M)
same_nodes M a b mission here =
    same_of a b here (channels_of M) (set_parts (channels_of M) (active_is_set M [] mission)).0

-- a step of the running part, and of the joining part
pub running_step : (f : RunningValue → RunningValue) (r s : RunningValue) (j k : JoinerValue) (mode : ModeValue) →
    f r ≡ s → j ≡ k →
    on_running f (state_of_mode r j mode) ≡ state_of_mode s k mode
running_step f r s j k up h i = ap running h
running_step f r s j k down h i = refl
running_step f r s j k (waiting n) h i = refl
running_step f r s j k joining h i = ap returning i

pub returning_step : (f : JoinerValue → JoinerValue) (r s : RunningValue) (j k : JoinerValue) (mode : ModeValue) →
    r ≡ s → f j ≡ k →
    on_returning f (state_of_mode r j mode) ≡ state_of_mode s k mode
returning_step f r s j k up h i = ap running h
returning_step f r s j k down h i = refl
returning_step f r s j k (waiting n) h i = refl
returning_step f r s j k joining h i = ap returning i

pub same_parts : (r s : RunningValue) (j k : JoinerValue) (mode : ModeValue) → r ≡ s → j ≡ k →
    state_of_mode r j mode ≡ state_of_mode s k mode
same_parts r s j k up h i = ap running h
same_parts r s j k down h i = refl
same_parts r s j k (waiting n) h i = refl
same_parts r s j k joining h i = ap returning i

-- ---- crashes

pub is_fallen : (r : RunningValue) (j : JoinerValue) (mode : ModeValue) → is_down mode ≡ true →
    state_of_mode r j mode ≡ fallen
is_fallen r j up h = absurd cc
is_fallen r j down h = refl
is_fallen r j (waiting k) h = absurd cc
is_fallen r j joining h = absurd cc

pub crashed_by : (M : MissionValue) (q : Channel) (now was : Bool) (state : StateValue) →
    (was ≡ true → state ≡ fallen) →
    cond (now && not was) (node_with M q fallen) (node_with M q state) ≡ node_with M q (cond now fallen state)
crashed_by M q true true state h = ap (node_with M q) (h refl)
crashed_by M q true false state h = refl
crashed_by M q false was state h = refl
