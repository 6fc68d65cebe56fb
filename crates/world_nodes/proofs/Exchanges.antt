-- The exchanges of a round, received one after the other.
use Rattle.std.proofs.Common.{◌≡◌, ℕ, ◌+◌, ◌≤◌, ◌==◌, Bool, true, false, cond, not, ◌&&◌, ◌||◌, List, [], ◌∷◌, Option, Some, None, filter, option_map, refl, sym, ap, subst, ◌∙◌}
use Rattle.std.proofs.lemmas.Bool.{eqb-true, eq-eqb}
use Rattle.guards_model.specs.Channels.{Channel, ChannelSet, has, without, tolerated_faults, every_channel, channels_where}
use Rattle.guards_model.specs.Frames.{ItemValue, is_distinct}
use Rattle.guards_model.proofs.BoolTests.{both, differ, not_true, or_true}
use Rattle.guards_model.proofs.Tables.{has-filter}
use Rattle.guards_nodes.specs.NodeStates.{ExchangeTreeValue, StateValue, running, fallen, resting, returning, NodeValue}
use Rattle.guards_nodes.specs.NodeSteps.{Received, StandsFor, TreeStandsFor, tree_for, with_items, after_exchange}
use Rattle.guards_nodes.specs.NodeCalls.{in_state, on_running, changed, HasReceived}
use Rattle.guards_world.specs.SlotSteps.{with_round}
use Rattle.guards_world.specs.NodeLists.{AllReceived, after_exchanges, IsNewOf, tree_in, MayTake, MayReceive}

-- ---- what stays of a tree

same_option : (received : Received) (tree : Option ExchangeTreeValue) → TreeStandsFor tree received →
    option_map (tree_for received) tree ≡ tree
same_option received None h = refl
same_option received (Some t) h = ap Some (sym h)

same_state : (round : ℕ) (items : Channel → List ItemValue) (received : Received) (state : StateValue) →
    StandsFor state received →
    on_running (after_exchanges round items received []) state ≡ state
same_state round items received (running r) h =
    ap (λ (tree : Option ExchangeTreeValue). running (record r { progress = record r.progress { tree = tree } }))
    (same_option received r.progress.tree h)
same_state round items received fallen h = refl
same_state round items received resting h = refl
same_state round items received (returning j) h = refl

-- from nobody nothing is received
pub nothing_taken : (round : ℕ) (items : Channel → List ItemValue) (received : Received) (node : NodeValue) →
    StandsFor node.state received →
    changed (after_exchanges round items received []) node ≡ node
nothing_taken round items received node h =
    ap (λ (state : StateValue). in_state state node) (same_state round items received node.state h)

-- a tree for other things received, where there is one
tree_was : (received : Received) (tree : Option ExchangeTreeValue) (t : ExchangeTreeValue) →
    option_map (tree_for received) tree ≡ Some t →
    (u : ExchangeTreeValue) × (tree ≡ Some u) × (t ≡ tree_for received u)
tree_was received None t h = absurd cc
tree_was received (Some u) t h = (u, refl, cc)

tree_after : (round : ℕ) (items : Channel → List ItemValue) (received : Received) (senders : ChannelSet)
    (state : StateValue) →
    tree_in (on_running (after_exchanges round items received senders) state)
    ≡ option_map (tree_for (with_round round items senders received)) (tree_in state)
tree_after round items received senders (running r) = refl
tree_after round items received senders fallen = refl
tree_after round items received senders resting = refl
tree_after round items received senders (returning j) = refl

stands_option : (received : Received) (tree : Option ExchangeTreeValue) →
    TreeStandsFor (option_map (tree_for received) tree) received
stands_option received None = tt
stands_option received (Some t) = refl

stands_after : (round : ℕ) (items : Channel → List ItemValue) (received : Received) (senders : ChannelSet)
    (state : StateValue) →
    StandsFor (on_running (after_exchanges round items received senders) state)
    (with_round round items senders received)
stands_after round items received senders (running r) =
    stands_option (with_round round items senders received) r.progress.tree
stands_after round items received senders fallen = tt
stands_after round items received senders resting = tt
stands_after round items received senders (returning j) = tt

-- ---- what is new

still_new : (round : ℕ) (items : List ItemValue) (j k : Channel) (received : Received) (same : Bool) → (k == j) ≡ same →
    same ≡ false →
    received round k ≡ [] → with_items round j items received round k ≡ []
still_new round items j k received true e f h = differ f
still_new round items j k received false e f h = stays (round == round) (k == j) e
  where
    stays : (a b : Bool) → b ≡ false → cond (a && b) items (received round k) ≡ []
    stays a true g = differ g
    stays true false g = h
    stays false false g = h

another_one : (j k : Channel) (rest : ChannelSet) (same : Bool) → (k == j) ≡ same → has rest j ≡ false →
    has rest k ≡ true → same ≡ false
another_one j k rest true e none there =
    differ (sym (subst (λ (q : ℕ). has rest q ≡ true) (eqb-true k j e) there) ∙ none)
another_one j k rest false e none there = refl

new_after : (round : ℕ) (items : Channel → List ItemValue) (others : ChannelSet) (j : Channel) (rest : ChannelSet)
    (received : Received) (there : Bool) →
    has rest j ≡ false → IsNewOf round (j ∷ rest) received →
    IsNewOf round rest (with_round round items (cond there (j ∷ []) []) received)
new_after round items others j rest received true none new = λ k h.
    still_new round (items j) j k received (k == j) refl (another_one j k rest (k == j) refl none h)
    (new k (or_true (j == k) (has rest k) h))
new_after round items others j rest received false none new = λ k h. new k (or_true (j == k) (has rest k) h)

-- ---- the steps

-- the first of some channels
pub may_first : (round : ℕ) (others : ChannelSet) (j : Channel) (rest : ChannelSet) (received : Received)
    (node : NodeValue) →
    MayTake round others (j ∷ rest) received node → MayTake round others (j ∷ []) received node
may_first round others j rest received node may =
    record {
      stands = may.stands;
      fresh = λ k h. may.fresh k (first (j == k) (has rest k) h);
      member = may.member;
      another = may.another;
      high = may.high;
    }
  where
    first : (a b : Bool) → (a || false) ≡ true → (a || b) ≡ true
    first true b h = refl
    first false b h = differ (sym h)

-- the rest of them, once the first was received
pub may_rest : (round : ℕ) (items : Channel → List ItemValue) (others : ChannelSet) (j : Channel) (rest : ChannelSet)
    (received : Received) (node : NodeValue) →
    is_distinct (j ∷ rest) ≡ true → MayTake round others (j ∷ rest) received node →
    MayTake round others rest (with_round round items (filter (has others) (j ∷ [])) received)
    (changed (after_exchanges round items received (filter (has others) (j ∷ []))) node)
unfolding is_distinct
may_rest round items others j rest received node distinct may =
    let senders : ChannelSet = filter (has others) (j ∷ []) in
    let after : Received = with_round round items senders received in
    let old : (t : ExchangeTreeValue) →
    tree_in (on_running (after_exchanges round items received senders) node.state) ≡ Some t →
    (u : ExchangeTreeValue) × (tree_in node.state ≡ Some u) × (t ≡ tree_for after u) =
    λ t h. tree_was after (tree_in node.state) t (sym (tree_after round items received senders node.state) ∙ h) in
    record {
      stands = stands_after round items received senders node.state;
      fresh = new_after round items others j rest received (has others j)
          (not_true (has rest j) (both (not (has rest j)) (is_distinct rest) distinct).0) may.fresh;
      member = λ t k h there. let u = old t h in
          ap (λ (x : ExchangeTreeValue). has x.active k) u.2 ∙ may.member u.0 k u.1 there;
      another = λ t h. let u = old t h in ap (λ (x : ExchangeTreeValue). has others x.me) u.2 ∙ may.another u.0 u.1;
      high = λ t h. let u = old t h in
          subst (λ (x : ExchangeTreeValue). round ≤ tolerated_faults x.active + 1) (sym u.2) (may.high u.0 u.1);
    }

twice_option : (a b : Received) (tree : Option ExchangeTreeValue) →
    option_map (tree_for b) (option_map (tree_for a) tree) ≡ option_map (tree_for b) tree
twice_option a b None = refl
twice_option a b (Some t) = refl

twice_state : (round : ℕ) (items : Channel → List ItemValue) (received : Received) (j : Channel) (rest : ChannelSet)
    (there : Bool) (state : StateValue) →
    on_running (after_exchanges round items (with_round round items (cond there (j ∷ []) []) received) rest)
    (on_running (after_exchanges round items received (cond there (j ∷ []) [])) state)
    ≡ on_running (after_exchanges round items received (cond there (j ∷ rest) rest)) state
twice_state round items received j rest true (running r) =
    ap (λ (tree : Option ExchangeTreeValue). running (record r { progress = record r.progress { tree = tree } }))
    (twice_option (with_items round j (items j) received)
    (with_round round items rest (with_items round j (items j) received)) r.progress.tree)
twice_state round items received j rest false (running r) =
    ap (λ (tree : Option ExchangeTreeValue). running (record r { progress = record r.progress { tree = tree } }))
    (twice_option received (with_round round items rest received) r.progress.tree)
twice_state round items received j rest there fallen = refl
twice_state round items received j rest there resting = refl
twice_state round items received j rest there (returning q) = refl

-- one after the other they are received as the list says
pub taken_on : (round : ℕ) (items : Channel → List ItemValue) (others : ChannelSet) (j : Channel) (rest : ChannelSet)
    (received : Received) (node : NodeValue) →
    changed (after_exchanges round items (with_round round items (filter (has others) (j ∷ [])) received)
    (filter (has others) rest))
    (changed (after_exchanges round items received (filter (has others) (j ∷ []))) node)
    ≡ changed (after_exchanges round items received (filter (has others) (j ∷ rest))) node
taken_on round items others j rest received node =
    ap (λ (state : StateValue). in_state state node)
    (twice_state round items received j (filter (has others) rest) (has others j) node.state)

-- ---- a node among the members of its exchange

self_out : (q : ℕ) (b : Bool) → (not (has (q ∷ []) q) && b) ≡ false
self_out q b = ap (λ t. not (t || false) && b) (eq-eqb q q refl)

-- the others are further members
pub may_take : (round : ℕ) (members : ChannelSet) (received : AllReceived) (node : NodeValue) →
    MayReceive round members received node →
    MayTake round (without members (node.channel ∷ [])) every_channel (received node.channel) node
may_take round members received node may =
    let others : ChannelSet = without members (node.channel ∷ []) in
    let kept : (k : Channel) →
    has others k ≡ (not (has (node.channel ∷ []) k) && has members k) =
    λ k. has-filter (λ q. not (has (node.channel ∷ []) q)) members k in
    record {
      stands = may.stands;
      fresh = λ j h. may.fresh j;
      member = λ t j h there. ap (λ (s : ChannelSet). has s j) (may.members_are t h)
          ∙ (both (not (has (node.channel ∷ []) j)) (has members j) (sym (kept j) ∙ there)).1;
      another = λ t h. ap (λ (q : ℕ). has others q) (may.me_is t h) ∙ kept node.channel
          ∙ self_out node.channel (has members node.channel);
      high = may.high;
    }

pub may_take_by : (round : ℕ) (members others channels : ChannelSet) (me : Channel) (received : AllReceived)
    (node : NodeValue) →
    me ≡ node.channel → others ≡ without members (me ∷ []) → channels ≡ every_channel →
    MayReceive round members received node →
    MayTake round others channels (received node.channel) node
may_take_by round members others channels me received node m o c may =
    let are : others ≡ without members (node.channel ∷ []) = o ∙ ap (λ (q : ℕ). without members (q ∷ [])) m in
    subst (λ (cs : ChannelSet). MayTake round others cs (received node.channel) node) (sym c)
    (subst (λ (os : ChannelSet). MayTake round os every_channel (received node.channel) node) (sym are)
    (may_take round members received node may))

-- the others in the order of the channels
pub others_are : (members others channels : ChannelSet) (me mine : Channel) → others ≡ channels_where (has others) →
    channels ≡ every_channel →
    others ≡ without members (me ∷ []) → me ≡ mine → filter (has others) channels ≡ without members (mine ∷ [])
unfolding channels_where
others_are members others channels me mine w c o m =
    ap (filter (has others)) c ∙ sym w ∙ o ∙ ap (λ (q : ℕ). without members (q ∷ [])) m

pub every_is_distinct : is_distinct every_channel ≡ true
unfolding is_distinct
every_is_distinct = refl

-- ---- one call after the other

-- once the first was received, the rest may be
pub receive_next : (round : ℕ) (items : Channel → List ItemValue) (others channels : ChannelSet) (j : Channel)
    (rest : ChannelSet)
    (received : Received) (node after : NodeValue) → channels ≡ j ∷ rest → is_distinct channels ≡ true →
    MayTake round others channels received node →
    ((r : Received) → MayTake round others (j ∷ []) r node →
    after ≡ changed (after_exchanges round items r (filter (has others) (j ∷ []))) node) →
    MayTake round others rest (with_round round items (filter (has others) (j ∷ [])) received) after
receive_next round items others channels j rest received node after are distinct may one =
    let here : MayTake round others (j ∷ rest) received node =
    subst (λ (cs : ChannelSet). MayTake round others cs received node) are may in
    subst (λ (n : NodeValue).
    MayTake round others rest (with_round round items (filter (has others) (j ∷ [])) received) n)
    (sym (one received (may_first round others j rest received node here)))
    (may_rest round items others j rest received node (sym (ap is_distinct are) ∙ distinct) here)

pub rest_distinct : (channels : ChannelSet) (j : Channel) (rest : ChannelSet) → channels ≡ j ∷ rest →
    is_distinct channels ≡ true → is_distinct rest ≡ true
unfolding is_distinct
rest_distinct channels j rest are distinct =
    (both (not (has rest j)) (is_distinct rest) (sym (ap is_distinct are) ∙ distinct)).1

-- and then all of them were
pub received_all : (round : ℕ) (items : Channel → Channel → List ItemValue) (others channels : ChannelSet) (j : Channel)
    (rest : ChannelSet)
    (received : Received) (node after last : NodeValue) → channels ≡ j ∷ rest → is_distinct channels ≡ true →
    MayTake round others channels received node →
    ((r : Received) → MayTake round others (j ∷ []) r node →
    after ≡ changed (after_exchanges round (items node.channel) r (filter (has others) (j ∷ []))) node) →
    ((r : Received) → MayTake round others rest r after →
    last ≡ changed (after_exchanges round (items after.channel) r (filter (has others) rest)) after) →
    last ≡ changed (after_exchanges round (items node.channel) received (filter (has others) channels)) node
received_all round items others channels j rest received node after last are distinct may one more =
    let here : MayTake round others (j ∷ rest) received node =
    subst (λ (cs : ChannelSet). MayTake round others cs received node) are may in
    let then : Received = with_round round (items node.channel) (filter (has others) (j ∷ [])) received in
    more then (receive_next round (items node.channel) others channels j rest received node after are distinct may one)
    ∙ ap (λ (n : NodeValue). changed (after_exchanges round (items n.channel) then (filter (has others) rest)) n)
    (one received (may_first round others j rest received node here))
    ∙ taken_on round (items node.channel) others j rest received node
    ∙ ap (λ (cs : ChannelSet).
    changed (after_exchanges round (items node.channel) received (filter (has others) cs)) node) (sym are)

-- the exchange of one channel
pub received_one : (round : ℕ) (items : Channel → List ItemValue) (others : ChannelSet) (j : Channel)
    (got : List ItemValue) (received : Received) (node after : NodeValue) →
    has others j ≡ true → got ≡ items j → MayTake round others (j ∷ []) received node →
    HasReceived round j got node after →
    after ≡ changed (after_exchanges round items received (filter (has others) (j ∷ []))) node
received_one round items others j got received node after there are may one =
    one received may.stands (may.fresh j (ap (λ b. b || false) (eq-eqb j j refl)))
    ∙ ap (λ (xs : List ItemValue). changed (after_exchange received round j xs) node) are
    ∙ ap (λ (b : Bool). changed (after_exchanges round items received (cond b (j ∷ []) [])) node) (sym there)
