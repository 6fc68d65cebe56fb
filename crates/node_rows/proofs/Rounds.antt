-- The rounds of a node that is driven by hand.
use Rattle.std.proofs.Common.{◌≡◌, ◌≢◌, ◌≤◌, ◌<◌, ◌+◌, ◌==◌, ◌&&◌, ℕ, ℤ, Bool, true, false, List, [], Option, Some, refl, ap, sym, subst, ◌∙◌, arith}
use Rattle.std.specs.Prelude.{if◌then◌else◌}
use Rattle.std.proofs.lemmas.Bool.{ne_eqb}
use Rattle.guards_model.specs.declared.Mode.TheVariants as mode
use Rattle.guards_model.specs.Channels.{Channel, has, tolerated_faults}
use Rattle.guards_model.specs.Frames.{ItemValue}
use Rattle.guards_model.specs.Missions.{RulesValue}
use Rattle.guards_nodes.specs.NodeStates.{NodeValue, StateValue, running, fallen, resting, returning, RunningValue, ExchangeTreeValue}
use Rattle.guards_nodes.specs.NodeSteps.{Received, nothing_received, with_items, tree_of, tree_for, word_to_send, StandsFor, TreeStandsFor, after_source, after_exchange}
use Rattle.guards_nodes.specs.NodeCalls.{changed, on_running, HasReceived}
use Rattle.channel_node.specs.Answers.{HasTree, mode_of_state}
use Rattle.node_rows.specs.Driven.{InRound}

begun_state : (channel : Channel) (rules : RulesValue) (width : ℕ) (sensors : List ℤ) (s : StateValue) →
    mode_of_state s ≡ mode.Up →
    InRound 1 0 (record { channel = channel; rules = rules; state = on_running (after_source channel width sensors) s })
begun_state channel rules width sensors (running r) up =
    record {
      part = after_source channel width sensors r;
      tree = tree_of r.held.control.active channel width (word_to_send sensors r.held) nothing_received;
      received = nothing_received;
      runs = refl;
      begun = refl;
      active_is = refl;
      me_is = refl;
      stands = refl;
      later = λ k j h. refl;
      rest = λ j h. refl;
    }
begun_state channel rules width sensors fallen up = absurd cc
begun_state channel rules width sensors resting up = absurd cc
begun_state channel rules width sensors (returning j) up = absurd cc

-- the exchange begins with nothing received
pub begins : (width : ℕ) (sensors : List ℤ) (old new : NodeValue) → mode_of_state old.state ≡ mode.Up →
    new ≡ changed (after_source old.channel width sensors) old → InRound 1 0 new
begins width sensors old new up is =
    subst (λ (n : NodeValue). InRound 1 0 n) (sym is) (begun_state old.channel old.rules width sensors old.state up)

and_no : (b : Bool) → (b && false) ≡ false
and_no true = refl
and_no false = refl

other_round : (round from : ℕ) (items : List ItemValue) (received : Received) (k j : ℕ) → (k ≡ round → ⊥) →
    with_items round from items received k j ≡ received k j
other_round round from items received k j unlike =
    ap (λ (b : Bool). if b && (j == from) then items else received k j) (ne_eqb k round unlike)

other_sender : (round from : ℕ) (items : List ItemValue) (received : Received) (k j : ℕ) → (j ≡ from → ⊥) →
    with_items round from items received k j ≡ received k j
other_sender round from items received k j unlike =
    ap (λ (b : Bool). if (k == round) && b then items else received k j) (ne_eqb j from unlike)
    ∙ ap (λ (b : Bool). if b then items else received k j) (and_no (k == round))

heard_part : (round from : ℕ) (items : List ItemValue) (channel : Channel) (rules : RulesValue) (part : RunningValue)
    (tree : ExchangeTreeValue) (received : Received) → part.progress.tree ≡ Some tree →
    tree.active ≡ part.held.control.active → tree.me ≡ channel →
    ((k j : ℕ) → round < k → received k j ≡ []) → ((j : ℕ) → from ≤ j → received round j ≡ []) →
    InRound round (from + 1) (record {
      channel = channel;
      rules = rules;
      state = running (after_exchange received round from items part);
    })
heard_part round from items channel rules part tree received begun active_is me_is later rest =
    record {
      part = after_exchange received round from items part;
      tree = tree_for (with_items round from items received) tree;
      received = with_items round from items received;
      runs = refl;
      begun = rw begun refl;
      active_is = active_is;
      me_is = me_is;
      stands = refl;
      later = λ k j h. other_round round from items received k j (λ e. omega (arith, h, e)) ∙ later k j h;
      rest = λ j h. other_sender round from items received round j (λ e. omega (arith, h, e))
          ∙ rest j (omega (arith, h));
    }

pub stands_for : (s : StateValue) (part : RunningValue) (tree : ExchangeTreeValue) (received : Received) →
    s ≡ running part →
    part.progress.tree ≡ Some tree → tree ≡ tree_for received tree → StandsFor s received
stands_for s part tree received runs begun stands =
    subst (λ (x : StateValue). StandsFor x received) (sym runs)
    (subst (λ (t : Option ExchangeTreeValue). TreeStandsFor t received) (sym begun) stands)

hear_is : (round from : ℕ) (items : List ItemValue) (old new : NodeValue) (at : InRound round from old) →
    HasReceived round from items old new → new ≡ changed (after_exchange at.received round from items) old
hear_is round from items old new at does =
    does at.received (stands_for old.state at.part at.tree at.received at.runs at.begun at.stands)
    (at.rest from (omega arith))

pub hear_rules : (round from : ℕ) (items : List ItemValue) (old new : NodeValue) → InRound round from old →
    HasReceived round from items old new → new.rules ≡ old.rules
hear_rules round from items old new at does = ap (λ (n : NodeValue). n.rules) (hear_is round from items old new at does)

-- a frame was received
pub hears : (round from : ℕ) (items : List ItemValue) (old new : NodeValue) → InRound round from old →
    HasReceived round from items old new → InRound round (from + 1) new
hears round from items old new at does =
    subst (λ (n : NodeValue). InRound round (from + 1) n) (sym (hear_is round from items old new at does))
    (subst (λ (s : StateValue).
    InRound round (from + 1) (record {
      channel = old.channel;
      rules = old.rules;
      state = on_running (after_exchange at.received round from items) s;
    }))
    (sym at.runs)
    (heard_part round from items old.channel old.rules at.part at.tree at.received at.begun at.active_is at.me_is
    at.later at.rest))

-- nothing was received of a channel
pub skips : (round from : ℕ) (node : NodeValue) → InRound round from node → InRound round (from + 1) node
skips round from node at =
    record {
      part = at.part;
      tree = at.tree;
      received = at.received;
      runs = at.runs;
      begun = at.begun;
      active_is = at.active_is;
      me_is = at.me_is;
      stands = at.stands;
      later = at.later;
      rest = λ j h. at.rest j (omega (arith, h));
    }

-- the next round begins
pub goes_on : (round from : ℕ) (node : NodeValue) → InRound round from node → InRound (round + 1) 0 node
goes_on round from node at =
    record {
      part = at.part;
      tree = at.tree;
      received = at.received;
      runs = at.runs;
      begun = at.begun;
      active_is = at.active_is;
      me_is = at.me_is;
      stands = at.stands;
      later = λ k j h. at.later k j (omega (arith, h));
      rest = λ j h. at.later (round + 1) j (omega arith);
    }

same_part : (s : StateValue) (r part : RunningValue) → s ≡ running part → s ≡ running r → r ≡ part
same_part s r part runs is = let both : running r ≡ running part = sym is ∙ runs in cc

same_tree : (x : Option ExchangeTreeValue) (t tree : ExchangeTreeValue) → x ≡ Some tree → x ≡ Some t → t ≡ tree
same_tree x t tree begun is = let both : Some t ≡ Some tree = sym is ∙ begun in cc

-- the tree of the exchange is the one of which it is said how far it has come
pub tree_is : (round from : ℕ) (node : NodeValue) (at : InRound round from node) (r : RunningValue)
    (t : ExchangeTreeValue) →
    node.state ≡ running r → r.progress.tree ≡ Some t → t ≡ at.tree
tree_is round from node at r t runs begun =
    same_tree r.progress.tree t at.tree
    (ap (λ (x : RunningValue). x.progress.tree) (same_part node.state r at.part at.runs runs) ∙ at.begun) begun

pub member : (round from : ℕ) (q : Channel) (node : NodeValue) → InRound round from node →
    ((r : RunningValue) → node.state ≡ running r → has r.held.control.active q ≡ true) →
    (r : RunningValue) (t : ExchangeTreeValue) → node.state ≡ running r → r.progress.tree ≡ Some t →
    has t.active q ≡ true
member round from q node at had r t runs begun =
    ap (λ (x : ExchangeTreeValue). has x.active q) (tree_is round from node at r t runs begun)
    ∙ ap (λ s. has s q) at.active_is ∙ had at.part at.runs

pub another : (round from : ℕ) (q : Channel) (node : NodeValue) → InRound round from node → q ≢ node.channel →
    (r : RunningValue) (t : ExchangeTreeValue) → node.state ≡ running r → r.progress.tree ≡ Some t → q ≢ t.me
another round from q node at apart r t runs begun =
    λ e. apart (e ∙ ap (λ (x : ExchangeTreeValue). x.me) (tree_is round from node at r t runs begun) ∙ at.me_is)

pub reaches : (round from : ℕ) (node : NodeValue) → InRound round from node →
    ((r : RunningValue) → node.state ≡ running r → round ≤ tolerated_faults r.held.control.active + 1) →
    (r : RunningValue) (t : ExchangeTreeValue) → node.state ≡ running r → r.progress.tree ≡ Some t →
    round ≤ tolerated_faults t.active + 1
reaches round from node at low r t runs begun =
    subst (λ a. round ≤ tolerated_faults a + 1)
    (sym (ap (λ (x : ExchangeTreeValue). x.active) (tree_is round from node at r t runs begun) ∙ at.active_is))
    (low at.part at.runs)

pub has_tree : (round from : ℕ) (node : NodeValue) → InRound round from node → HasTree node.state
has_tree round from node at = record { part = at.part; tree = at.tree; runs = at.runs; begun = at.begun }
