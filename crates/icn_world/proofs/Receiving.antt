-- The nodes of a round: what they are known to hold, and what they are when they received what arrived.
use Rattle.std.proofs.Common.{◌≡◌, ℕ, suc, ◌≤◌, ◌<◌, ◌+◌, Bool, true, false, cond, not, List, [], ◌∷◌, Option, Some, None, All, map, option_map, length, refl, sym, ap, subst, ◌∙◌, arith}
use Rattle.std.specs.Option.{unwrap_or}
use Rattle.std.specs.List.{list_all}
use Rattle.std.proofs.lemmas.Bool.{leb-true, le-leb}
use Rattle.std.proofs.lemmas.List.Elements.{All-nil, All-cons, All-tail}
use Rattle.guards_model.specs.declared.Slot.{Slot}
use Rattle.guards_model.specs.declared.Slot.TheVariants.{Request, Round1, Round2, Round3, Tasks, Vote, Sweep, Final, Switch, Output}
use Rattle.guards_model.specs.Slots.{slot_index, round_number, stage_after, stage_before}
use Rattle.guards_model.specs.Channels.{Channel, ChannelSet, without, has, tolerated_faults}
use Rattle.guards_model.specs.Missions.{MissionValue, IsMission}
use Rattle.guards_model.specs.Frames.{ItemValue, is_channel, is_set}
use Rattle.guards_model.specs.Modes.{ModeValue, up, down, waiting, joining}
use Rattle.guards_model.specs.Network.{Log, items_of}
use Rattle.guards_model.specs.Rounds.{Steps}
use Rattle.guards_model.proofs.AscendingLists.{set_parts}
use Rattle.guards_model.proofs.BoolTests.{both, differ}
use Rattle.guards_model.proofs.ListTests.{all-filter}
use Rattle.guards_model.proofs.Tables.{at-by_channel}
use Rattle.guards_runs.specs.Cycles.{Past, Cycle, received_body, received_items, items_in, cycles_before, cycle_at, mode_in}
use Rattle.guards_runs.specs.Due.{is_round}
use Rattle.guards_runs.specs.Promises.{DecidesAlike}
use Rattle.guards_laws.proofs.CycleParts.{active-is}
use Rattle.guards_laws.proofs.LogGrows.{length-cycles_before}
use Rattle.guards_laws.proofs.WithinChannels.{active_is_set}
use Rattle.guards_nodes.specs.NodeStates.{NodeValue, StateValue, running, fallen, resting, returning, RunningValue, JoinerValue, ExchangeTreeValue}
use Rattle.guards_nodes.specs.NodeSteps.{Received, StandsFor, TreeStandsFor, tree_for, with_items}
use Rattle.guards_nodes.specs.NodeCalls.{on_running}
use Rattle.guards_world.specs.NodeFacts as facts
use Rattle.guards_world.specs.NodeFacts.{state_of_mode, running_value_in, joiner_in, received_through, state_in}
use Rattle.guards_world.specs.SlotSteps.{with_round}
use Rattle.guards_world.specs.InCycle.{node_in}
use Rattle.node_laws.proofs.Hearing.{receives, none_received}
use Rattle.node_laws.proofs.Owing.{stands}
use Rattle.guards_world.specs.NodeLists.{Bodies, after_exchanges, with_exchanges, with_decisions, tree_in, MayReceive, StandsForReceived, MayDecide}
use Rattle.guards_world.specs.Arrivals.{AreArrivals, nodes_in}
use Rattle.node_laws.proofs.RoundNodes.{all_first, all_second, no_second, all_decided, all_decided_early}
use Rattle.icn_world.specs.Settled.{nodes_received}
use Rattle.icn_world.proofs.Handing.{all_nodes}

-- ---- what a running node holds in the exchange

held_by : (r : RunningValue) (j : JoinerValue) (mode : ModeValue) (t tree : ExchangeTreeValue) →
    r.progress.tree ≡ Some tree →
    tree_in (state_of_mode r j mode) ≡ Some t → t ≡ tree
held_by r j up t tree had is = ap (λ (o : Option ExchangeTreeValue). unwrap_or o t) (sym is ∙ had)
held_by r j down t tree had is = absurd cc
held_by r j (waiting n) t tree had is = absurd cc
held_by r j joining t tree had is = absurd cc

begun_by : (r s : RunningValue) (j : JoinerValue) (mode : ModeValue) (tree : ExchangeTreeValue) →
    r.progress.tree ≡ Some tree →
    state_of_mode r j mode ≡ running s → s.progress.tree ≡ Some tree
begun_by r s j up tree had is = sym (ap tree_in is) ∙ had
begun_by r s j down tree had is = absurd cc
begun_by r s j (waiting n) tree had is = absurd cc
begun_by r s j joining tree had is = absurd cc

-- ---- what stays of it when exchanges are received

stands_for_itself : (received : Received) (tree : Option ExchangeTreeValue) →
    TreeStandsFor (option_map (tree_for received) tree) received
stands_for_itself received None = tt
stands_for_itself received (Some t) = refl

stands_after : (round : ℕ) (items : Channel → List ItemValue) (received then : Received) (senders : ChannelSet)
    (state : StateValue) →
    with_round round items senders received ≡ then →
    StandsFor (on_running (after_exchanges round items received senders) state) then
stands_after round items received then senders (running r) is =
    subst (λ (x : Received). TreeStandsFor
    (option_map (tree_for (with_round round items senders received)) r.progress.tree) x) is
    (stands_for_itself (with_round round items senders received) r.progress.tree)
stands_after round items received then senders fallen is = tt
stands_after round items received then senders resting is = tt
stands_after round items received then senders (returning j) is = tt

begun_after : (round : ℕ) (items : Channel → List ItemValue) (received : Received) (senders : ChannelSet)
    (state : StateValue) →
    ((r : RunningValue) → state ≡ running r → (t : ExchangeTreeValue) × (r.progress.tree ≡ Some t)) →
    (s : RunningValue) → on_running (after_exchanges round items received senders) state ≡ running s →
    (t : ExchangeTreeValue) × (s.progress.tree ≡ Some t)
begun_after round items received senders (running r) begun s is =
    let had = begun r refl in
    let after : Received = with_round round items senders received in
    (tree_for after had.0, sym (ap tree_in is) ∙ ap (option_map (tree_for after)) had.1)
begun_after round items received senders fallen begun s is = absurd cc
begun_after round items received senders resting begun s is = absurd cc
begun_after round items received senders (returning j) begun s is = absurd cc

-- what is made of each node is true of all that are made
all_made : (P Q : NodeValue → Type 0) (f : NodeValue → NodeValue) → ((node : NodeValue) → P node → Q (f node)) →
    (nodes : List NodeValue) → All P nodes → All Q (map f nodes)
all_made P Q f made [] all = All-nil Q
all_made P Q f made (node ∷ nodes) all =
    All-cons Q (f node) (map f nodes) (made node (all 0 node (grind arith)))
    (all_made P Q f made nodes (All-tail P node nodes all))

-- ---- a list that is one of two

pub either : {A : Type 0} (b : Bool) (x y z : A) → (b ≡ true → x ≡ z) → (b ≡ false → y ≡ z) → cond b x y ≡ z
either true x y z h k = h refl
either false x y z h k = k refl

pub either_holds : {A : Type 0} (P : A → Type 0) (b : Bool) (x y : A) → (b ≡ true → P x) → (b ≡ false → P y) →
    P (cond b x y)
either_holds P true x y h k = h refl
either_holds P false x y h k = k refl

-- what is received of senders below seven by lists that are alike (as in the laws of world_steps)
alike_round : (round : ℕ) (f g : Channel → List ItemValue) (js : ChannelSet) (received : Received) →
    list_all is_channel js ≡ true →
    ((j : Channel) → j < 7 → f j ≡ g j) → with_round round f js received ≡ with_round round g js received
alike_round round f g [] received low same = refl
alike_round round f g (j ∷ js) received low same =
    let parts = both (is_channel j) (list_all is_channel js) low in
    ap (λ (xs : List ItemValue). with_round round f js (with_items round j xs received))
    (same j (leb-true (suc j) 7 parts.0))
    ∙ alike_round round f g js (with_items round j (g j) received) parts.1 same

module _ (M : MissionValue) (L : Log) (n : ℕ) (steps : Steps) (mission : IsMission M) where
  abbrev past : Past
  past = cycles_before M L n

  abbrev e : Cycle
  e = cycle_at M L n

  -- ---- what may be received

  may_of : (slot : Slot) (round : ℕ) → ((q j : Channel) → received_through M past e round q round j ≡ []) →
      is_round e round ≡ true → (q : Channel) →
      MayReceive round e.active (received_through M past e round) (node_in M L n steps slot round q)
  unfolding state_in
  may_of slot round fresh there q =
      let held = λ (t : ExchangeTreeValue).
      held_by (running_value_in M past e steps round q) (joiner_in M past e round q) (mode_in e q slot) t
      (facts.tree_value_in M past e round q) refl in
      record {
        stands = stands M past e steps slot round q;
        fresh = fresh q;
        members_are = λ t is. ap (λ (x : ExchangeTreeValue). x.active) (held t is);
        me_is = λ t is. ap (λ (x : ExchangeTreeValue). x.me) (held t is);
        high = λ t is.
            subst (λ (s : ChannelSet). round ≤ tolerated_faults s + 1)
            (sym (ap (λ (x : ExchangeTreeValue). x.active) (held t is)))
            (leb-true round (tolerated_faults e.active + 1) there);
      }

  abbrev May : Slot → Type 0
  May slot =
      is_round e (round_number slot) ≡ true →
      All (MayReceive (round_number slot) e.active (received_through M past e (round_number slot)))
      (nodes_in M L n steps slot (stage_before slot))

  pub all_may_receive : (slot : Slot) → 1 ≤ round_number slot → May slot
  all_may_receive Round1 some there =
      all_nodes M (MayReceive 1 e.active (received_through M past e (stage_before Round1)))
      (node_in M L n steps Round1 (stage_before Round1)) mission (λ q low. may_of Round1 1 (λ q j. refl) there q)
  all_may_receive Round2 some there =
      all_nodes M (MayReceive 2 e.active (received_through M past e (stage_before Round2)))
      (node_in M L n steps Round2 (stage_before Round2)) mission (λ q low. may_of Round2 2 (λ q j. refl) there q)
  all_may_receive Round3 some there =
      all_nodes M (MayReceive 3 e.active (received_through M past e (stage_before Round3)))
      (node_in M L n steps Round3 (stage_before Round3)) mission (λ q low. may_of Round3 3 (λ q j. refl) there q)
  all_may_receive Request some there = absurd (omega (arith, some))
  all_may_receive Tasks some there = absurd (omega (arith, some))
  all_may_receive Vote some there = absurd (omega (arith, some))
  all_may_receive Sweep some there = absurd (omega (arith, some))
  all_may_receive Final some there = absurd (omega (arith, some))
  all_may_receive Switch some there = absurd (omega (arith, some))
  all_may_receive Output some there = absurd (omega (arith, some))

  -- ---- the first two rounds

  abbrev first_is : is_round e 1 ≡ true
  first_is = le-leb 1 (tolerated_faults e.active + 1) (omega arith)

  abbrev IsHandedOver : Slot → Bodies → Type 0
  IsHandedOver slot got = nodes_received M L n (round_number slot) got (nodes_in M L n steps slot (stage_before slot))
      ≡ nodes_in M L n steps slot (stage_after slot)

  pub early_received : (slot : Slot) (got : Bodies) → 1 ≤ round_number slot → round_number slot ≤ 2 →
      AreArrivals M L n slot got → IsHandedOver slot got
  early_received Round1 got some few are =
      either (is_round e 1) _ (nodes_in M L n steps Round1 (stage_before Round1))
      (nodes_in M L n steps Round1 (stage_after Round1)) (all_first M L n steps mission got are)
      (λ none. differ (sym first_is ∙ none))
  early_received Round2 got some few are =
      either (is_round e 2) _ (nodes_in M L n steps Round2 (stage_before Round2))
      (nodes_in M L n steps Round2 (stage_after Round2)) (all_second M L n steps mission got are)
      (no_second M L n steps mission)
  early_received Round3 got some few are = absurd (omega (arith, few))
  early_received Request got some few are = absurd (omega (arith, some))
  early_received Tasks got some few are = absurd (omega (arith, some))
  early_received Vote got some few are = absurd (omega (arith, some))
  early_received Sweep got some few are = absurd (omega (arith, some))
  early_received Final got some few are = absurd (omega (arith, some))
  early_received Switch got some few are = absurd (omega (arith, some))
  early_received Output got some few are = absurd (omega (arith, some))

  -- ---- the last round

  size : length past ≡ n
  size = length-cycles_before M L n

  others_low : (q : Channel) → list_all is_channel (without e.active (q ∷ [])) ≡ true
  others_low q = all-filter is_channel (λ p. not (has (q ∷ []) p)) e.active
      (set_parts e.active (ap is_set (active-is M L past) ∙ active_is_set M past mission)).0

  last_received : (got : Bodies) → AreArrivals M L n Round3 got → is_round e 3 ≡ true → (q : Channel) →
      with_round 3 (λ j. items_of (got j q)) (without e.active (q ∷ []))
      (received_through M past e (stage_before Round3) q) ≡ received_through M past e (stage_before Tasks) q
  last_received got are there q =
      alike_round 3 (λ j. items_of (got j q)) (items_in (received_items M e.entries (length past) q) 3)
      (without e.active (q ∷ [])) (received_through M past e (stage_before Round3) q) (others_low q)
      (λ j low. ap items_of (are j q) ∙ ap (λ (c : ℕ). items_of (received_body M e.entries c Round3 j q)) (sym size)
      ∙ sym (at-by_channel (λ p. items_of (received_body M e.entries (length past) Round3 p q)) j [] low))
      ∙ receives M past e q 3 (omega arith) there

  abbrev last_nodes : Bodies → List NodeValue
  last_nodes got = nodes_received M L n 3 got (nodes_in M L n steps Round3 (stage_before Round3))

  abbrev receive_last : Bodies → NodeValue → NodeValue
  receive_last got = with_exchanges 3 e.active got (received_through M past e (stage_before Round3))

  pub last_stand : (got : Bodies) → AreArrivals M L n Round3 got →
      All (StandsForReceived (received_through M past e (stage_before Tasks))) (last_nodes got)
  last_stand got are =
      let P : NodeValue → Type 0 = StandsForReceived (received_through M past e (stage_before Tasks)) in
      either_holds (All P) (is_round e 3) (map (receive_last got) (nodes_in M L n steps Round3 (stage_before Round3)))
      (nodes_in M L n steps Round3 (stage_before Round3))
      (λ there. all_made (StandsForReceived (received_through M past e (stage_before Round3))) P (receive_last got)
      (λ node was. record {
        stands =
            stands_after 3 (λ j. items_of (got j node.channel))
            (received_through M past e (stage_before Round3) node.channel)
            (received_through M past e (stage_before Tasks) node.channel)
            (without e.active (node.channel ∷ [])) node.state (last_received got are there node.channel);
      })
      (nodes_in M L n steps Round3 (stage_before Round3))
      (all_nodes M (StandsForReceived (received_through M past e (stage_before Round3)))
      (node_in M L n steps Round3 (stage_before Round3)) mission
      (λ q low. record { stands = stands M past e steps Round3 3 q })))
      (λ none. all_nodes M P (node_in M L n steps Round3 (stage_before Round3)) mission
      (λ q low. record {
        stands = subst (λ (x : Received). StandsFor (state_in M past e steps Round3 (stage_before Round3) q) x)
            (none_received M past e q 3 none) (stands M past e steps Round3 3 q);
      }))

  may_decide_of : (q : Channel) → MayDecide M (node_in M L n steps Round3 (stage_before Round3) q)
  unfolding state_in
  may_decide_of q =
      record {
        rules = refl;
        begun = λ r is. (
          facts.tree_value_in M past e 3 q,
          begun_by (running_value_in M past e steps (stage_before Round3) q) r
              (joiner_in M past e (stage_before Round3) q) (mode_in e q Round3) (facts.tree_value_in M past e 3 q) refl
              is,
        );
      }

  pub last_may_decide : (got : Bodies) → All (MayDecide M) (last_nodes got)
  last_may_decide got =
      let all : All (MayDecide M) (nodes_in M L n steps Round3 (stage_before Round3)) =
      all_nodes M (MayDecide M) (node_in M L n steps Round3 (stage_before Round3)) mission
      (λ q low. may_decide_of q) in
      either_holds (All (MayDecide M)) (is_round e 3)
      (map (receive_last got) (nodes_in M L n steps Round3 (stage_before Round3)))
      (nodes_in M L n steps Round3 (stage_before Round3))
      (λ there. all_made (MayDecide M) (MayDecide M) (receive_last got)
      (λ node may. record {
        rules = may.rules;
        begun = begun_after 3 (λ j. items_of (got j node.channel))
            (received_through M past e (stage_before Round3) node.channel) (without e.active (node.channel ∷ []))
            node.state may.begun;
      })
      (nodes_in M L n steps Round3 (stage_before Round3)) all)
      (λ none. all)

  pub last_decided : (got : Bodies) → AreArrivals M L n Round3 got →
      ((q : Channel) → q < 7 → mode_in e q Round3 ≡ up → DecidesAlike M past e q) →
      map (with_decisions M n (received_through M past e (stage_before Tasks))) (last_nodes got)
      ≡ nodes_in M L n steps Round3 (stage_after Round3)
  last_decided got are alike =
      either_holds (λ (nodes : List NodeValue).
      map (with_decisions M n (received_through M past e (stage_before Tasks))) nodes
      ≡ nodes_in M L n steps Round3 (stage_after Round3)) (is_round e 3)
      (map (receive_last got) (nodes_in M L n steps Round3 (stage_before Round3)))
      (nodes_in M L n steps Round3 (stage_before Round3))
      (λ there. all_decided M L n steps mission got are there alike)
      (λ none. all_decided_early M L n steps mission none alike)
