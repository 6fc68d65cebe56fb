-- What the nodes of a slot are known to hold, and what they are when they took what it carried.
use Rattle.std.proofs.Common.{◌≡◌, ℕ, suc, ◌<◌, true, List, [], ◌∷◌, ◌++◌, Option, Some, None, All, map, refl, sym, ap, subst, ◌∙◌}
use Rattle.std.specs.List.{list_all}
use Rattle.std.proofs.lemmas.Bool.{leb-true}
use Rattle.std.proofs.lemmas.List.Elements.{All-nil, All-cons}
use Rattle.guards_model.specs.declared.Slot.TheVariants.{Vote, Final}
use Rattle.guards_model.specs.Channels.{Channel, ChannelSet}
use Rattle.guards_model.specs.Missions.{MissionValue, IsMission, channels_of}
use Rattle.guards_model.specs.Frames.{is_channel}
use Rattle.guards_model.specs.Modes.{ModeValue, up, down, waiting, joining}
use Rattle.guards_model.specs.Network.{Log}
use Rattle.guards_model.specs.Rounds.{Steps}
use Rattle.guards_model.proofs.BoolTests.{both}
use Rattle.guards_model.proofs.AscendingLists.{set_parts}
use Rattle.guards_model.specs.Slots.{stage_after, stage_before}
use Rattle.guards_laws.proofs.CycleParts.{active-is}
use Rattle.guards_laws.proofs.WithinChannels.{active_is_set}
use Rattle.guards_runs.specs.Cycles.{cycles_before, cycle_at, mode_in}
use Rattle.guards_nodes.specs.NodeStates.{DecidedValue, NodeValue, StateValue, running, fallen, resting, returning, RunningValue, JoinerValue}
use Rattle.guards_world.specs.NodeFacts.{state_of_mode, running_value_in, joiner_in, state_in}
use Rattle.guards_world.specs.Worlds.{WorldValue}
use Rattle.guards_world.specs.InCycle.{InCycle, node_in}
use Rattle.guards_world.specs.NodeLists.{Bodies, HasDecision, with_votes, with_finals}
use Rattle.guards_world.specs.Arrivals.{AreArrivals, HaveWorked, nodes_in}
use Rattle.node_laws.proofs.SlotNodes.{all_filled}
use Rattle.node_laws.proofs.VoteNodes.{all_voted}

-- what is known of the node of each channel is known of all
all_of : (P : NodeValue → Type 0) (a : Channel → NodeValue) → ((q : Channel) → q < 7 → P (a q)) → (qs : ChannelSet) →
    list_all is_channel qs ≡ true → All P (map a qs)
all_of P a here [] low = All-nil P
all_of P a here (q ∷ qs) low =
    let parts = both (is_channel q) (list_all is_channel qs) low in
    All-cons P (a q) (map a qs) (here q (leb-true (suc q) 7 parts.0)) (all_of P a here qs parts.1)

pub all_nodes : (M : MissionValue) (P : NodeValue → Type 0) (a : Channel → NodeValue) → IsMission M →
    ((q : Channel) → q < 7 → P (a q)) → All P (map a (channels_of M))
all_nodes M P a mission here =
    all_of P a here (channels_of M) (set_parts (channels_of M) (active_is_set M [] mission)).0

-- ---- the decision

abbrev pub decided_in : StateValue → Option DecidedValue
decided_in (running r) = r.progress.decided
decided_in fallen = None
decided_in resting = None
decided_in (returning j) = None

had_by : (r s : RunningValue) (j : JoinerValue) (mode : ModeValue) (d : DecidedValue) → r.progress.decided ≡ Some d →
    state_of_mode r j mode ≡ running s →
    s.progress.decided ≡ Some d
had_by r s j up d h is = sym (ap decided_in is) ∙ h
had_by r s j down d h is = absurd cc
had_by r s j (waiting n) d h is = absurd cc
had_by r s j joining d h is = absurd cc

decision_of_vote : (M : MissionValue) (L : Log) (n : ℕ) (steps : Steps) (q : Channel) →
    HasDecision M (node_in M L n steps Vote (stage_before Vote) q)
unfolding state_in
decision_of_vote M L n steps q =
    record {
      rules = refl;
      had = λ s is. (
        _,
        had_by (running_value_in M (cycles_before M L n) (cycle_at M L n) steps (stage_before Vote) q) s
            (joiner_in M (cycles_before M L n) (cycle_at M L n) (stage_before Vote) q)
            (mode_in (cycle_at M L n) q Vote) _ refl is,
      );
    }

pub may_vote_by : (old w : WorldValue) → w ≡ old →
    (earlier : Log) × (current : Log) × (steps : Steps)
    × InCycle old.mission earlier current steps Vote (stage_after Vote) (stage_before Vote) old →
    All (HasDecision w.mission) w.nodes
may_vote_by old w same held =
    let inside : InCycle w.mission held.0 held.1 held.2 Vote (stage_after Vote) (stage_before Vote) w =
    subst (λ (x : WorldValue). InCycle x.mission held.0 held.1 held.2 Vote (stage_after Vote) (stage_before Vote) x)
    (sym same) held.3 in
    subst (λ (nodes : List NodeValue). All (HasDecision w.mission) nodes) (sym inside.nodes)
    (all_nodes w.mission (HasDecision w.mission)
    (node_in w.mission (held.0 ++ held.1) w.done held.2 Vote (stage_before Vote)) inside.ranges
    (λ q low. decision_of_vote w.mission (held.0 ++ held.1) w.done held.2 q))

-- ---- the slots

pub voted_by : (old w : WorldValue) (earlier current : Log) (steps : Steps) (got : Bodies) → w ≡ old →
    AreArrivals old.mission (earlier ++ current) old.done Vote got →
    HaveWorked old.mission (earlier ++ current) old.done →
    InCycle w.mission earlier current steps Vote (stage_after Vote) (stage_before Vote) w →
    map (with_votes w.mission got) w.nodes
    ≡ nodes_in w.mission (earlier ++ current) w.done steps Vote (stage_after Vote)
voted_by old w earlier current steps got same are worked inside =
    ap (map (with_votes w.mission got)) inside.nodes
    ∙ all_voted w.mission (earlier ++ current) w.done steps inside.ranges got
    (subst (λ (x : WorldValue). AreArrivals x.mission (earlier ++ current) x.done Vote got) (sym same) are)
    (subst (λ (x : WorldValue). HaveWorked x.mission (earlier ++ current) x.done) (sym same) worked)

pub filled_by : (old w : WorldValue) (earlier current : Log) (steps : Steps) (got : Bodies) (members : ChannelSet) →
    w ≡ old → members ≡ w.switches →
    AreArrivals old.mission (earlier ++ current) old.done Final got →
    InCycle w.mission earlier current steps Final (stage_after Final) (stage_before Final) w →
    map (with_finals members got) w.nodes
    ≡ nodes_in w.mission (earlier ++ current) w.done steps Final (stage_after Final)
filled_by old w earlier current steps got members same on are inside =
    let M = w.mission in
    let all : Log = earlier ++ current in
    let now_on : members ≡ (cycle_at M all w.done).active =
    on ∙ inside.switches ∙ sym (active-is M all (cycles_before M all w.done)) in
    ap (λ (s : ChannelSet). map (with_finals s got) w.nodes) now_on
    ∙ ap (map (with_finals (cycle_at M all w.done).active got)) inside.nodes
    ∙ all_filled M all w.done steps got inside.ranges
    (subst (λ (x : WorldValue). AreArrivals x.mission all x.done Final got) (sym same) are)
