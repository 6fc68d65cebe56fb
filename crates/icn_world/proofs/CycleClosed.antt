-- The close of a cycle: all running nodes have decided, and the first of them answers what the facts say.
use Rattle.std.proofs.Common.{◌≡◌, ℕ, suc, ◌<◌, true, false, Bool, cond, ◌||◌, List, [], ◌∷◌, ◌++◌, Option, None, Some, All, map, refl, sym, ap, subst, ◌∙◌}
use Rattle.std.specs.Prelude.{IsSome, option_map}
use Rattle.std.specs.List.{list_all, list_any}
use Rattle.std.specs.Option.{option_or}
use Rattle.std.proofs.lemmas.Bool.{leb-true, ltb-true, lt-ltb}
use Rattle.guards_model.specs.declared.Slot.TheVariants.{Sweep}
use Rattle.guards_model.specs.Channels.{Channel, ChannelSet, has}
use Rattle.guards_model.specs.Missions.{MissionValue, IsMission, channels_of, written_blocks}
use Rattle.guards_model.specs.Frames.{is_channel}
use Rattle.guards_model.specs.Modes.{ModeValue, up, down, waiting, joining, is_up}
use Rattle.guards_model.specs.Controls.{ClosedValue, closed_by}
use Rattle.guards_model.specs.Network.{Log}
use Rattle.guards_model.specs.Rounds.{Steps}
use Rattle.guards_model.proofs.AscendingLists.{any_member, set_parts}
use Rattle.guards_model.proofs.BoolTests.{both}
use Rattle.guards_model.specs.Slots.{stage_after, stage_before}
use Rattle.guards_runs.specs.Cycles.{Past, Cycle, cycles_before, cycle_at, mode_in}
use Rattle.guards_runs.specs.ControlFacts.{closed_of}
use Rattle.guards_laws.proofs.ControlFacts.{controls_follow}
use Rattle.guards_laws.proofs.CycleParts.{active-is}
use Rattle.guards_laws.proofs.LogGrows.{length-cycles_before}
use Rattle.guards_laws.proofs.WithinChannels.{active_is_set, active_within}
use Rattle.guards_nodes.specs.NodeStates.{DecidedValue, NodeValue, running, RunningValue, JoinerValue}
use Rattle.guards_nodes.specs.NodeSteps.{plan_in, after_sweep_frames}
use Rattle.guards_nodes.specs.NodeCalls.{on_returning}
use Rattle.guards_world.specs.NodeFacts.{state_of_mode, held_in, running_value_in, joiner_in, state_in}
use Rattle.guards_world.specs.Worlds.{WorldValue}
use Rattle.guards_world.specs.InCycle.{InCycle, node_in}
use Rattle.node_laws.proofs.NodeStepped.{answers}
use Rattle.guards_world.specs.NodeLists.{Bodies, HasDecision, sweeps_of, with_sweeps, closed_in, closing_of, first_closing}
use Rattle.guards_world.specs.Arrivals.{AreArrivals, nodes_in}
use Rattle.node_laws.proofs.EachNode.{each_node}
use Rattle.node_laws.proofs.SlotNodes.{all_swept}
use Rattle.world_laws.proofs.Running.{one_runs}
use Rattle.icn_world.proofs.Entering.{below_by}
use Rattle.icn_world.proofs.Handing.{all_nodes, decided_in}

-- ---- all have decided

had_by : (f : JoinerValue → JoinerValue) (r s : RunningValue) (j : JoinerValue) (mode : ModeValue) (d : DecidedValue) →
    r.progress.decided ≡ Some d →
    on_returning f (state_of_mode r j mode) ≡ running s → s.progress.decided ≡ Some d
had_by f r s j up d h is = sym (ap decided_in is) ∙ h
had_by f r s j down d h is = absurd cc
had_by f r s j (waiting n) d h is = absurd cc
had_by f r s j joining d h is = absurd cc

-- ---- the first answer

closing_by : (M : MissionValue) (n : ℕ) (f : JoinerValue → JoinerValue) (r : RunningValue) (j : JoinerValue)
    (c : ClosedValue) (mode : ModeValue) →
    closed_by M.rules.last (plan_in M.rules r.held) (written_blocks M n) r.held.control ≡ c →
    closing_of M n (on_returning f (state_of_mode r j mode)) ≡ cond (is_up mode) (Some c) None
closing_by M n f r j c up h = ap (λ (x : ClosedValue). Some x) h
closing_by M n f r j c down h = refl
closing_by M n f r j c (waiting k) h = refl
closing_by M n f r j c joining h = refl

either : (a b : Bool) (c : ClosedValue) →
    option_or (cond a (Some c) None) (cond b (Some c) None) ≡ cond (a || b) (Some c) None
either true b c = refl
either false b c = refl

first_by : (M : MissionValue) (n : ℕ) (c : ClosedValue) (runs : Channel → Bool) (a : Channel → NodeValue) →
    ((q : Channel) → q < 7 → closing_of M n (a q).state ≡ cond (runs q) (Some c) None) → (qs : ChannelSet) →
    list_all is_channel qs ≡ true →
    first_closing M n (map a qs) ≡ cond (list_any runs qs) (Some c) None
first_by M n c runs a here [] low = refl
first_by M n c runs a here (q ∷ qs) low =
    let parts = both (is_channel q) (list_all is_channel qs) low in
    ap (λ (x : Option ClosedValue). option_or x (first_closing M n (map a qs))) (here q (leb-true (suc q) 7 parts.0))
    ∙ ap (option_or (cond (runs q) (Some c) None)) (first_by M n c runs a here qs parts.1)
    ∙ either (runs q) (list_any runs qs) c

module _ (M : MissionValue) (L : Log) (n : ℕ) (steps : Steps) (members : ChannelSet) (got : Bodies) where
  abbrev past : Past
  past = cycles_before M L n

  abbrev e : Cycle
  e = cycle_at M L n

  abbrev swept : Channel → NodeValue
  swept q = with_sweeps n members got (node_in M L n steps Sweep (stage_before Sweep) q)

  decided : (q : Channel) → q < 7 → HasDecision M (swept q)
  unfolding state_in
  decided q low =
      record {
        rules = refl;
        had = λ s is. (
          _,
          had_by (after_sweep_frames M.rules.blocks n (sweeps_of members got q))
              (running_value_in M past e steps (stage_before Sweep) q) s (joiner_in M past e (stage_before Sweep) q)
              (mode_in e q Sweep) _ refl is,
        );
      }

  closing_is : (q : Channel) → q < 7 →
      closing_of M n (swept q).state ≡ cond (is_up (mode_in e q Sweep)) (Some (closed_of e)) None
  unfolding state_in
  closing_is q low =
      closing_by M n (after_sweep_frames M.rules.blocks n (sweeps_of members got q))
      (running_value_in M past e steps (stage_before Sweep) q) (joiner_in M past e (stage_before Sweep) q)
      (closed_of e) (mode_in e q Sweep)
      (ap (λ (c : ℕ). closed_by M.rules.last (plan_in M.rules (held_in M past e (stage_before Sweep) q))
      (written_blocks M c) (held_in M past e (stage_before Sweep) q).control) (sym (length-cycles_before M L n))
      ∙ answers M L past steps q (controls_follow M L n))

  swept_are : IsMission M →
      map (with_sweeps n members got) (nodes_in M L n steps Sweep (stage_before Sweep)) ≡ map swept (channels_of M)
  swept_are mission = each_node M (with_sweeps n members got) (node_in M L n steps Sweep (stage_before Sweep)) swept
      mission (λ q low. refl)

  pub all_decided : IsMission M →
      All (HasDecision M) (map (with_sweeps n members got) (nodes_in M L n steps Sweep (stage_before Sweep)))
  all_decided mission =
      subst (λ (nodes : List NodeValue). All (HasDecision M) nodes) (sym (swept_are mission))
      (all_nodes M (HasDecision M) swept mission decided)

  -- where some channel runs, the first answer is that of the facts
  pub first_is : IsMission M → (q : Channel) → mode_in e q Sweep ≡ up → has e.active q ≡ true →
      first_closing M n (map (with_sweeps n members got) (nodes_in M L n steps Sweep (stage_before Sweep)))
      ≡ Some (closed_of e)
  first_is mission q runs there =
      let set = set_parts (channels_of M) (active_is_set M [] mission) in
      let within : has (channels_of M) q ≡ true =
      below_by M.rules.channels q true
      (lt-ltb q M.rules.channels
      (active_within M L n q (sym (ap (λ (s : ChannelSet). has s q) (active-is M L past)) ∙ there))) in
      ap (first_closing M n) (swept_are mission)
      ∙ first_by M n (closed_of e) (λ p. is_up (mode_in e p Sweep)) swept closing_is (channels_of M) set.0
      ∙ ap (λ b. cond b (Some (closed_of e)) None)
      (any_member (λ p. is_up (mode_in e p Sweep)) (channels_of M) q within (ap is_up runs))

-- ---- the same of a world

pub may_close_by : (old w : WorldValue) (members : ChannelSet) (got : Bodies) (nodes : List NodeValue) → w ≡ old →
    (L : Log) × (now : Log) × (steps : Steps)
    × InCycle old.mission L now steps Sweep (stage_after Sweep) (stage_before Sweep) old →
    nodes ≡ map (with_sweeps w.done members got) w.nodes →
    All (HasDecision w.mission) nodes
may_close_by old w members got nodes same held are =
    let L = held.0 in
    let now = held.1 in
    let steps = held.2 in
    let inside : InCycle w.mission L now steps Sweep (stage_after Sweep) (stage_before Sweep) w =
    subst (λ (x : WorldValue). InCycle x.mission L now steps Sweep (stage_after Sweep) (stage_before Sweep) x)
    (sym same) held.3 in
    subst (λ (ns : List NodeValue). All (HasDecision w.mission) ns)
    (sym (are ∙ ap (map (with_sweeps w.done members got)) inside.nodes))
    (all_decided w.mission (L ++ now) w.done steps members got inside.ranges)

-- what the first running node answers
pub first_closes : (old w : WorldValue) (members : ChannelSet) (got : Bodies) (nodes : List NodeValue) → w ≡ old →
    (earlier current : Log) (steps : Steps) →
    InCycle old.mission earlier current steps Sweep (stage_after Sweep) (stage_before Sweep) old →
    nodes ≡ map (with_sweeps w.done members got) w.nodes →
    first_closing w.mission w.done nodes ≡ Some (closed_of (cycle_at old.mission (earlier ++ current) old.done))
first_closes old w members got nodes same earlier current steps held are =
    let inside : InCycle w.mission earlier current steps Sweep (stage_after Sweep) (stage_before Sweep) w =
    subst (λ (x : WorldValue).
    InCycle x.mission earlier current steps Sweep (stage_after Sweep) (stage_before Sweep) x) (sym same) held in
    let one = one_runs w.mission earlier current steps Sweep Sweep 7 6 w inside (ltb-true 6 7 refl) in
    ap (first_closing w.mission w.done) (are ∙ ap (map (with_sweeps w.done members got)) inside.nodes)
    ∙ first_is w.mission (earlier ++ current) w.done steps members got inside.ranges one.0 one.2 one.3
    ∙ ap (λ (x : WorldValue). Some (closed_of (cycle_at x.mission (earlier ++ current) x.done))) same

-- so there is one
pub some_closes : {A : Type 0} (f : A → ClosedValue) (o : Option A) (first : Option ClosedValue) (c : ClosedValue) →
    option_map f o ≡ first → first ≡ Some c → IsSome o
some_closes f None first c is h = absurd (no (is ∙ h))
  where
    no : None ≡ Some c → ⊥
    no k = cc
some_closes f (Some x) first c is h = refl

inner : (a b : ClosedValue) → Some a ≡ Some b → a ≡ b
inner a b h = cc

pub closes_by : {A : Type 0} (f : A → ClosedValue) (o : Option A) (x : A) (first : Option ClosedValue)
    (c : ClosedValue) → o ≡ Some x → option_map f o ≡ first → first ≡ Some c → f x ≡ c
closes_by f o x first c got is h = inner (f x) c (sym (ap (option_map f) got) ∙ is ∙ h)

-- ---- the world with the sweep slot handed over

pub swept_by : (old w : WorldValue) (earlier current : Log) (steps : Steps) (got : Bodies) (members : ChannelSet)
    (nodes left : List NodeValue) → w ≡ old → members ≡ w.switches →
    AreArrivals old.mission (earlier ++ current) old.done Sweep got →
    nodes ≡ map (with_sweeps w.done members got) w.nodes → left ≡ map (closed_in w.mission w.done) nodes →
    InCycle w.mission earlier current steps Sweep (stage_after Sweep) (stage_before Sweep) w →
    left ≡ nodes_in w.mission (earlier ++ current) w.done steps Sweep (stage_after Sweep)
swept_by old w earlier current steps got members nodes left same on are swept closed inside =
    let M = w.mission in
    let all : Log = earlier ++ current in
    let now_on : members ≡ (cycle_at M all w.done).active =
    on ∙ inside.switches ∙ sym (active-is M all (cycles_before M all w.done)) in
    closed
    ∙ ap (map (closed_in M w.done))
    (swept ∙ ap (λ (s : ChannelSet). map (with_sweeps w.done s got) w.nodes) now_on
    ∙ ap (map (with_sweeps w.done (cycle_at M all w.done).active got)) inside.nodes)
    ∙ all_swept M all w.done steps got inside.ranges
    (subst (λ (x : WorldValue). AreArrivals x.mission all x.done Sweep got) (sym same) are)
