-- The nodes after the work of the tasks slot hold what the facts say by the steps that they made, and tell these steps.
use Rattle.std.proofs.Common.{◌≡◌, ℕ, zero, suc, ◌+◌, ◌<◌, ◌||◌, ◌==◌, Bool, true, false, cond, List, [], ◌∷◌, ◌++◌, Option, Some, None, option_map, unwrap_or, map, filter, filter_map, length, All, refl, sym, ap, subst, ◌∙◌}
use Rattle.std.specs.List.{AllZip, list_all, range_with_len, cons_option}
use Rattle.std.proofs.lemmas.Bool.{leb-true, eqb-true}
use Rattle.std.proofs.lemmas.List.{append_assoc, length_push}
use Rattle.guards_model.specs.declared.Actor.{Actor}
use Rattle.guards_model.specs.declared.Slot.TheVariants.{Tasks, Vote}
use Rattle.guards_model.specs.Channels.{Channel, ChannelSet, has}
use Rattle.guards_model.specs.Missions.{MissionValue, IsMission, channels_of, cycle_writes}
use Rattle.guards_model.specs.Frames.{is_channel}
use Rattle.guards_model.specs.Modes.{ModeValue, up, down, waiting, joining, is_up}
use Rattle.guards_model.specs.Network.{Log}
use Rattle.guards_model.specs.Rounds.{Origin, IsFull, Steps, steps_of}
use Rattle.guards_model.specs.Texts.{TraceValue}
use Rattle.guards_model.proofs.BoolTests.{both}
use Rattle.guards_model.proofs.AscendingLists.{set_parts}
use Rattle.guards_model.proofs.Tables.{has-filter}
use Rattle.guards_model.specs.Slots.{stage_after, stage_before}
use Rattle.guards_runs.specs.Cycles.{Past, Cycle, cycles_before, cycle_at, mode_in}
use Rattle.guards_runs.specs.Due.{due_origin}
use Rattle.guards_runs.specs.Report as report
use Rattle.guards_laws.proofs.LogGrows.{length-cycles_before}
use Rattle.guards_laws.proofs.ControlFacts.{controls_follow}
use Rattle.guards_laws.proofs.WithinChannels.{active_is_set}
use Rattle.guards_nodes.specs.NodeStates.{DecidedValue, WorkedValue, NodeValue, StateValue, running, fallen, resting, returning, RunningValue, JoinerValue}
use Rattle.guards_nodes.specs.NodeSteps.{kept_of, origin_by, after_steps, HasWorked}
use Rattle.guards_nodes.specs.NodeCalls.{DoesWork}
use Rattle.guards_world.specs.NodeFacts.{node_with, state_of_mode, running_value_in, joiner_in, state_in}
use Rattle.guards_world.specs.Worlds.{WorldValue}
use Rattle.guards_world.specs.WorldCycle.{AreFull, worked_of}
use Rattle.guards_world.specs.InCycle.{InCycle, node_in}
use Rattle.node_laws.proofs.NodeStepped.{origins, works}
use Rattle.world_laws.proofs.BeforeWork.{comes_later}
use Rattle.guards_world.specs.NodeLists.{HasDecision}
use Rattle.world_nodes.specs.NodeWork.{WorksOrStays, trace_of}
use Rattle.guards_world.specs.Arrivals.{nodes_in}
use Rattle.icn_world.specs.Work.{HasDoneWork}
use Rattle.icn_world.proofs.Entering.{hands_by}
use Rattle.icn_world.proofs.Handing.{all_nodes, decided_in}
use Rattle.icn_world.proofs.LinesTold.{up_are_running}

-- ---- the steps that nodes tell

abbrev pub steps_told : NodeValue → List Actor
steps_told node = unwrap_or (option_map (λ (w : WorkedValue). w.steps) (worked_of node)) []

abbrev pub made_by : List NodeValue → Steps
made_by nodes = map steps_told nodes

step_at : (front rest : Steps) (s : List Actor) → steps_of (front ++ s ∷ rest) (length front) ≡ s
step_at [] rest s = refl
step_at (t ∷ front) rest s = step_at front rest s

-- what holds of each channel's node by the steps that it tells holds by the list of what all tell
module _ (R : NodeValue → NodeValue → Type 0) (old : Channel → NodeValue) (made : Steps)
    (Q : Channel → NodeValue → Type 0)
    (here : (q : Channel) → q < 7 → (new : NodeValue) → R (old q) new → steps_of made q ≡ steps_told new →
    Q q new) where
  each_at : (k a : ℕ) (front : Steps) (news : List NodeValue) → length front ≡ a →
      list_all is_channel (range_with_len a k) ≡ true →
      made ≡ front ++ map steps_told news → AllZip R (map old (range_with_len a k)) news →
      AllZip Q (range_with_len a k) news
  each_at zero a front [] size low is each = tt
  each_at zero a front (new ∷ news) size low is each = absurd each
  each_at (suc k) a front [] size low is each = absurd each
  each_at (suc k) a front (new ∷ news) size low is each =
      let parts = both (is_channel a) (list_all is_channel (range_with_len (a + 1) k)) low in
      let at : steps_of made a ≡ steps_told new =
      ap (λ (m : Steps). steps_of m a) is ∙ ap (steps_of (front ++ steps_told new ∷ map steps_told news)) (sym size)
      ∙ step_at front (map steps_told news) (steps_told new) in (
        here a (leb-true (suc a) 7 parts.0) new each.0 at,
        each_at k (a + 1) (front ++ steps_told new ∷ []) news
            (length_push front (steps_told new) ∙ ap (λ (n : ℕ). n + 1) size) parts.1
            (is ∙ sym (append_assoc front (steps_told new ∷ []) (map steps_told news))) each.1,
      )

module _ (after : Channel → NodeValue) (F : Channel → Type 0) where
  abbrev Is : Channel → NodeValue → Type 0
  Is q new = (new ≡ after q) × F q

  same_by : (qs : ChannelSet) (news : List NodeValue) → AllZip Is qs news → news ≡ map after qs
  same_by [] [] each = refl
  same_by [] (new ∷ news) each = absurd each
  same_by (q ∷ qs) [] each = absurd each
  same_by (q ∷ qs) (new ∷ news) each =
      ap (λ (x : NodeValue). x ∷ news) each.0.0 ∙ ap (λ (xs : List NodeValue). after q ∷ xs) (same_by qs news each.1)

  found_by : (q p : Channel) (qs : ChannelSet) (there : Bool) → (q == p) ≡ there → F q → (there || has qs p) ≡ true →
      (has qs p ≡ true → F p) → F p
  found_by q p qs true e h k more = subst F (eqb-true q p e) h
  found_by q p qs false e h k more = more k

  full_by : (qs : ChannelSet) (news : List NodeValue) → AllZip Is qs news → (p : Channel) → has qs p ≡ true → F p
  full_by [] [] each p h = absurd cc
  full_by [] (new ∷ news) each p h = absurd each
  full_by (q ∷ qs) [] each p h = absurd each
  full_by (q ∷ qs) (new ∷ news) each p h = found_by q p qs (q == p) refl each.0.1 h (full_by qs news each.1 p)

-- ---- one node

abbrev part_of : StateValue → RunningValue → RunningValue
part_of (running r) s = r
part_of fallen s = s
part_of resting s = s
part_of (returning j) s = s

module _ (M : MissionValue) (n : ℕ) (q : Channel) (after : RunningValue) (o : Origin) (steps : List Actor) where
  abbrev Row : RunningValue → DecidedValue → List Actor → RunningValue
  Row r d s = after_steps M.rules (cycle_writes M n) n s d r

  -- a running node
  ran : (r before new : RunningValue) (d decided : DecidedValue) (s : List Actor) → before ≡ r → decided ≡ d →
      s ≡ steps →
      new ≡ Row before decided s → IsFull (origin_by M.rules (cycle_writes M n) n before.held decided) s →
      Row r d steps ≡ after → origin_by M.rules (cycle_writes M n) n r.held d ≡ o →
      (new ≡ after) × IsFull o steps
  ran r before new d decided s b e t is full a origin =
      let whole : Row before decided s ≡ after =
      ap (λ (x : RunningValue). Row x decided s) b ∙ ap (λ (x : DecidedValue). Row r x s) e ∙ ap (Row r d) t ∙ a in
      let begins : origin_by M.rules (cycle_writes M n) n before.held decided ≡ o =
      ap (λ (x : RunningValue). origin_by M.rules (cycle_writes M n) n x.held decided) b
      ∙ ap (origin_by M.rules (cycle_writes M n) n r.held) e ∙ origin in
      (is ∙ whole, subst (λ (x : List Actor). IsFull o x) t (subst (λ (x : Origin). IsFull x s) begins full))

  worked_one : (r : RunningValue) (j k : JoinerValue) (d : DecidedValue) (mode : ModeValue) (new : NodeValue) →
      r.progress.decided ≡ Some d → j ≡ k →
      Row r d steps ≡ after → origin_by M.rules (cycle_writes M n) n r.held d ≡ o →
      WorksOrStays M n (node_with M q (state_of_mode r j mode)) new → steps ≡ steps_told new →
      (new ≡ node_with M q (state_of_mode after k mode)) × (is_up mode ≡ true → IsFull o steps)
  worked_one r j k d up new had same a origin does told =
      let w : DoesWork M n (node_with M q (running r)) new = does.works r refl in
      let h : HasWorked M.rules (cycle_writes M n) n w.before w.after = w.worked in
      let b : w.before ≡ r = ap (λ (s : StateValue). part_of s r) (sym w.was) in
      let e : h.decided ≡ d = ap (λ (x : Option DecidedValue). unwrap_or x d)
      (sym h.had ∙ ap (λ (x : RunningValue). x.progress.decided) b ∙ had) in
      let t : h.steps ≡ steps =
      sym (ap (λ (x : RunningValue). unwrap_or (option_map (λ (v : WorkedValue). v.steps) x.progress.worked) [])
      h.state) ∙ sym (ap steps_told w.is) ∙ sym told in
      let both_are = ran r w.before w.after d h.decided h.steps b e t h.state h.full a origin in
      (w.is ∙ ap (λ (x : RunningValue). node_with M q (running x)) both_are.0, λ _. both_are.1)
  worked_one r j k d down new had same a origin does told = (does.stays refl, λ h. absurd cc)
  worked_one r j k d (waiting m) new had same a origin does told = (does.stays refl, λ h. absurd cc)
  worked_one r j k d joining new had same a origin does told =
      (does.stays refl ∙ ap (λ (x : JoinerValue). node_with M q (returning x)) same, λ h. absurd cc)

-- ---- the rounds

one_traced : (line : Option TraceValue) (runs : Bool) (told : TraceValue) (rest shown : List TraceValue) →
    line ≡ cond runs (Some told) None → rest ≡ shown → cons_option line rest ≡ cond runs (told ∷ shown) shown
one_traced line true told rest shown h k =
    ap (λ (o : Option TraceValue). cons_option o rest) h ∙ ap (λ (ts : List TraceValue). told ∷ ts) k
one_traced line false told rest shown h k = ap (λ (o : Option TraceValue). cons_option o rest) h ∙ k

cond_map : (h : Channel → TraceValue) (runs : Bool) (q : Channel) (qs : ChannelSet) →
    cond runs (h q ∷ map h qs) (map h qs) ≡ map h (cond runs (q ∷ qs) qs)
cond_map h true q qs = refl
cond_map h false q qs = refl

traced_of : (a : Channel → NodeValue) (runs : Channel → Bool) (h : Channel → TraceValue) →
    ((q : Channel) → trace_of (a q) ≡ cond (runs q) (Some (h q)) None) →
    (qs : ChannelSet) → filter_map trace_of (map a qs) ≡ map h (filter runs qs)
traced_of a runs h here [] = refl
traced_of a runs h here (q ∷ qs) =
    one_traced (trace_of (a q)) (runs q) (h q) (filter_map trace_of (map a qs)) (map h (filter runs qs)) (here q)
    (traced_of a runs h here qs)
    ∙ cond_map h (runs q) q (filter runs qs)

traced_by : (M : MissionValue) (q : Channel) (r : RunningValue) (j : JoinerValue) (mode : ModeValue)
    (line : TraceValue) →
    option_map (λ (w : WorkedValue). record { channel = q; steps = w.steps }) r.progress.worked ≡ Some line →
    trace_of (node_with M q (state_of_mode r j mode)) ≡ cond (is_up mode) (Some line) None
traced_by M q r j up line h = h
traced_by M q r j down line h = refl
traced_by M q r j (waiting n) line h = refl
traced_by M q r j joining line h = refl

-- ---- all nodes

abbrev pub trace_at : Steps → Channel → TraceValue
trace_at made p = record { channel = p; steps = steps_of made p }

module _ (M : MissionValue) (L : Log) (n : ℕ) (steps : Steps) (mission : IsMission M) where
  abbrev past : Past
  past = cycles_before M L n

  abbrev e : Cycle
  e = cycle_at M L n

  size : length past ≡ n
  size = length-cycles_before M L n

  abbrev Full : Steps → Channel → Type 0
  Full made q = is_up (mode_in e q Tasks) ≡ true → IsFull (due_origin M past e q) (steps_of made q)

  worked_at : (made : Steps) (q : Channel) → q < 7 → (new : NodeValue) →
      WorksOrStays M n (node_in M L n steps Tasks (stage_before Tasks) q) new → steps_of made q ≡ steps_told new →
      (new ≡ node_in M L n made Tasks (stage_after Tasks) q) × Full made q
  unfolding state_in
  worked_at made q low new does told =
      worked_one M n q (running_value_in M past e made (stage_before Vote) q) (due_origin M past e q) (steps_of made q)
      (running_value_in M past e steps (stage_before Tasks) q) (joiner_in M past e (stage_before Tasks) q)
      (joiner_in M past e (stage_before Vote) q) (kept_of e.decision e.inputs) (mode_in e q Tasks) new refl refl
      (ap (λ (c : ℕ). after_steps M.rules (cycle_writes M c) c (steps_of made q) (kept_of e.decision e.inputs)
      (running_value_in M past e steps (stage_before Tasks) q)) (sym size)
      ∙ works M L past made q (controls_follow M L n) low)
      (ap (λ (c : ℕ). origin_by M.rules (cycle_writes M c) c
      (running_value_in M past e steps (stage_before Tasks) q).held (kept_of e.decision e.inputs)) (sym size)
      ∙ origins M L past [] q (controls_follow M L n))
      does told

  low : list_all is_channel (channels_of M) ≡ true
  low = (set_parts (channels_of M) (active_is_set M [] mission)).0

  module _ (left : List NodeValue)
      (each : AllZip (WorksOrStays M n) (nodes_in M L n steps Tasks (stage_before Tasks)) left) where
    each_is : AllZip (Is (node_in M L n (made_by left) Tasks (stage_after Tasks)) (Full (made_by left))) (channels_of M)
        left
    each_is =
        each_at (WorksOrStays M n) (node_in M L n steps Tasks (stage_before Tasks)) (made_by left)
        (Is (node_in M L n (made_by left) Tasks (stage_after Tasks)) (Full (made_by left)))
        (worked_at (made_by left)) M.rules.channels 0 [] left refl low refl each

    pub all_worked : left ≡ nodes_in M L n (made_by left) Tasks (stage_after Tasks)
    all_worked = same_by (node_in M L n (made_by left) Tasks (stage_after Tasks)) (Full (made_by left)) (channels_of M)
        left each_is

    pub all_full : AreFull M past e (made_by left)
    all_full = λ p there.
        let parts = both (is_up (mode_in e p Tasks)) (has (channels_of M) p)
        (sym (has-filter (λ q. is_up (mode_in e q Tasks)) (channels_of M) p)
        ∙ ap (λ (s : ChannelSet). has s p) (up_are_running M L n Tasks mission) ∙ there) in
        full_by (node_in M L n (made_by left) Tasks (stage_after Tasks)) (Full (made_by left)) (channels_of M) left
        each_is p parts.1 parts.0

    traced : (q : Channel) → trace_of (node_in M L n (made_by left) Tasks (stage_after Tasks) q)
        ≡ cond (is_up (mode_in e q Tasks)) (Some (trace_at (made_by left) q)) None
    unfolding state_in
    traced q = traced_by M q (running_value_in M past e (made_by left) (stage_before Vote) q)
        (joiner_in M past e (stage_before Vote) q) (mode_in e q Tasks) (trace_at (made_by left) q) refl

    pub all_traced : filter_map trace_of left ≡ map (trace_at (made_by left)) (report.channels_running_in Tasks e)
    all_traced =
        ap (filter_map trace_of) all_worked
        ∙ traced_of (node_in M L n (made_by left) Tasks (stage_after Tasks)) (λ q. is_up (mode_in e q Tasks))
        (trace_at (made_by left)) traced (channels_of M)
        ∙ ap (map (trace_at (made_by left))) (up_are_running M L n Tasks mission)

-- ---- the world

has_decided : (r s : RunningValue) (j : JoinerValue) (mode : ModeValue) (d : DecidedValue) →
    r.progress.decided ≡ Some d → state_of_mode r j mode ≡ running s →
    s.progress.decided ≡ Some d
has_decided r s j up d h is = sym (ap decided_in is) ∙ h
has_decided r s j down d h is = absurd cc
has_decided r s j (waiting n) d h is = absurd cc
has_decided r s j joining d h is = absurd cc

decision_of_tasks : (M : MissionValue) (L : Log) (n : ℕ) (steps : Steps) (q : Channel) →
    HasDecision M (node_in M L n steps Tasks (stage_before Tasks) q)
unfolding state_in
decision_of_tasks M L n steps q =
    record {
      rules = refl;
      had = λ s is. (
        _,
        has_decided (running_value_in M (cycles_before M L n) (cycle_at M L n) steps (stage_before Tasks) q) s
            (joiner_in M (cycles_before M L n) (cycle_at M L n) (stage_before Tasks) q)
            (mode_in (cycle_at M L n) q Tasks) _ refl is,
      );
    }

-- all nodes may work
pub may_work_by : (old w : WorldValue) → w ≡ old →
    (earlier : Log) × (current : Log) × (steps : Steps)
    × InCycle old.mission earlier current steps Tasks (stage_after Tasks) (stage_before Tasks) old →
    All (HasDecision w.mission) w.nodes
may_work_by old w same held =
    let inside : InCycle w.mission held.0 held.1 held.2 Tasks (stage_after Tasks) (stage_before Tasks) w =
    subst (λ (x : WorldValue).
    InCycle x.mission held.0 held.1 held.2 Tasks (stage_after Tasks) (stage_before Tasks) x) (sym same) held.3 in
    subst (λ (nodes : List NodeValue). All (HasDecision w.mission) nodes) (sym inside.nodes)
    (all_nodes w.mission (HasDecision w.mission)
    (node_in w.mission (held.0 ++ held.1) w.done held.2 Tasks (stage_before Tasks)) inside.ranges
    (λ q small. decision_of_tasks w.mission (held.0 ++ held.1) w.done held.2 q))

-- the world after its nodes have worked
pub work_by : (old w : WorldValue) (earlier current : Log) (steps : Steps) (left : List NodeValue)
    (traces : List TraceValue) → w ≡ old →
    InCycle old.mission earlier current steps Tasks (stage_after Tasks) (stage_before Tasks) old →
    AllZip (WorksOrStays w.mission w.done) w.nodes left → traces ≡ filter_map trace_of left →
    HasDoneWork (made_by left) traces earlier current (record w { nodes = left })
work_by old w earlier current steps left traces same held each told =
    let M = w.mission in
    let all : Log = earlier ++ current in
    let first : InCycle M earlier current steps Tasks (stage_after Tasks) (stage_before Tasks) w =
    subst (λ (x : WorldValue).
    InCycle x.mission earlier current steps Tasks (stage_after Tasks) (stage_before Tasks) x) (sym same) held in
    let later : InCycle M earlier current (made_by left) Tasks (stage_after Tasks) (stage_before Tasks) w =
    comes_later M earlier current steps (made_by left) w first in
    let zipped : AllZip (WorksOrStays M w.done) (nodes_in M all w.done steps Tasks (stage_before Tasks)) left =
    subst (λ (nodes : List NodeValue). AllZip (WorksOrStays M w.done) nodes left) first.nodes each in
    record {
      inside = hands_by w w earlier current (made_by left) Tasks 5 4 5 left refl later
          (λ _. all_worked M all w.done steps first.ranges left zipped);
      full = all_full M all w.done steps first.ranges left zipped;
      traces_are = told ∙ all_traced M all w.done steps first.ranges left zipped;
    }
