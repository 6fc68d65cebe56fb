-- The end of a cycle: the switchboard, the nodes and the ledger after it.
use Rattle.std.proofs.Common.{◌≡◌, ℕ, zero, suc, ◌+◌, ◌<◌, Bool, true, false, List, ◌∷◌, ◌++◌, Option, None, Some, All, map, length, refl, sym, ap, subst, ◌∙◌, add-one}
use Rattle.std.specs.Prelude.{is_some, option_map}
use Rattle.std.specs.List.{list_any}
use Rattle.guards_model.specs.declared.Slot.TheVariants.{Switch}
use Rattle.guards_model.specs.Channels.{Channel, ChannelSet, has, by_channel}
use Rattle.guards_model.specs.Missions.{MissionValue}
use Rattle.guards_model.specs.Frames.{FinalValue}
use Rattle.guards_model.specs.Modes.{is_joining}
use Rattle.guards_model.specs.Ledgers.{LedgerValue, ledger_at_end, disturbed_by}
use Rattle.guards_model.specs.Network.{Log, switchboard}
use Rattle.guards_model.specs.Replicas.{with_copies}
use Rattle.guards_model.specs.Rounds.{Steps}
use Rattle.guards_model.specs.Switchboard.{switched_on, set_of}
use Rattle.guards_runs.specs.Cycles.{Past, Cycle, mode_in, is_whole, active_set, received_body, cycles_before, cycle_at}
use Rattle.guards_runs.specs.Promises.{EachCycle, HasRun, Switches}
use Rattle.guards_runs.specs.Restoration.{content_taken, replica_after, switches_after}
use Rattle.guards_laws.proofs.Agreement.{whole_run}
use Rattle.guards_laws.proofs.LogGrows.{length-cycles_before}
use Rattle.guards_laws.proofs.RunRestores.{run_restores, run_only_whole}
use Rattle.guards_laws.proofs.SwitchesFollow.{run_switches}
use Rattle.guards_nodes.specs.NodeStates.{NodeValue}
use Rattle.guards_world.specs.NodeFacts.{ledger_at, running_value_in, joiner_swept, joiner_in, state_in}
use Rattle.guards_model.specs.Settled.{SettledValue}
use Rattle.guards_model.specs.Slots.{stage_after}
use Rattle.guards_world.specs.Worlds.{WorldValue, HaltValue, settled_after}
use Rattle.guards_world.specs.InCycle.{InCycle, node_in}
use Rattle.guards_world.specs.Passing.{world_after}
use Rattle.guards_laws.proofs.CycleParts.{active-is}
use Rattle.guards_runs.specs.Disturbed.{is_charge, disturbed_channels}
use Rattle.world_laws.proofs.LedgerFollows.{ends, disturbed_are}
use Rattle.world_laws.proofs.SlotsEntered.{all_carried}
use Rattle.world_laws.proofs.LogStands.{goes_on}
use Rattle.guards_world.specs.NodeLists.{TookContent, ended_on}
use Rattle.guards_world.specs.Arrivals.{nodes_in}
use Rattle.node_laws.proofs.SlotNodes.{all_ended}
use Rattle.icn_world.proofs.Handing.{all_nodes}
use Rattle.icn_world.proofs.ContentTaken.{took_by, kept_content}
use Rattle.fault_script.specs.declared.disturbance.Disturbance.{Disturbance}
use Rattle.icn_world.specs.Stages.{IsWithinCycle}
use Rattle.icn_world.specs.Restored.{sets_at, IsRestored}
use Rattle.icn_world.specs.declared.restoring.SweepResult.{SweepResult}

-- the switches follow the active set
switches_now : (M : MissionValue) (L : Log) (n : ℕ) → EachCycle (Switches M) (cycles_before M L n) →
    switches_after M (cycles_before M L n) ≡ active_set M (cycles_before M L n)
switches_now M L zero each = refl
switches_now M L (suc n) each = each.0

some_of : {A B : Type 0} (f : A → B) (o : Option A) (x : B) → option_map f o ≡ Some x → is_some o ≡ true
some_of f None x h = absurd cc
some_of f (Some y) x h = refl

-- ---- who took a content

module _ (M : MissionValue) (earlier current : Log) (steps : Steps) (w : WorldValue)
    (inside : InCycle M earlier current steps Switch (stage_after Switch) (stage_after Switch) w) where
  abbrev n : ℕ
  n = w.done

  abbrev past : Past
  past = cycles_before M (earlier ++ current) n

  abbrev e : Cycle
  e = cycle_at M (earlier ++ current) n

  abbrev size : length past ≡ n
  size = length-cycles_before M (earlier ++ current) n

  run : HasRun M (earlier ++ current) (suc n)
  run = whole_run M (earlier ++ current) (suc n)
      (goes_on M earlier current n steps inside.before inside.unstopped inside.made inside.unhalted)

  -- the switches that stay on
  pub switches_are : (sent : List (Option ChannelSet)) (on : ChannelSet) → sent ≡ sets_at M (earlier ++ current) n →
      on ≡ switched_on w.switches sent → on ≡ active_set M (e ∷ past)
  switches_are sent on s o =
      let each : EachCycle (Switches M) (cycles_before M (earlier ++ current) (suc n)) =
      run_switches M (earlier ++ current) (suc n) inside.ranges inside.below run in
      let sets : ℕ → List (Option ChannelSet) =
      λ c. by_channel (λ j. set_of (received_body M e.entries c Switch j switchboard)) in
      o
      ∙ ap (switched_on w.switches) (s ∙ ap sets (sym size))
      ∙ ap (λ (was : ChannelSet). switched_on was (sets (length past)))
      (inside.switches ∙ sym (switches_now M (earlier ++ current) n each.1))
      ∙ each.0

  -- a channel that joins to the end takes a content just where it is whole
  pub whole_takes : (q : Channel) → is_joining (mode_in e q Switch) ≡ true →
      is_some (content_taken M q past e) ≡ is_whole q (e ∷ past)
  whole_takes q joins = by (is_whole q (e ∷ past)) refl
    where
      by : (b : Bool) → is_whole q (e ∷ past) ≡ b → is_some (content_taken M q past e) ≡ is_whole q (e ∷ past)
      by true whole =
          some_of (λ (content : FinalValue). with_copies content.copies (replica_after M q (e ∷ past)).blocks)
          (content_taken M q past e) e.ideal_context
          ((run_restores M (earlier ++ current) (suc n) inside.ranges inside.below run).0 q whole).context
          ∙ sym whole
      by false whole =
          ap (λ (o : Option FinalValue). is_some o)
          ((run_only_whole M (earlier ++ current) (suc n) inside.ranges inside.below run).0 q joins whole)
          ∙ sym whole

  abbrev AreWhole : ChannelSet → Type 0
  AreWhole taken = (q : Channel) → q < 7 → is_joining (mode_in e q Switch) ≡ true → has taken q ≡ is_whole q (e ∷ past)

  took : (taken : ChannelSet) → AreWhole taken → (q : Channel) → q < 7 →
      TookContent taken (node_in M (earlier ++ current) n steps Switch (stage_after Switch) q)
  unfolding state_in
  took taken whole q low =
      record {
        took = λ j is.
            took_by taken q (running_value_in M past e steps (stage_after Switch) q) j
            (joiner_in M past e (stage_after Switch) q) (mode_in e q Switch)
            (λ joins. whole q low joins ∙ sym (whole_takes q joins)
            ∙ sym (kept_content (content_taken M q past e) (joiner_swept M past e q) refl)) is;
      }

  -- so it is known of all nodes who took one
  pub all_took : (taken : ChannelSet) → AreWhole taken → All (TookContent taken) w.nodes
  all_took taken whole =
      subst (λ (nodes : List NodeValue). All (TookContent taken) nodes) (sym inside.nodes)
      (all_nodes M (TookContent taken) (node_in M (earlier ++ current) n steps Switch (stage_after Switch))
      inside.ranges (took taken whole))

  pub ended_nodes : (on : ChannelSet) → on ≡ active_set M (e ∷ past) →
      map (ended_on on) w.nodes ≡ (world_after M earlier current steps n w.carried).nodes
  ended_nodes on is =
      ap (map (ended_on on)) inside.nodes
      ∙ ap (λ (s : ChannelSet). map (ended_on s) (nodes_in M (earlier ++ current) n steps Switch (stage_after Switch)))
      is
      ∙ all_ended M (earlier ++ current) n steps (active_set M (e ∷ past)) inside.ranges

  pub ended_ledger : (on taken : ChannelSet) → on ≡ active_set M (e ∷ past) → AreWhole taken →
      ledger_at_end on taken w.ledger ≡ ledger_at M (e ∷ past)
  ended_ledger on taken is whole =
      ap (ledger_at_end on taken) inside.ledger
      ∙ ends M (earlier ++ current) past on taken (λ q low. ap (λ (s : ChannelSet). has s q) is) whole

-- what is known of the cycle
settled_is : (w : WorldValue) (earlier current : Log) (steps : Steps) (d : Disturbance) →
    IsWithinCycle Switch (stage_after Switch) (stage_after Switch) earlier current steps w d →
    ◌≡◌ {A = Option SettledValue}
    (Some (record { cycle = w.done; active = w.switches; disturbed = disturbed_by d.active d.charged w.ledger }))
    (settled_after (cycle_at w.mission (earlier ++ current) w.done
    ∷ cycles_before w.mission (earlier ++ current) w.done))
settled_is w earlier current steps d stands =
    let M = w.mission in
    let inside = stands.inside in
    let n = w.done in
    let e : Cycle = cycle_at M (earlier ++ current) n in
    let S : ℕ → ChannelSet → ChannelSet →
    Option SettledValue = λ c a s. Some (record { cycle = c; active = a; disturbed = s }) in
    let size : length (cycles_before M (earlier ++ current) n) ≡ n = length-cycles_before M (earlier ++ current) n in
    let charged : (q : Channel) → q < 7 → has d.charged q ≡ list_any (is_charge n Switch q) e.entries =
    λ q low. stands.charged q low
    ∙ ap (list_any (is_charge n Switch q)) (sym (all_carried M earlier current steps Switch 9 w inside)) in
    ap (λ a. S n a (disturbed_by d.active d.charged w.ledger))
    (inside.switches ∙ sym (active-is M (earlier ++ current) (cycles_before M (earlier ++ current) n)))
    ∙ ap (λ (a : ChannelSet). S n e.active (disturbed_by a d.charged w.ledger)) stands.active
    ∙ ap (λ (l : LedgerValue). S n e.active (disturbed_by e.active d.charged l)) inside.ledger
    ∙ ap (S n e.active) (disturbed_are M (earlier ++ current) n inside.ranges Switch d.charged charged)
    ∙ ap (λ c. S c e.active (disturbed_channels c e Switch)) (sym size)

-- the world after the cycle
pub ended_world : (w : WorldValue) (earlier current : Log) (steps : Steps) (sent : List (Option ChannelSet))
    (taken on : ChannelSet) (nodes : List NodeValue) (ledger : LedgerValue) (settled : Option SettledValue) →
    (inside : InCycle w.mission earlier current steps Switch (stage_after Switch) (stage_after Switch) w) →
    AreWhole w.mission earlier current steps w inside taken → sent ≡ sets_at w.mission (earlier ++ current) w.done →
    on ≡ switched_on w.switches sent → nodes ≡ map (ended_on on) w.nodes → ledger ≡ ledger_at_end on taken w.ledger →
    settled ≡ settled_after (cycle_at w.mission (earlier ++ current) w.done
    ∷ cycles_before w.mission (earlier ++ current) w.done) →
    record w { done = w.done + 1; nodes = nodes; ledger = ledger; switches = on; settled = settled }
    ≡ world_after w.mission earlier current steps w.done w.carried
ended_world w earlier current steps sent taken on nodes ledger settled inside whole sets o k l last =
    let M = w.mission in
    let past : Past = cycles_before M (earlier ++ current) w.done in
    let e : Cycle = cycle_at M (earlier ++ current) w.done in
    let is : on ≡ active_set M (e ∷ past) = switches_are M earlier current steps w inside sent on sets o in
    let W : ℕ → List NodeValue → LedgerValue → ChannelSet → Option HaltValue → WorldValue =
    λ d ns x s halt. record {
      mission = M;
      done = d;
      carried = w.carried;
      nodes = ns;
      ledger = x;
      switches = s;
      spent = halt;
      settled = settled;
    } in
    let after : WorldValue = world_after M earlier current steps w.done w.carried in
    ap (λ (d : ℕ). W d nodes ledger on w.spent) (add-one w.done)
    ∙ ap (λ (ns : List NodeValue). W (suc w.done) ns ledger on w.spent)
    (k ∙ ended_nodes M earlier current steps w inside on is)
    ∙ ap (λ (x : LedgerValue). W (suc w.done) after.nodes x on w.spent)
    (l ∙ ended_ledger M earlier current steps w inside on taken is whole)
    ∙ ap (λ (s : ChannelSet). W (suc w.done) after.nodes after.ledger s w.spent) is
    ∙ ap (W (suc w.done) after.nodes after.ledger after.switches) inside.unspent
    ∙ ap (λ (s : Option SettledValue). record after { settled = s }) last

-- ---- the same of a world that was restored

inside_of : (old w : WorldValue) (r : SweepResult) (earlier current : Log) (steps : Steps) (d : Disturbance) → w ≡ old →
    IsRestored r earlier current steps old d →
    InCycle w.mission earlier current steps Switch (stage_after Switch) (stage_after Switch) w
inside_of old w r earlier current steps d same held =
    subst (λ (x : WorldValue).
    InCycle x.mission earlier current steps Switch (stage_after Switch) (stage_after Switch) x) (sym same)
    held.stands.inside

pub may_end_by : (old w : WorldValue) (r : SweepResult) → w ≡ old → (d : Disturbance) →
    (earlier : Log) × (current : Log) × (steps : Steps) × IsRestored r earlier current steps old d →
    All (TookContent r.taken) w.nodes
may_end_by old w r same d held =
    let restored : IsRestored r held.0 held.1 held.2 w d =
    subst (λ (x : WorldValue). IsRestored r held.0 held.1 held.2 x d) (sym same) held.3 in
    all_took w.mission held.0 held.1 held.2 w restored.stands.inside r.taken restored.taken_are

pub ends_by : (old w : WorldValue) (r : SweepResult) (earlier current : Log) (steps : Steps) (d : Disturbance)
    (on board : ChannelSet) (nodes : List NodeValue) (ledger : LedgerValue) (set was : ChannelSet) →
    w ≡ old → IsRestored r earlier current steps old d → board ≡ switched_on w.switches r.sent → on ≡ board →
    nodes ≡ map (ended_on on) w.nodes → ledger ≡ ledger_at_end on r.taken w.ledger →
    set ≡ disturbed_by d.active d.charged w.ledger → was ≡ w.switches →
    record w {
      done = w.done + 1;
      nodes = nodes;
      ledger = ledger;
      switches = board;
      settled = Some (record { cycle = w.done; active = was; disturbed = set });
    }
    ≡ world_after old.mission earlier current steps old.done old.carried
ends_by old w r earlier current steps d on board nodes ledger set was same held o is k l s t =
    let restored : IsRestored r earlier current steps w d =
    subst (λ (x : WorldValue). IsRestored r earlier current steps x d) (sym same) held in
    let last : Option SettledValue = Some (record { cycle = w.done; active = was; disturbed = set }) in
    let S : ChannelSet → ChannelSet →
    Option SettledValue = λ y x. Some (record { cycle = w.done; active = y; disturbed = x }) in
    ap (λ (s : ChannelSet). record w {
      done = w.done + 1;
      nodes = nodes;
      ledger = ledger;
      switches = s;
      settled = last;
    }) (sym is)
    ∙ ended_world w earlier current steps r.sent r.taken on nodes ledger last restored.stands.inside restored.taken_are
    restored.sent_are (is ∙ o) k l
    (ap (S was) s ∙ ap (λ (y : ChannelSet). S y (disturbed_by d.active d.charged w.ledger)) t
    ∙ settled_is w earlier current steps d restored.stands)
    ∙ ap (λ (x : WorldValue). world_after x.mission earlier current steps x.done x.carried) same
