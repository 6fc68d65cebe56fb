-- The log that stands for a world: at the start, and after a cycle.
use Rattle.std.proofs.Common.{◌≡◌, ℕ, suc, ◌≤◌, ◌<◌, ◌==◌, Bool, true, false, ◌||◌, [], ◌∷◌, ◌++◌, length, None, refl, sym, ap, subst, ◌∙◌, eq-eqb, arith}
use Rattle.std.specs.Prelude.{map, find, option_map}
use Rattle.std.specs.List.{AllZip, list_all}
use Rattle.std.proofs.lemmas.Bool.{leb-true}
use Rattle.guards_model.specs.declared.Slot.{Slot}
use Rattle.guards_model.specs.declared.Slot.TheVariants.{Request, Round1, Round2, Round3, Tasks, Vote, Sweep, Final, Switch}
use Rattle.guards_model.specs.Slots.{slot_index, every_slot, stage_after}
use Rattle.guards_model.specs.Channels.{Channel, ChannelSet, has}
use Rattle.guards_model.specs.Missions.{MissionValue, IsMission, channels_of}
use Rattle.guards_model.specs.Network.{Log}
use Rattle.guards_model.specs.Rounds.{Steps, steps_of}
use Rattle.guards_model.specs.Controls.{first_control}
use Rattle.guards_runs.specs.Cycles.{Past, Cycle, active_set, next_cycle, cycles_before}
use Rattle.guards_runs.specs.Disturbed.{disturbed_channels, halts, first_of_two, stop_in, stop_of}
use Rattle.guards_runs.specs.Due.{IsMadeBy, AreMadeBy, AreDue, cycle_carries}
use Rattle.guards_runs.specs.Promises.{IsRun}
use Rattle.guards_model.specs.Frames.{is_channel}
use Rattle.guards_model.proofs.BoolTests.{or_true, both}
use Rattle.guards_model.proofs.AscendingLists.{set_parts}
use Rattle.guards_laws.proofs.WithinChannels.{active_is_set}
use Rattle.guards_laws.proofs.LogGrows.{length-cycles_before}
use Rattle.guards_laws.proofs.Agreement.{whole_run}
use Rattle.guards_world.specs.SlotSteps.{ended_state}
use Rattle.guards_world.specs.InCycle.{InCycle}
use Rattle.guards_world.specs.Passing.{world_after}
use Rattle.node_laws.proofs.Ending.{ends}
use Rattle.std.proofs.lemmas.List.{length-append}
use Rattle.guards_laws.proofs.MadeEntries.{made_are_due}
use Rattle.guards_nodes.specs.NodeStates.{NodeValue, without_progress}
use Rattle.guards_nodes.specs.NodeCalls.{first_node}
use Rattle.guards_world.specs.NodeFacts.{node_at, node_with, state_in}
use Rattle.guards_world.specs.Worlds.{WorldValue, StandsForWorld, first_world}

-- ---- the start

first_is : (M : MissionValue) (q : Channel) → has (channels_of M) q ≡ true →
    without_progress (first_node M q) ≡ node_at M [] q
unfolding first_control
first_is M q h = rw h refl

firsts : (M : MissionValue) (qs : ChannelSet) → ((q : Channel) → has qs q ≡ true → has (channels_of M) q ≡ true) →
    map without_progress (map (first_node M) qs) ≡ map (node_at M []) qs
firsts M [] all = refl
firsts M (q ∷ qs) all =
    let here = first_is M q (all q (ap (λ s. s || has qs q) (eq-eqb q q refl))) in
    rw (here, firsts M qs (λ p h. all p (or_true (q == p) (has qs p) h))) refl

pub first_stands : (M : MissionValue) → IsMission M → StandsForWorld (first_world M) []
first_stands M ranges =
    record {
      mission = ranges;
      cycles = omega arith;
      count = refl;
      due = refl;
      unstopped = refl;
      nodes = firsts M (channels_of M) (λ q h. h);
      ledger = refl;
      switches = refl;
      settled = refl;
    }

-- ---- what stands for a world is a run

pub is_run : (w : WorldValue) (L : Log) → StandsForWorld w L → IsRun w.mission L w.done
is_run w L stands = record { due = stands.due; unstopped = stands.unstopped }

-- ---- after a cycle

none_found : (p : Slot → Bool) → ((s : Slot) → slot_index s < 9 → p s ≡ false) → find p every_slot ≡ None
none_found p each =
    rw (
      each Request (omega arith),
      each Round1 (omega arith),
      each Round2 (omega arith),
      each Round3 (omega arith),
      each Tasks (omega arith),
      each Vote (omega arith),
      each Sweep (omega arith),
      each Final (omega arith),
      each Switch (omega arith),
    )
    refl

none_stops : (c : ℕ) (x : Cycle) → ((s : Slot) → slot_index s < 9 → halts c x s ≡ false) → stop_in c x ≡ None
none_stops c x each = ap (option_map
    (λ slot. record { cycle = c; slot = slot; set = disturbed_channels c x slot; active = x.active }))
    (none_found (halts c x) each)

module _ (M : MissionValue) (earlier current : Log) (n : ℕ) (steps : Steps) where
  abbrev past : Past
  past = cycles_before M (earlier ++ current) n

  abbrev e : Cycle
  e = next_cycle M (earlier ++ current) past

  not_stopped : ((s : Slot) → slot_index s < 9 → halts n e s ≡ false) → length past ≡ n → stop_in (length past) e ≡ None
  not_stopped each size = subst (λ c. stop_in c e ≡ None) (sym size) (none_stops n e each)

  -- the entries are a run of one cycle more
  pub goes_on : AreDue M past earlier → stop_of past ≡ None →
      AllZip (λ carry entry. IsMadeBy M past e (steps_of steps carry.from) carry entry) (cycle_carries n e) current →
      ((s : Slot) → slot_index s < 9 → halts n e s ≡ false) → IsRun M (earlier ++ current) (suc n)
  goes_on before unstopped all_made each =
      let size = length-cycles_before M (earlier ++ current) n in
      let made : AreMadeBy M steps past e current =
      subst (λ c. AllZip (λ carry entry. IsMadeBy M past e (steps_of steps carry.from) carry entry) (cycle_carries c e)
      current) (sym size) all_made in
      record {
        due = (earlier, current, refl, before, made_are_due M steps past e current made);
        unstopped = ap (λ s. first_of_two s (stop_in (length past) e)) unstopped ∙ not_stopped each size;
      }

  abbrev node_ended : Channel → NodeValue
  node_ended q = node_with M q
      (ended_state (has (active_set M (e ∷ past)) q) (state_in M past e steps Switch (stage_after Switch) q))

  each_node : IsMission M → suc n ≤ M.cycles → IsRun M (earlier ++ current) (suc n) → (qs : ChannelSet) →
      list_all is_channel qs ≡ true →
      map without_progress (map node_ended qs) ≡ map (node_at M (e ∷ past)) qs
  each_node mission more run [] low = refl
  each_node mission more run (q ∷ qs) low =
      let parts = both (is_channel q) (list_all is_channel qs) low in
      let here : without_progress (node_ended q) ≡ node_at M (e ∷ past) q =
      ap (node_with M q) (ends M (earlier ++ current) n steps q mission more
      (whole_run M (earlier ++ current) (suc n) run) (leb-true (suc q) 7 parts.0)) in
      ap (λ x. x ∷ map without_progress (map node_ended qs)) here
      ∙ ap (λ xs. node_at M (e ∷ past) q ∷ xs) (each_node mission more run qs parts.1)

  pub nodes_end : IsMission M → suc n ≤ M.cycles → IsRun M (earlier ++ current) (suc n) →
      map without_progress (map node_ended (channels_of M)) ≡ map (node_at M (e ∷ past)) (channels_of M)
  nodes_end mission more run =
      each_node mission more run (channels_of M) (set_parts (channels_of M) (active_is_set M [] mission)).0

pub world_goes_on : (M : MissionValue) (earlier current : Log) (steps : Steps) (w : WorldValue) →
    InCycle M earlier current steps Switch (stage_after Switch) (stage_after Switch) w →
    StandsForWorld (world_after M earlier current steps w.done w.carried) (earlier ++ current)
world_goes_on M earlier current steps w inside =
    let run : IsRun M (earlier ++ current) (suc w.done) =
    goes_on M earlier current w.done steps inside.before inside.unstopped inside.made inside.unhalted in
    record {
      mission = inside.ranges;
      cycles = inside.below;
      count = length-append earlier current ∙ sym inside.count;
      due = run.due;
      unstopped = run.unstopped;
      nodes = nodes_end M earlier current w.done steps inside.ranges inside.below run;
      ledger = refl;
      switches = refl;
      settled = refl;
    }
