-- A cycle whose slots are all done is finished; one that stopped, or broke off, is not.
use Rattle.std.proofs.Common.{◌≡◌, ℕ, zero, suc, ◌+◌, ◌≤◌, ◌<◌, Bool, true, false, ◌||◌, ◌∷◌, ◌++◌, length, map, Option, None, Some, refl, sym, ap, subst, ◌∙◌, arith}
use Rattle.std.specs.Prelude.{Ok, Err, IsTrue, option_map, option_and_then, slice_get}
use Rattle.std.specs.List.{AllZip, AllByRecursion, range_with_len}
use Rattle.guards_model.specs.declared.Slot.TheVariants.{Tasks, Switch}
use Rattle.guards_model.specs.Slots.{slot_index, stage_after}
use Rattle.guards_model.specs.Channels.{Channel, ChannelSet, has, without}
use Rattle.guards_model.specs.Missions.{MissionValue}
use Rattle.guards_model.specs.Frames.{FinalValue}
use Rattle.guards_model.specs.Modes.{ModeValue, up, down, waiting, joining, is_up, mode_at_end}
use Rattle.guards_model.specs.Network.{Log}
use Rattle.guards_model.specs.Records.{shown}
use Rattle.guards_model.specs.Replicas.{with_copies}
use Rattle.guards_model.specs.Rounds.{Steps, steps_of}
use Rattle.guards_model.specs.Texts.{RecordValue, StopValue}
use Rattle.guards_model.specs.Transfers.{start_of}
use Rattle.guards_model.proofs.BoolTests.{both, or_left, differ}
use Rattle.guards_model.proofs.Counting.{has-without}
use Rattle.guards_model.proofs.Tables.{has-filter, has-channels_where}
use Rattle.guards_runs.specs.Cycles.{Past, Cycle, active_set, cycles_before, cycle_at, is_whole, joins_since, mode_in, mode_after}
use Rattle.guards_runs.specs.Disturbed.{stop_in}
use Rattle.guards_runs.specs.Due.{IsMadeBy, AreMadeBy, cycle_carries}
use Rattle.guards_runs.specs.Promises.{HasRun}
use Rattle.guards_runs.specs.Report.{cycle_record, channels_running_in}
use Rattle.guards_runs.specs.Restoration.{context_taken, content_taken, replica_after}
use Rattle.guards_runs.specs.Soundness.{IsSoundCycle}
use Rattle.guards_laws.proofs.Agreement.{whole_run}
use Rattle.guards_laws.proofs.CycleParts.{active-is, up-is}
use Rattle.guards_laws.proofs.LogGrows.{length-cycles_before}
use Rattle.guards_laws.proofs.OnlyRise.{up_active}
use Rattle.guards_laws.proofs.RunIsSound.{main_theorem}
use Rattle.guards_laws.proofs.StayActive.{joined_passive}
use Rattle.guards_laws.proofs.WithinChannels.{active_within, channels_few}
use Rattle.guards_nodes.specs.NodeStates.{NodeValue, StateValue, WorkedValue, running, returning}
use Rattle.guards_nodes.specs.NodeSteps.{with_content}
use Rattle.guards_world.specs.NodeFacts.{node_with, state_in, state_of_mode, running_value_in as running_state, joiner_in, joiner_swept, worked_in}
use Rattle.guards_world.specs.SlotSteps.{ended_state}
use Rattle.guards_world.specs.InCycle.{InCycle}
use Rattle.guards_world.specs.Worlds.{WorldValue, StandsForWorld, disturbed, no_memory}
use Rattle.guards_world.specs.WorldCycle.{AreFull, HasTrail, IsLinePadded, Ends, context_of, worked_of, node_of}
use Rattle.node_laws.proofs.Opening.{active_in}
use Rattle.guards_world.specs.Passing.{world_after, IsStopIn, IsFront}
use Rattle.world_laws.proofs.LogStands.{world_goes_on, is_run}

-- a place in a list of what numbers are mapped to
place_of : {A : Type 0} (f : ℕ → A) (a n k : ℕ) → k < n → slice_get (map f (range_with_len a n)) k ≡ Some (f (a + k))
place_of f a zero k low = absurd (omega (arith, low))
place_of f a (suc n) zero low = ap (λ x. Some (f x)) (here a)
  where
    here : (a : ℕ) → a ≡ a + 0
    here a = omega arith
place_of f a (suc n) (suc k) low = place_of f (a + 1) n k (omega (arith, low)) ∙ ap (λ x. Some (f x)) (next a k)
  where
    next : (a k : ℕ) → a + 1 + k ≡ a + suc k
    next a k = omega arith

from_zero : (k : ℕ) → 0 + k ≡ k
from_zero k = omega arith

-- a channel that is declared joined, and up afterwards, was joining: it was no active one
rose : (k : ℕ) (on : Bool) (m : ModeValue) → is_up (mode_at_end k on true m) ≡ true → (m ≡ up → ⊥) → m ≡ joining
rose k on up h none = absurd (none refl)
rose k on down h none = absurd cc
rose k on (waiting n) h none = absurd cc
rose k on joining h none = refl

module _ (M : MissionValue) (earlier current : Log) (steps : Steps) (w : WorldValue)
    (inside : InCycle M earlier current steps Switch (stage_after Switch) (stage_after Switch) w) where
  abbrev n : ℕ
  n = w.done

  abbrev past : Past
  past = cycles_before M (earlier ++ current) n

  abbrev e : Cycle
  e = cycle_at M (earlier ++ current) n

  abbrev after : WorldValue
  after = world_after M earlier current steps n w.carried

  abbrev on : Channel → Bool
  on q = has (active_set M (e ∷ past)) q

  abbrev node : Channel → NodeValue
  node q = node_with M q (ended_state (on q) (state_in M past e steps Switch (stage_after Switch) q))

  stands : StandsForWorld after (earlier ++ current)
  stands = world_goes_on M earlier current steps w inside

  run : HasRun M (earlier ++ current) (suc n)
  run = whole_run M (earlier ++ current) (suc n) (is_run after (earlier ++ current) stands)

  sound : IsSoundCycle M past e
  sound = (main_theorem M (earlier ++ current) (suc n) inside.ranges inside.below run).cycles.0

  made : AreMadeBy M steps past e current
  made = subst (λ c. AllZip (λ carry entry. IsMadeBy M past e (steps_of steps carry.from) carry entry)
      (cycle_carries c e) current) (sym (length-cycles_before M (earlier ++ current) n)) inside.made

  node_there : (q : Channel) → q < M.rules.channels → node_of after q ≡ Some (node q)
  node_there q low = place_of node 0 M.rules.channels q low ∙ ap (λ k. Some (node k)) (from_zero q)

  -- ---- who goes on running

  abbrev ended_in : Channel → ModeValue → StateValue
  ended_in q m = ended_state (on q)
      (state_of_mode (running_state M past e steps 9 q) (joiner_in M past e (stage_after Switch) q) m)

  node_in_mode : (q : Channel) (m : ModeValue) → mode_in e q Switch ≡ m → node q ≡ node_with M q (ended_in q m)
  unfolding state_in
  node_in_mode q m is = ap (λ x. node_with M q (ended_in q x)) is

  stays_on : (q : Channel) → has e.active q ≡ true → has e.removed q ≡ false → q < 7 → on q ≡ true
  stays_on q active kept low =
      has-channels_where (λ p. has (without e.active e.removed) p || has e.joined p) q low
      ∙ or_left (has (without e.active e.removed) q) (has e.joined q) (has-without e.active e.removed q active kept)

  trail : (q : Channel) → IsTrue (has (channels_running_in Switch e) q) → has e.removed q ≡ false →
      HasTrail after q n (steps_of steps q)
  trail q runs kept =
      let parts = both (is_up (mode_in e q Switch)) (has e.active q)
      (sym (has-filter (λ p. is_up (mode_in e p Switch)) e.active q) ∙ runs) in
      let low : q < M.rules.channels =
      active_within M (earlier ++ current) n q
      (sym (ap (λ (s : ChannelSet). has s q) (active-is M (earlier ++ current) past)) ∙ parts.1) in
      let few : M.rules.channels ≤ 7 = channels_few M inside.ranges in
      let worked : WorkedValue = worked_in M past e steps q in (
        worked,
        ap (option_and_then worked_of) (node_there q low)
            ∙ ap worked_of (node_in_mode q up (up-is (mode_in e q Switch) parts.0))
            ∙ ap (λ b. worked_of (node_with M q (ended_state b (running (running_state M past e steps 9 q)))))
            (stays_on q parts.1 kept (omega (arith, low, few))),
        length-cycles_before M (earlier ++ current) n,
        refl,
      )

  -- ---- who rises

  held_by : (q : Channel) (content : Option FinalValue) →
      context_of (node_with M q (ended_state (on q) (returning (with_content content (joiner_swept M past e q)))))
      ≡ option_map (λ (x : FinalValue). with_copies x.copies (replica_after M q (e ∷ past)).blocks) content
  held_by q None = refl
  held_by q (Some content) = refl

  taken : (q : Channel) → IsTrue (is_whole q (e ∷ past)) →
      option_and_then context_of (node_of after q) ≡ context_taken M q past e
  taken q whole =
      let joined : has e.joined q ≡ true =
      (both (has e.joined q) (joins_since q (start_of e.transfer) (e ∷ past)) whole).0 in
      let rises : is_up (mode_after M (e ∷ past) q) ≡ true = sound.only_whole_rise q joined ∙ whole in
      let low : q < M.rules.channels =
      active_within M (earlier ++ current) (suc n) q
      (up_active M (earlier ++ current) inside.ranges (suc n) q (up-is (mode_after M (e ∷ past) q) rises)) in
      let few : M.rules.channels ≤ 7 = channels_few M inside.ranges in
      let was : mode_in e q Switch ≡ joining =
      rose M.return_after (on q) (mode_in e q Switch)
      (ap (λ b. is_up (mode_at_end M.return_after (on q) b (mode_in e q Switch))) (sym whole) ∙ rises)
      (λ is. differ (sym (active_in M (earlier ++ current) n inside.ranges q (omega (arith, low, few)) Switch is)
      ∙ joined_passive M (earlier ++ current) n q joined)) in
      ap (option_and_then context_of) (node_there q low)
      ∙ ap context_of (node_in_mode q joining was)
      ∙ held_by q (content_taken M q past e)

-- ---- the three ends, of a cycle that an earlier world began

-- the world within the cycle, with the mission and the count of the earlier one
abbrev as_old : WorldValue → WorldValue → WorldValue
as_old old w = record w { mission = old.mission; done = old.done }

same_world : (old w : WorldValue) → w.mission ≡ old.mission → w.done ≡ old.done → w ≡ as_old old w
same_world old w mission done =
    ap (λ (M : MissionValue). record w { mission = M }) mission
    ∙ ap (λ (n : ℕ). record w { mission = old.mission; done = n }) done

pub finishes : (old w new : WorldValue) (earlier current : Log) (steps : Steps) (part : RecordValue) →
    w.mission ≡ old.mission → w.done ≡ old.done →
    InCycle w.mission earlier current steps Switch (stage_after Switch) (stage_after Switch) w →
    AreFull w.mission (cycles_before w.mission (earlier ++ current) w.done)
    (cycle_at w.mission (earlier ++ current) w.done) steps →
    shown w.mission.rules.channels w.mission.width (length w.mission.outputs) part
    ≡ cycle_record w.mission steps w.done (cycle_at w.mission (earlier ++ current) w.done) →
    AllByRecursion (IsLinePadded w.mission) part.lines →
    new ≡ world_after w.mission earlier current steps w.done w.carried → Ends old earlier current (Ok part) new
finishes old w new earlier current steps part mission done inside full record_is padded new_is =
    let M = old.mission in
    let same = same_world old w mission done in
    let x = as_old old w in
    let within : InCycle M earlier current steps Switch (stage_after Switch) (stage_after Switch) x =
    subst (λ (v : WorldValue).
    InCycle v.mission earlier current steps Switch (stage_after Switch) (stage_after Switch) v) same inside in
    let ends : world_after M earlier current steps old.done w.carried ≡ new =
    sym (new_is ∙ ap (λ (v : WorldValue). world_after v.mission earlier current steps v.done v.carried) same) in (
      cycle_at M (earlier ++ current) old.done,
      cycles_before M (earlier ++ current) old.done,
      record {
        past_is = refl;
        facts = refl;
        steps = steps;
        due = made M earlier current steps x within;
        full = subst (λ (v : WorldValue).
            AreFull v.mission (cycles_before v.mission (earlier ++ current) v.done)
            (cycle_at v.mission (earlier ++ current) v.done) steps) same full;
        padded = subst (λ (v : WorldValue). AllByRecursion (IsLinePadded v.mission) part.lines) same padded;
        record_is = subst (λ (v : WorldValue).
            shown v.mission.rules.channels v.mission.width (length v.mission.outputs) part
            ≡ cycle_record v.mission steps v.done (cycle_at v.mission (earlier ++ current) v.done)) same record_is;
        mission = sym (ap (λ (v : WorldValue). v.mission) ends);
        done = sym (ap (λ (v : WorldValue). v.done) ends);
        spent = sym (ap (λ (v : WorldValue). v.spent) ends);
        stands = subst (λ (v : WorldValue). StandsForWorld v (earlier ++ current)) ends
            (stands M earlier current steps x within);
        sound = sound M earlier current steps x within;
        trails = λ q runs kept. subst (λ (v : WorldValue). HasTrail v q old.done (steps_of steps q)) ends
            (trail M earlier current steps x within q runs kept);
        taken = λ q whole. subst (λ (v : WorldValue). option_and_then context_of (node_of v q)
            ≡ context_taken M q (cycles_before M (earlier ++ current) old.done)
            (cycle_at M (earlier ++ current) old.done)) ends (taken M earlier current steps x within q whole);
      },
    )

pub stops : (old w new : WorldValue) (earlier current : Log) (steps : Steps) (stop : StopValue) →
    w.mission ≡ old.mission → w.done ≡ old.done →
    IsStopIn w.mission earlier current w.done steps stop.slot →
    stop_in w.done (cycle_at w.mission (earlier ++ current) w.done) ≡ Some stop →
    (slot_index Tasks < slot_index stop.slot →
    AreFull w.mission (cycles_before w.mission (earlier ++ current) w.done)
    (cycle_at w.mission (earlier ++ current) w.done) steps) →
    new.mission ≡ w.mission → new.done ≡ w.done → new.spent ≡ Some (disturbed stop) →
    Ends old earlier current (Err (disturbed stop)) new
stops old w new earlier current steps stop mission done halts stop_is full kept count spent =
    let M = old.mission in
    let same = same_world old w mission done in
    let within : IsStopIn M earlier current old.done steps stop.slot =
    subst (λ (v : WorldValue). IsStopIn v.mission earlier current v.done steps stop.slot) same halts in (
      cycle_at M (earlier ++ current) old.done,
      cycles_before M (earlier ++ current) old.done,
      record {
        past_is = refl;
        facts = refl;
        steps = steps;
        due = within.due;
        full = λ passed. subst (λ (v : WorldValue).
            AreFull v.mission (cycles_before v.mission (earlier ++ current) v.done)
            (cycle_at v.mission (earlier ++ current) v.done) steps) same (full passed);
        stop_is = subst (λ (v : WorldValue). stop_in v.done (cycle_at v.mission (earlier ++ current) v.done)
            ≡ Some stop) same stop_is;
        before = within.before;
        mission = kept ∙ mission;
        done = count ∙ done;
        spent = spent;
      },
    )

pub runs_out : (old w new : WorldValue) (earlier current : Log) → w.mission ≡ old.mission → w.done ≡ old.done →
    IsFront w.mission earlier current w.done →
    new.mission ≡ w.mission → new.done ≡ w.done → new.spent ≡ Some no_memory →
    Ends old earlier current (Err no_memory) new
runs_out old w new earlier current mission done front kept count spent =
    let M = old.mission in
    let same = same_world old w mission done in (
      cycle_at M (earlier ++ current) old.done,
      cycles_before M (earlier ++ current) old.done,
      record {
        past_is = refl;
        facts = refl;
        due = subst (λ (v : WorldValue). IsFront v.mission earlier current v.done) same front;
        mission = kept ∙ mission;
        done = count ∙ done;
        spent = spent;
      },
    )
