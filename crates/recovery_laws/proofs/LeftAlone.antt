-- An undisturbed channel is left alone, and one that was so since it last became active has a count of 0.
use Rattle.std.proofs.Common.{◌≡◌, ℕ, zero, suc, ◌*◌, ◌/◌, ◌<◌, ◌≤◌, Bool, true, false, cond, not, ◌&&◌, ◌||◌, [], ◌∷◌, length, refl, sym, ap, subst, ◌∙◌, ◌⊎◌, inl, inr, arith}
use Rattle.std.specs.Prelude.{⊤, nat_le, is_none, None}
use Rattle.std.proofs.lemmas.Bool.{leb-false, lt-leb, or_cases}
use Rattle.guards_model.specs.declared.Law.{Law}
use Rattle.guards_model.specs.declared.Law.TheVariants.{Multiply, Subtract}
use Rattle.guards_model.specs.declared.Slot.TheVariants.{Request, Round3, Switch}
use Rattle.guards_model.specs.Channels.{Channel, ChannelSet, has, place_or, by_channel, without}
use Rattle.guards_model.specs.Missions.{MissionValue, IsMission}
use Rattle.guards_model.specs.Frames.{SourceValue}
use Rattle.guards_model.specs.Network.{Log, have_of}
use Rattle.guards_model.specs.Decisions.{request_code}
use Rattle.guards_model.specs.Diagnosis.{decayed, enough_tell, enough_heard, asks}
use Rattle.guards_model.specs.Modes.{ModeValue, up, down, waiting, joining, is_up, is_joining}
use Rattle.guards_runs.specs.Cycles.{Past, Cycle, mode_in, active_set, accused_before, heard_before, source_word, received_body, cycles_before, next_cycle}
use Rattle.guards_runs.specs.Disturbed.{disturbed_channels}
use Rattle.guards_runs.specs.Due.{is_sender}
use Rattle.guards_runs.specs.Promises.{is_undisturbed, was_undisturbed_or_absent, EachCycle, HasRun}
use Rattle.guards_model.proofs.Tables.{at-by_channel, has-filter, has-channels_where}
use Rattle.guards_model.proofs.BoolTests.{differ, both, and_true, or_left, clear_or, second_false, not_true}
use Rattle.guards_model.proofs.Counting.{not_false}
use Rattle.guards_model.proofs.SettledWords.{not_many_tell}
use Rattle.guards_laws.proofs.DueEntries.{IsDueNow, run_due}
use Rattle.guards_model.specs.declared.Slot.{Slot}
use Rattle.guards_model.specs.Slots.{up_to, on_bus}
use Rattle.guards_laws.proofs.HeldIdeal.{up_on_bus}
use Rattle.guards_laws.proofs.Votes.{fine_not_accused, passive_not_accused}
use Rattle.guards_laws.proofs.CarriedEntries.{carried_whole}
use Rattle.guards_laws.proofs.Deliveries.{Unhalted, unhalted}
use Rattle.guards_laws.proofs.RunFacts.{IsPart, IsCycle, low_channel}
use Rattle.guards_laws.proofs.Received.{undisturbed_parts, not_disturbed}
use Rattle.guards_laws.proofs.CycleParts.{active-is, judged-is, heard-is, up_in_slot}
use Rattle.guards_laws.proofs.AgreedWords.{settled_now, agreed_sent}
use Rattle.guards_laws.proofs.Agreement.{run_cycles}
use Rattle.guards_laws.proofs.Planned.{ranges}
use Rattle.recovery_laws.specs.Diagnosed.{is_spotless, IsLeftAlone, LeavesAlone, SparesSpotless}
use Rattle.recovery_laws.proofs.Senders.{at_cycle, nothing_of}
use Rattle.recovery_laws.proofs.Judgement.{stepped, before-are, fresh-is, not_removed, decayed_no_higher}

up_not_joining : (m : ModeValue) → is_up m ≡ true → is_joining m ≡ false
up_not_joining up h = refl
up_not_joining down h = absurd cc
up_not_joining (waiting n) h = absurd cc
up_not_joining joining h = absurd cc

quiet_cases : (a b : Bool) → (not a || b) ≡ true → (a ≡ false) ⊎ ((a ≡ true) × (b ≡ true))
quiet_cases true b h = inr (refl, h)
quiet_cases false b h = inl refl

quiet_of : (a b s : Bool) → (not a || (b && s)) ≡ true → (not a || b) ≡ true
quiet_of true true s h = refl
quiet_of true false s h = absurd cc
quiet_of false b s h = refl

-- what is left of 0
nothing_left : (law : Law) (keep decrement : ℕ) → decayed law keep decrement 0 ≡ 0
nothing_left Multiply keep decrement = let none : 0 * keep ≡ 0 = omega arith in ap (λ x. x / 65536) none
nothing_left Subtract keep decrement = omega arith

-- who is active afterwards and was not, has joined
pub joined_if_new : (M : MissionValue) (past : Past) (e : Cycle) (q : Channel) → q < 7 →
    has (active_set M (e ∷ past)) q ≡ true → has e.active q ≡ false → has e.joined q ≡ true
joined_if_new M past e q low there new =
    elim (or_cases (has (without e.active e.removed) q) (has e.joined q)
    (sym (has-channels_where (λ q. has (without e.active e.removed) q || has e.joined q) q low) ∙ there)) [
      | inl stayed ↦ differ (sym
          (both (not (has e.removed q)) (has e.active q)
          (sym (has-filter (λ q. not (has e.removed q)) e.active q) ∙ stayed)).1 ∙ new)
      | inr joined ↦ joined
    ]

-- what was active and is not joined
active_if_old : (M : MissionValue) (past : Past) (e : Cycle) (j : Channel) → j < 7 →
    has (active_set M (e ∷ past)) j ≡ true → has e.joined j ≡ false → has e.active j ≡ true
active_if_old M past e j low there old =
    elim (or_cases (has (without e.active e.removed) j) (has e.joined j)
    (sym (has-channels_where (λ q. has (without e.active e.removed) q || has e.joined q) j low) ∙ there)) [
      | inl stayed ↦ (both (not (has e.removed j)) (has e.active j)
          (sym (has-filter (λ q. not (has e.removed q)) e.active j) ∙ stayed)).1
      | inr joined ↦ differ (sym joined ∙ old)
    ]

-- who is active and not removed stays active
stays_active : (M : MissionValue) (past : Past) (e : Cycle) (q : Channel) → q < 7 → has e.active q ≡ true →
    has e.removed q ≡ false → has (active_set M (e ∷ past)) q ≡ true
stays_active M past e q low there stays =
    has-channels_where (λ q. has (without e.active e.removed) q || has e.joined q) q low
    ∙ or_left (has (without e.active e.removed) q) (has e.joined q)
    (has-filter (λ q. not (has e.removed q)) e.active q
    ∙ and_true (not (has e.removed q)) (has e.active q) (not_false (has e.removed q) stays) there)

-- in the cycle before a channel sent no request
abbrev DidNotAsk : Past → Channel → Type 0
DidNotAsk [] q = ⊤
DidNotAsk (e ∷ past) q = is_sender e Request q ≡ false

module _ (M : MissionValue) (L : Log) (n : ℕ) (mission : IsMission M) (early : n ≤ M.cycles) (run : HasRun M L n) where
  abbrev past : ℕ → Past
  past m = cycles_before M L m

  abbrev now : ℕ → Cycle
  now m = next_cycle M L (cycles_before M L m)

  cycle : (m : ℕ) → m < n → IsCycle M L m
  cycle m low = run_cycles M L n mission early run m low

  due : (m : ℕ) → m < n → IsDueNow M (past m) (now m)
  due m low = at_cycle M L (IsDueNow M) n m (run_due M L n run) low

  pub low_at : (m : ℕ) → m < n → (q : Channel) → has (now m).active q ≡ true → q < 7
  low_at m soon q there = low_channel M L m Switch (cycle m soon) q there

  -- the cycle up to the end of a slot
  part : (m : ℕ) → m < n → (last : Slot) → on_bus last ≡ true → up_to Round3 last ≡ true → IsPart M L m last
  part m soon last on over =
      record {
        mission = mission;
        early = omega (arith, soon, early);
        over = over;
        due = carried_whole M (past m) (now m) last (due m soon);
        few = leb-false (length (now m).active) (3 * length (disturbed_channels (length (past m)) (now m) last))
            (at_cycle M L Unhalted n m (unhalted (past n) run.unstopped) soon last on);
      }

  -- ---- accusations

  not_accused : (m : ℕ) → m < n → (q j : Channel) → was_undisturbed_or_absent (past (suc m)) q ≡ true →
      has (now m).active j ≡ true → has (place_or (now m).accusations j []) q ≡ false
  not_accused m soon q j quiet member =
      elim (quiet_cases (has (now m).active q) (is_undisturbed (length (past m)) (now m) q) quiet) [
        | inl passive ↦ passive_not_accused M L m Switch (cycle m soon) refl j q member passive
        | inr fine ↦ fine_not_accused M L m Switch (cycle m soon) refl j q member fine.0
            (undisturbed_parts (length (past m)) (now m) q fine.1).1
      ]

  pub none_accuse : (m : ℕ) → m < n → (q j : Channel) → was_undisturbed_or_absent (past m) q ≡ true →
      has (now m).active j ≡ true → has (accused_before (past m) j) q ≡ false
  none_accuse zero soon q j quiet there = refl
  none_accuse (suc m) soon q j quiet there = by_joined (has (now m).joined j) refl
    where
      by_joined : (b : Bool) → has (now m).joined j ≡ b → has (cond b [] (place_or (now m).accusations j [])) q ≡ false
      by_joined true f = refl
      by_joined false f =
          not_accused m (omega (arith, soon)) q j quiet
          (active_if_old M (past m) (now m) j (low_at (suc m) soon j there)
          (subst (λ s. has s j ≡ true) (active-is M L (past (suc m))) there) f)

  not_judged : (m : ℕ) → m < n → (q : Channel) (last : Slot) → IsPart M L m last → has (now m).active q ≡ true →
      has (disturbed_channels (length (past m)) (now m) last) q ≡ false →
      was_undisturbed_or_absent (past m) q ≡ true → has (now m).judged q ≡ false
  not_judged m soon q last it there good quiet =
      ap (λ s. has s q) (judged-is M L (past m))
      ∙ has-filter (λ q. is_none (place_or (now m).agreed q None)
      || enough_tell (now m).active (now m).agreed (λ w. has w.accuse q)) (now m).active q
      ∙ ap (λ b. (is_none (place_or (now m).agreed q None) || b) && has (now m).active q)
      (not_many_tell (now m).active (disturbed_channels (length (past m)) (now m) last) (source_word M (past m))
      (now m).agreed (settled_now M L m last it) (λ (w : SourceValue). has w.accuse q)
      (λ j member fine. none_accuse m soon q j quiet member))
      ∙ ap (λ o. (is_none o || false) && has (now m).active q) (agreed_sent M L m last it q there good)

  -- ---- requests

  no_code : (m : ℕ) → m < n → (q j : Channel) → q < 7 → j < 7 → is_sender (now m) Request q ≡ false →
      place_or (place_or (now m).request_codes j []) q 0 ≡ 0
  no_code m soon q j low high silent =
      ap (λ t. place_or t q 0) (heard-is M L (past m) j high)
      ∙ at-by_channel (λ q. request_code (now m).running q
      (have_of (received_body M (now m).entries (length (past m)) Request q j))) q 0 low
      ∙ ap (λ b. request_code (now m).running q (have_of b))
      (nothing_of M (past m) (now m) Request q j (due m soon) silent)

  heard_none : (m : ℕ) → m < n → (q j : Channel) → q < 7 → j < 7 → DidNotAsk (past m) q →
      place_or (heard_before (past m) j) q 0 ≡ 0
  heard_none zero soon q j low high silent = at-by_channel (λ q. 0) q 0 low
  heard_none (suc m) soon q j low high silent = by_joined (has (now m).joined j)
    where
      by_joined : (b : Bool) → place_or (cond b (by_channel (λ q. 0)) (place_or (now m).request_codes j [])) q 0 ≡ 0
      by_joined true = at-by_channel (λ q. 0) q 0 low
      by_joined false = no_code m (omega (arith, soon)) q j low high silent

  not_heard : (m : ℕ) → m < n → (q : Channel) → q < 7 → DidNotAsk (past m) q →
      enough_heard (now m).active (now m).agreed 1 q ≡ false
  not_heard m soon q low silent =
      not_many_tell (now m).active (disturbed_channels (length (past m)) (now m) Switch) (source_word M (past m))
      (now m).agreed (settled_now M L m Switch (cycle m soon))
      (λ (w : SourceValue). nat_le 1 (place_or w.heard q 0))
      (λ j there good. ap (nat_le 1) (heard_none m soon q j low (low_at m soon j there) silent))

  up_for_request : (m : ℕ) → m < n → (q : Channel) → is_undisturbed (length (past m)) (now m) q ≡ true →
      is_sender (now m) Request q ≡ false
  up_for_request m soon q fine =
      let parts = undisturbed_parts (length (past m)) (now m) q fine in
      let u = not_disturbed (length (past m)) (now m) Switch q parts.0 parts.1 in
      up_not_joining (mode_in (now m) q Request)
      (up_in_slot M L (past m) q Request Switch (low_at m soon q parts.0) refl u.up)

  pub none_asks : (m : ℕ) → m < n → (q : Channel) → has (now m).active q ≡ true →
      was_undisturbed_or_absent (past m) q ≡ true → asks (now m).active (now m).fresh (now m).agreed q ≡ false
  none_asks zero soon q there quiet =
      ap (λ b. b && not (has (now 0).fresh q)) (not_heard 0 soon q (low_at 0 soon q there) tt)
  none_asks (suc m) soon q there quiet =
      let low : q < 7 = low_at (suc m) soon q there in
      let m_soon : m < n = omega (arith, soon) in
      elim (quiet_cases (has (now m).active q) (is_undisturbed (length (past m)) (now m) q) quiet) [
        | inl passive ↦ second_false (enough_heard (now (suc m)).active (now (suc m)).agreed 1 q)
            (not (has (now (suc m)).fresh q))
            (ap (λ s. not (has s q)) (fresh-is M L (past (suc m)))
            ∙ ap not (joined_if_new M (past m) (now m) q low
            (subst (λ s. has s q ≡ true) (active-is M L (past (suc m))) there) passive))
        | inr fine ↦ ap (λ b. b && not (has (now (suc m)).fresh q))
            (not_heard (suc m) soon q low (up_for_request m m_soon q fine.1))
      ]

  -- ---- an undisturbed channel

  pub left_alone : (m : ℕ) → m < n → LeavesAlone M (past m) (now m)
  left_alone m soon q last over fine quiet =
      let parts = both (has (now m).active q) (not (has (disturbed_channels (length (past m)) (now m) last) q)) fine in
      let there : has (now m).active q ≡ true = parts.0 in
      let good : has (disturbed_channels (length (past m)) (now m) last) q ≡ false =
      not_true (has (disturbed_channels (length (past m)) (now m) last) q) parts.1 in
      let low : q < 7 = low_at m soon q there in
      let u = not_disturbed (length (past m)) (now m) last q there good in
      let it : IsPart M L m last = part m soon last (up_on_bus M L (past m) q last u.up) over in
      let free : has (now m).judged q ≡ false = not_judged m soon q last it there good quiet in
      let decays = stepped M L (past m) q false low there free in
      let asked = none_asks m soon q there quiet in
      let no_more : place_or (now m).counts q 0 ≤ place_or (now m).counts_before q 0 =
      subst (λ c. c ≤ place_or (now m).counts_before q 0) (sym decays)
      (decayed_no_higher M.rules.law M.rules.keep M.rules.decrement (place_or (now m).counts_before q 0)
      (ranges M mission).keep) in
      record {
        unaccused = λ j member. none_accuse m soon q j quiet member;
        unjudged = free;
        decays = decays;
        no_higher = no_more;
        unasked = asked;
        unremoved = λ under. not_removed M L (past m) q
            (clear_or (nat_le M.rules.threshold (place_or (now m).counts q 0))
            (asks (now m).active (now m).fresh (now m).agreed q)
            (lt-leb M.rules.threshold (place_or (now m).counts q 0) (omega (arith, under, no_more))) asked);
      }

  -- ---- one that was undisturbed since it last became active

  spotless_quiet : (m : ℕ) (q : Channel) → is_spotless q (past m) ≡ true → was_undisturbed_or_absent (past m) q ≡ true
  spotless_quiet zero q h = refl
  spotless_quiet (suc m) q h =
      quiet_of (has (now m).active q) (is_undisturbed (length (past m)) (now m) q) (is_spotless q (past m)) h

  pub zero_before : (m : ℕ) → m < n → (q : Channel) → has (now m).active q ≡ true → is_spotless q (past m) ≡ true →
      place_or (now m).counts_before q 0 ≡ 0
  zero_before zero soon q there spotless =
      ap (λ t. place_or t q 0) (before-are M L (past 0)) ∙ at-by_channel (λ q. 0) q 0 (low_at 0 soon q there)
  zero_before (suc m) soon q there spotless =
      let low : q < 7 = low_at (suc m) soon q there in
      let m_soon : m < n = omega (arith, soon) in
      let active : ChannelSet = active_set M (past (suc m)) in
      ap (λ t. place_or t q 0) (before-are M L (past (suc m)))
      ∙ at-by_channel (λ q. cond (has active q && not (has (now m).joined q)) (place_or (now m).counts q 0) 0) q 0 low
      ∙ elim (quiet_cases (has (now m).active q) (is_undisturbed (length (past m)) (now m) q && is_spotless q (past m))
      spotless) as (λ v. cond (has active q && not (has (now m).joined q)) (place_or (now m).counts q 0) 0 ≡ 0) [
        | inl passive ↦ ap (λ b. cond b (place_or (now m).counts q 0) 0)
            (second_false (has active q) (not (has (now m).joined q))
            (ap not (joined_if_new M (past m) (now m) q low
            (subst (λ s. has s q ≡ true) (active-is M L (past (suc m))) there) passive)))
        | inr fine ↦
            let parts = both (is_undisturbed (length (past m)) (now m) q) (is_spotless q (past m)) fine.1 in
            let alone : IsLeftAlone M (past m) (now m) q =
            left_alone m m_soon q Switch refl parts.0 (spotless_quiet m q parts.1) in
            either (has active q && not (has (now m).joined q)) (place_or (now m).counts q 0)
            (alone.decays ∙ ap (decayed M.rules.law M.rules.keep M.rules.decrement)
            (zero_before m m_soon q fine.0 parts.1) ∙ nothing_left M.rules.law M.rules.keep M.rules.decrement)
      ]
    where
      either : (b : Bool) (c : ℕ) → c ≡ 0 → cond b c 0 ≡ 0
      either true c h = h
      either false c h = refl

  pub spares : (m : ℕ) → m < n → SparesSpotless M (past m) (now m)
  spares m soon q last over fine spotless =
      let there : has (now m).active q ≡ true =
      (both (has (now m).active q) (not (has (disturbed_channels (length (past m)) (now m) last) q)) fine).0 in
      let alone : IsLeftAlone M (past m) (now m) q = left_alone m soon q last over fine (spotless_quiet m q spotless) in
      let none : place_or (now m).counts_before q 0 ≡ 0 = zero_before m soon q there spotless in
      let stays : has (now m).removed q ≡ false = alone.unremoved (omega (arith, none, (ranges M mission).threshold)) in
      record {
        unjudged = alone.unjudged;
        count = alone.decays ∙ ap (decayed M.rules.law M.rules.keep M.rules.decrement) none
            ∙ nothing_left M.rules.law M.rules.keep M.rules.decrement;
        unasked = alone.unasked;
        unremoved = stays;
        active = stays_active M (past m) (now m) q (low_at m soon q there) there stays;
      }

-- what holds of each cycle of a run holds of its cycles
pub each_of : (M : MissionValue) (L : Log) (P : Past → Cycle → Type 0) (n : ℕ) →
    ((m : ℕ) → m < n → P (cycles_before M L m) (next_cycle M L (cycles_before M L m))) →
    EachCycle P (cycles_before M L n)
each_of M L P zero step = tt
each_of M L P (suc n) step = (step n (omega arith), each_of M L P n (λ m low. step m (omega (arith, low))))

pub run_leaves_alone : (M : MissionValue) (L : Log) (n : ℕ) → IsMission M → n ≤ M.cycles → HasRun M L n →
    EachCycle (LeavesAlone M) (cycles_before M L n)
run_leaves_alone M L n mission early run = each_of M L (LeavesAlone M) n (left_alone M L n mission early run)

pub run_spares : (M : MissionValue) (L : Log) (n : ℕ) → IsMission M → n ≤ M.cycles → HasRun M L n →
    EachCycle (SparesSpotless M) (cycles_before M L n)
run_spares M L n mission early run = each_of M L (SparesSpotless M) n (spares M L n mission early run)
