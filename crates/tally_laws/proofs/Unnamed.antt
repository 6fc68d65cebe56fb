-- In a run over a bus that does what its script says, no removal is false.
use Rattle.std.proofs.Common.{◌≡◌, ℕ, zero, suc, ◌+◌, ◌-◌, ◌<◌, ◌≤◌, ◌==◌, Bool, true, false, cond, not, ◌&&◌, ◌||◌, List, [], ◌∷◌, length, map, Option, None, Some, refl, sym, ap, subst, ◌∙◌, arith, eq-eqb}
use Rattle.std.specs.Prelude.{nat_le, nat_lt, filter}
use Rattle.std.specs.List.{list_any, list_all, AllByRecursion}
use Rattle.std.proofs.lemmas.Bool.{leb-false}
use Rattle.std.proofs.lemmas.List.{length-map}
use Rattle.guards_model.specs.declared.Slot.{Slot}
use Rattle.guards_model.specs.declared.Slot.TheVariants.{Request, Round1, Round2, Round3, Tasks, Vote, Sweep, Final, Switch}
use Rattle.guards_model.specs.Slots.{on_bus, slots_from}
use Rattle.guards_model.specs.Channels.{Channel, ChannelSet, has, channels_where}
use Rattle.guards_model.specs.Damages.{is_damage}
use Rattle.guards_model.specs.Decisions.{joined_of}
use Rattle.guards_model.specs.Missions.{MissionValue, IsMission, bus_rules, channels_of}
use Rattle.guards_model.specs.Modes.{ModeValue, up, down, waiting, joining, is_up, is_joining, is_restart, is_crash_by, mode_at_start, mode_at_end}
use Rattle.guards_model.specs.Network.{EntryValue, Log}
use Rattle.guards_model.specs.ScriptedBus.{IsScripted}
use Rattle.guards_model.specs.Transfers.{TransferValue, start_of}
use Rattle.guards_model.proofs.BoolTests.{both, and_true, clear, clear_or, second_false, not_true}
use Rattle.guards_model.proofs.Tables.{has-filter}
use Rattle.guards_runs.specs.Cycles.{Past, Cycle, mode_in, is_damaged, mode_after, was_damaged, active_set, is_whole, joins_from, joins_since, work_of, cycle_from, cycles_before, next_cycle}
use Rattle.guards_runs.specs.Disturbed.{is_charge, disturbed_channels}
use Rattle.guards_runs.specs.Promises.{HasRun, is_undisturbed, is_transfer_to}
use Rattle.guards_laws.proofs.CycleParts.{active-is}
use Rattle.guards_laws.proofs.HeldIdeal.{start, start-is, slot_mode, damaged-is}
use Rattle.guards_laws.proofs.LogGrows.{length-cycles_before}
use Rattle.guards_laws.proofs.StayActive.{joined_passive}
use Rattle.guards_laws.proofs.Transferring.{transfer_of}
use Rattle.guards_laws.proofs.Unsent.{All-filter}
use Rattle.recovery_laws.specs.Diagnosed.{is_spotless, SparesSpotless, RemovesForCause}
use Rattle.recovery_laws.specs.Lengths.{TakesJust, transfer_length, row_of}
use Rattle.recovery_laws.proofs.ActiveBefore.{active_if_old}
use Rattle.recovery_laws.proofs.Asked.{from_sweep}
use Rattle.recovery_laws.proofs.Disturbance.{run_causes}
use Rattle.recovery_laws.proofs.FirstFrom.{same_number}
use Rattle.recovery_laws.proofs.Goes.{runs_for}
use Rattle.recovery_laws.proofs.JudgedCounts.{low_now}
use Rattle.recovery_laws.proofs.LeftAlone.{run_spares}
use Rattle.recovery_laws.proofs.LengthTold.{takes}
use Rattle.recovery_laws.proofs.Senders.{at_cycle}
use Rattle.recovery_laws.proofs.TargetsKept.{HadSince, had_since}
use Rattle.campaign_facts.specs.Facts.{PastFacts, facts_of, facts_of_cycle, since, is_named, names, false_removals, falsely_removed}
use Rattle.tally_laws.proofs.Entries.{uncrashed_by, undamaged_by, uncharged_by}
use Rattle.tally_laws.proofs.Requests.{DidAsk, did_ask}

joining-is : (m : ModeValue) → is_joining m ≡ true → m ≡ joining
joining-is up h = absurd cc
joining-is down h = absurd cc
joining-is (waiting n) h = absurd cc
joining-is joining h = refl

-- who is declared joined is a target of the transfer
target_of : (last : ℕ) (t : Option TransferValue) (remaining : List ℕ) (q : Channel) → has (joined_of last t remaining) q ≡ true → is_transfer_to q (start_of t) t ≡ true
target_of last None remaining q h = absurd cc
target_of last (Some t) remaining q h = by (nat_le (length remaining) last) h
  where
    by : (fits : Bool) → has (cond fits t.targets []) q ≡ true → (has t.targets q && (t.start == t.start)) ≡ true
    by true h = and_true (has t.targets q) (t.start == t.start) h (eq-eqb t.start t.start refl)
    by false h = absurd cc

-- a test that holds in each slot of the bus holds in all from the first on
all_slots : (f : Slot → Bool) → ((slot : Slot) → on_bus slot ≡ true → f slot ≡ true) → list_all f (slots_from Request) ≡ true
all_slots f h =
    and_true (f Request) (list_all f (slots_from Round1)) (h Request refl)
    (and_true (f Round1) (list_all f (slots_from Round2)) (h Round1 refl)
    (and_true (f Round2) (list_all f (slots_from Round3)) (h Round2 refl)
    (and_true (f Round3) (list_all f (slots_from Tasks)) (h Round3 refl)
    (and_true (f Tasks) (list_all f (slots_from Vote)) (h Tasks refl)
    (and_true (f Vote) (list_all f (slots_from Sweep)) (h Vote refl)
    (and_true (f Sweep) (list_all f (slots_from Final)) (h Sweep refl)
    (and_true (f Final) (list_all f (slots_from Switch)) (h Final refl)
    (and_true (f Switch) true (h Switch refl) refl))))))))

-- nothing befalls a channel in a cycle after the past
pub record IsQuiet (M : MissionValue) (past : Past) (e : Cycle) (q : Channel) : Type 0 where
  pub uncrashed : (slot : Slot) → list_any (is_crash_by q (length past) slot) M.script ≡ false
  pub undamaged : list_any (is_damage q (length past)) M.script ≡ false
  pub uncharged : list_any (is_charge (length past) Switch q) e.entries ≡ false

module _ (M : MissionValue) (L : Log) (n : ℕ) (mission : IsMission M) (early : n ≤ M.cycles) (run : HasRun M L n) where
  abbrev past : ℕ → Past
  past m = cycles_before M L m

  abbrev now : ℕ → Cycle
  now m = next_cycle M L (cycles_before M L m)

  joined-is : (m : ℕ) → (now m).joined ≡ joined_of M.rules.last (now m).transfer (now m).remaining
  unfolding cycle_from work_of
  joined-is m = refl

  module _ (q : Channel) (low : q < 7) where
    abbrev Quiet : ℕ → Type 0
    Quiet m = IsQuiet M (past m) (now m) q

    -- ---- a quiet cycle

    mode_stays : (m : ℕ) (before : ModeValue) → Quiet m → mode_after M (past m) q ≡ before → ((restarted : Bool) → mode_at_start restarted before ≡ before) → (slot : Slot) → on_bus slot ≡ true →
        mode_in (now m) q slot ≡ before
    mode_stays m before quiet was stays slot on =
        slot_mode M L (past m) q low slot on ∙ ap (λ b. cond b down (start M L (past m) q low)) (quiet.uncrashed slot) ∙ start-is M L (past m) q low
        ∙ ap (mode_at_start (list_any (is_restart q (length (past m))) M.script)) was ∙ stays (list_any (is_restart q (length (past m))) M.script)

    undisturbed : (m : ℕ) → Quiet m → has (now m).active q ≡ true → mode_in (now m) q Switch ≡ up → has (now m).damaged q ≡ false → is_undisturbed (length (past m)) (now m) q ≡ true
    undisturbed m quiet there mode whole =
        let e = now m in
        let c = length (past m) in
        let test : Channel → Bool = λ p. (not (is_up (mode_in e p Switch)) || is_damaged e p Switch) || list_any (is_charge c Switch p) e.entries in
        let fails : test q ≡ false =
        clear_or (not (is_up (mode_in e q Switch)) || is_damaged e q Switch) (list_any (is_charge c Switch q) e.entries)
        (clear_or (not (is_up (mode_in e q Switch))) (is_damaged e q Switch) (ap (λ (mode : ModeValue). not (is_up mode)) mode) (ap (λ b. b && is_up (mode_in e q Switch)) whole))
        quiet.uncharged in
        let absent : has (disturbed_channels c e Switch) q ≡ false = has-filter test e.active q ∙ ap (λ b. b && has e.active q) fails in
        and_true (has e.active q) (not (has (disturbed_channels c e Switch) q)) there (ap not absent)

    undamaged_still : (m : ℕ) → Quiet m → was_damaged (past m) q ≡ false → has (now m).damaged q ≡ false
    undamaged_still m quiet whole =
        damaged-is M L (past m) q low
        ∙ second_false (is_up (start M L (past m) q low)) (list_any (is_damage q (length (past m))) M.script || was_damaged (past m) q)
        (clear_or (list_any (is_damage q (length (past m))) M.script) (was_damaged (past m) q) quiet.undamaged whole)

    -- ---- a channel that is declared joined after quiet cycles rises

    abbrev Joins : ℕ → ℕ → Type 0
    Joins s d = (i : ℕ) → s ≤ i → i < d → joins_from Request (now i) q ≡ true

    joined_since : (s d : ℕ) → Joins s d → joins_since q s (past d) ≡ true
    joined_since s zero joins = refl
    joined_since s (suc d) joins =
        by (nat_lt (length (past d)) s) refl
        (λ late. joins d (omega (arith, late, length-cycles_before M L d)) (omega arith)) (joined_since s d (λ i from under. joins i from (omega (arith, under))))
      where
        by_place : (b : Bool) → joins_from Request (now d) q ≡ true → joins_since q s (past d) ≡ true → cond b (joins_from Sweep (now d) q) (joins_from Request (now d) q && joins_since q s (past d)) ≡ true
        by_place true here before = from_sweep (λ slot. is_joining (mode_in (now d) q slot)) here
        by_place false here before = and_true (joins_from Request (now d) q) (joins_since q s (past d)) here before

        by : (a : Bool) → nat_lt (length (past d)) s ≡ a → (s < suc (length (past d)) → joins_from Request (now d) q ≡ true) → joins_since q s (past d) ≡ true →
            cond a true (cond (length (past d) == s) (joins_from Sweep (now d) q) (joins_from Request (now d) q && joins_since q s (past d))) ≡ true
        by true e here before = refl
        by false e here before = by_place (length (past d) == s) (here (leb-false (suc (length (past d))) s e)) before

    module _ (m : ℕ) (soon : m < n) (j : has (now m).joined q ≡ true) where
      abbrev from : ℕ
      from = start_of (now m).transfer

      runs_now : is_transfer_to q from (now m).transfer ≡ true
      runs_now = target_of M.rules.last (now m).transfer (now m).remaining q (sym (ap (λ js. has js q) (joined-is m)) ∙ j)

      told : TakesJust M (past m) (now m) q from
      told = takes M L mission m (omega (arith, soon, early)) q from runs_now

      place : m ≡ from + told.count
      place = sym (length-cycles_before M L m) ∙ told.place

      length_is : transfer_length M (row_of M from) ≡ Some (suc told.count)
      length_is = told.joined.0 j

      had : HadSince M L q from m
      had = had_since M L q from m (omega (arith, place)) runs_now

      runs_at : (d : ℕ) → from ≤ d → d ≤ m → is_transfer_to q from (now d).transfer ≡ true
      runs_at d late under =
          (runs_for M L mission q from had.starts d late (omega (arith, under, soon, early)) (λ k after up_to. had.kept k after (omega (arith, up_to, under)))).1
          (λ k h. let same : k ≡ suc told.count = same_number k (suc told.count) (sym h ∙ length_is) in omega (arith, same, place, under))

      unjoined : (d : ℕ) → from ≤ d → d < m → has (now d).joined q ≡ false
      unjoined d late under =
          clear (has (now d).joined q)
          (λ e.
          let here : TakesJust M (past d) (now d) q from = takes M L mission d (omega (arith, under, soon, early)) q from (runs_at d late (omega (arith, under))) in
          let same : suc here.count ≡ suc told.count = same_number (suc here.count) (suc told.count) (sym (here.joined.0 e) ∙ length_is) in
          absurd (omega (arith, same, here.place, length-cycles_before M L d, place, under)))

      ask : DidAsk M L n mission early run q low from
      ask =
          let tr = transfer_of q from (now from).transfer had.starts in
          did_ask M L n mission early run q low from tr.transfer (omega (arith, place, soon)) tr.runs tr.starts tr.target

      module _ (quiet : (d : ℕ) → from - 1 ≤ d → d ≤ m → Quiet d) where
        -- who was joining and is not declared joined is joining
        joins_on : (d : ℕ) → has (now d).joined q ≡ false → mode_in (now d) q Switch ≡ joining → mode_after M (past (suc d)) q ≡ joining
        joins_on d new mode =
            ap (mode_at_end M.return_after (has (active_set M (past (suc d))) q) (is_whole q (past (suc d)))) mode
            ∙ ap (λ b. cond (b && joins_since q (start_of (now d).transfer) (past (suc d))) up joining) new

        joins_at_start : (k : ℕ) → from ≡ suc k → is_joining (mode_in (now k) q Request) ≡ true → has (now k).joined q ≡ false → mode_after M (past from) q ≡ joining
        joins_at_start k next asked new =
            let q_quiet = quiet k (omega (arith, next)) (omega (arith, next, place)) in
            let begun : mode_in (now k) q Request ≡ start M L (past k) q low =
            slot_mode M L (past k) q low Request refl ∙ ap (λ b. cond b down (start M L (past k) q low)) (q_quiet.uncrashed Request) in
            let joins : start M L (past k) q low ≡ joining = sym begun ∙ joining-is (mode_in (now k) q Request) asked in
            let ended : mode_in (now k) q Switch ≡ joining =
            slot_mode M L (past k) q low Switch refl ∙ ap (λ b. cond b down (start M L (past k) q low)) (q_quiet.uncrashed Switch) ∙ joins in
            subst (λ (d : ℕ). mode_after M (past d) q ≡ joining) (sym next) (joins_on k new ended)

        joins_after : (i : ℕ) → from + i ≤ m → mode_after M (past (from + i)) q ≡ joining
        joins_after zero few =
            let same : from ≡ from + 0 = omega arith in
            subst (λ (d : ℕ). mode_after M (past d) q ≡ joining) same (joins_at_start ask.before ask.next ask.asked ask.unjoined)
        joins_after (suc i) few =
            let next : suc (from + i) ≡ from + suc i = omega arith in
            let d_quiet = quiet (from + i) (omega arith) (omega (arith, few)) in
            let mode = mode_stays (from + i) joining d_quiet (joins_after i (omega (arith, few))) (λ restarted. refl) Switch refl in
            subst (λ (d : ℕ). mode_after M (past d) q ≡ joining) next (joins_on (from + i) (unjoined (from + i) (omega arith) (omega (arith, few))) mode)

        joining_before : (d : ℕ) → from ≤ d → d ≤ m → mode_after M (past d) q ≡ joining
        joining_before d late under =
            let same : from + (d - from) ≡ d = omega (arith, late) in
            subst (λ (k : ℕ). mode_after M (past k) q ≡ joining) same (joins_after (d - from) (omega (arith, same, under)))

        joins_all : (d : ℕ) → from ≤ d → d ≤ m → joins_from Request (now d) q ≡ true
        joins_all d late under =
            let d_quiet = quiet d (omega (arith, late)) under in
            all_slots (λ slot. is_joining (mode_in (now d) q slot))
            (λ slot on. ap is_joining (mode_stays d joining d_quiet (joining_before d late under) (λ restarted. refl) slot on))

        whole : is_whole q (past (suc m)) ≡ true
        whole =
            and_true (has (now m).joined q) (joins_since q from (past (suc m))) j
            (joined_since from (suc m) (λ i late under. joins_all i late (omega (arith, under))))

        pub rises : mode_after M (past (suc m)) q ≡ up
        rises =
            let m_quiet = quiet m (omega (arith, place)) (omega arith) in
            let mode = mode_stays m joining m_quiet (joining_before m (omega (arith, place)) (omega arith)) (λ restarted. refl) Switch refl in
            ap (mode_at_end M.return_after (has (active_set M (past (suc m))) q) (is_whole q (past (suc m)))) mode ∙ ap (λ b. cond b up joining) whole

        pub comes_unmarked : has (now m).damaged q ≡ false
        comes_unmarked =
            let begun : start M L (past m) q low ≡ joining =
            start-is M L (past m) q low ∙ ap (mode_at_start (list_any (is_restart q (length (past m))) M.script)) (joining_before m (omega (arith, place)) (omega arith)) in
            damaged-is M L (past m) q low ∙ ap (λ (mode : ModeValue). is_up mode && (list_any (is_damage q (length (past m))) M.script || was_damaged (past m) q)) begun

    -- ---- all cycles

    abbrev first_of : ℕ → ℕ
    first_of m = since (facts_of (past m)) q

    first_if : (m : ℕ) (b : Bool) → has (now m).joined q ≡ b → first_of (suc m) ≡ cond b (start_of (now m).transfer - 1) (first_of m)
    first_if m b is = ap (λ (c : Bool). cond c (start_of (now m).transfer - 1) (first_of m)) is

    first_low : (m : ℕ) → m ≤ n → first_of m ≤ m
    first_low zero few = omega arith
    first_low (suc m) few = by (first_low m (omega (arith, few))) (has (now m).joined q) refl
      where
        by : first_of m ≤ m → (b : Bool) → has (now m).joined q ≡ b → first_of (suc m) ≤ suc m
        by before true j = let here = place m (omega (arith, few)) j in let is = first_if m true j in omega (arith, here, is)
        by before false new = let is = first_if m false new in omega (arith, before, is)

    -- an active channel that nothing befell since it last joined
    pub record IsGood (m : ℕ) : Type 0 where
      pub spotless : is_spotless q (past m) ≡ true
      pub risen : mode_after M (past m) q ≡ up
      pub unmarked : was_damaged (past m) q ≡ false

    pub good : (m : ℕ) → m ≤ n → has (active_set M (past m)) q ≡ true → ((d : ℕ) → first_of m ≤ d → d < m → Quiet d) → IsGood m
    good zero few there quiet = record { spotless = refl; risen = ap (λ (b : Bool). cond b up down) there; unmarked = refl }
    good (suc m) few there quiet =
        by (λ there_before quiet_before. good m (omega (arith, few)) there_before quiet_before) (has (now m).joined q) refl
      where
        by : (has (active_set M (past m)) q ≡ true → ((d : ℕ) → first_of m ≤ d → d < m → Quiet d) → IsGood m) →
            (b : Bool) → has (now m).joined q ≡ b → IsGood (suc m)
        by before true j =
            let is = first_if m true j in
            let calm : (d : ℕ) → start_of (now m).transfer - 1 ≤ d → d ≤ m → Quiet d = λ d late under. quiet d (omega (arith, is, late)) (omega (arith, under)) in
            record {
              spotless = ap (λ (b : Bool). not b || (is_undisturbed (length (past m)) (now m) q && is_spotless q (past m))) (joined_passive M L m q j);
              risen = rises m (omega (arith, few)) j calm;
              unmarked = comes_unmarked m (omega (arith, few)) j calm;
            }
        by before false new =
            let is = first_if m false new in
            let active : has (now m).active q ≡ true = active_if_old M (past m) (now m) q low there new in
            let was = before (subst (λ (s : ChannelSet). has s q ≡ true) (active-is M L (past m)) active) (λ d late under. quiet d (omega (arith, is, late)) (omega (arith, under))) in
            let calm = quiet m (omega (arith, is, first_low m (omega (arith, few)))) (omega arith) in
            let mode = mode_stays m up calm was.risen (λ restarted. refl) Switch refl in
            let clean = undamaged_still m calm was.unmarked in
            let fine = undisturbed m calm active mode clean in
            record {
              spotless = ap (λ (b : Bool). not (has (now m).active q) || (b && is_spotless q (past m))) fine ∙ ap (λ (b : Bool). not (has (now m).active q) || b) was.spotless
                  ∙ or_true_right (not (has (now m).active q));
              risen = ap (mode_at_end M.return_after (has (active_set M (past (suc m))) q) (is_whole q (past (suc m)))) mode ∙ ap (λ (b : Bool). cond b up (waiting M.return_after)) there;
              unmarked = clean;
            }
          where
            or_true_right : (b : Bool) → (b || true) ≡ true
            or_true_right true = refl
            or_true_right false = refl

  -- ---- by the entries of the script

  module _ (scripted : AllByRecursion (IsScripted (bus_rules M)) L) where
    entries_scripted : (m : ℕ) → AllByRecursion (IsScripted (bus_rules M)) (now m).entries
    unfolding cycle_from
    entries_scripted m = All-filter (IsScripted (bus_rules M)) (λ (x : EntryValue). x.cycle == length (past m)) L scripted

    quiet_by : (q first last m : ℕ) → first ≤ m → m ≤ last → is_named M.script q first last ≡ false → IsQuiet M (past m) (now m) q
    quiet_by q first last m late under none =
        let size : length (past m) ≡ m = length-cycles_before M L m in
        let from : first ≤ length (past m) = omega (arith, size, late) in
        let to : length (past m) ≤ last = omega (arith, size, under) in
        record {
          uncrashed = uncrashed_by q first last (length (past m)) from to M.script none;
          undamaged = undamaged_by q first last (length (past m)) from to M.script none;
          uncharged = uncharged_by q first last (length (past m)) from to M.script none (now m).entries (entries_scripted m);
        }

    -- who is removed is named
    named : (m : ℕ) → m < n → (q : Channel) → has (now m).removed q ≡ true → is_named M.script q (since (facts_of (past m)) q) (length (facts_of (past m))) ≡ false → true ≡ false
    named m soon q gone none =
        let cause = at_cycle M L (RemovesForCause M) n m (run_causes M L n mission early run) soon q gone in
        let active = cause.active in
        let low : q < 7 = low_now M L mission m q active in
        let size : length (facts_of (past m)) ≡ m = length-map (past m) facts_of_cycle ∙ length-cycles_before M L m in
        let first = since (facts_of (past m)) q in
        let quiet : (d : ℕ) → first ≤ d → d ≤ m → IsQuiet M (past d) (now d) q = λ d late under. quiet_by q first (length (facts_of (past m))) d late (omega (arith, size, under)) none in
        let was = good q low m (omega (arith, soon)) (subst (λ (s : ChannelSet). has s q ≡ true) (active-is M L (past m)) active) (λ d late under. quiet d late (omega (arith, under))) in
        let calm = quiet m (first_low q low m (omega (arith, soon))) (omega arith) in
        let mode = mode_stays q low m up calm was.risen (λ restarted. refl) Switch refl in
        let fine = undisturbed q low m calm active mode (undamaged_still q low m calm was.unmarked) in
        let blameless = at_cycle M L (SparesSpotless M) n m (run_spares M L n mission early run) soon q Switch refl fine was.spotless in
        sym gone ∙ blameless.unremoved

    none_where : (test : Channel → Bool) → ((q : Channel) → test q ≡ false) → channels_where test ≡ []
    unfolding channels_where
    none_where test none = rw (none 0, none 1, none 2, none 3, none 4, none 5, none 6) refl

    none_now : (m : ℕ) → m < n → falsely_removed M.script (facts_of_cycle (now m)) (facts_of (past m)) ≡ []
    none_now m soon =
        none_where (λ q. has (now m).removed q && not (is_named M.script q (since (facts_of (past m)) q) (length (facts_of (past m)))))
        (λ q.
        clear (has (now m).removed q && not (is_named M.script q (since (facts_of (past m)) q) (length (facts_of (past m)))))
        (λ is.
        let parts = both (has (now m).removed q) (not (is_named M.script q (since (facts_of (past m)) q) (length (facts_of (past m))))) is in
        named m soon q parts.0 (not_true (is_named M.script q (since (facts_of (past m)) q) (length (facts_of (past m)))) parts.1)))

    pub none_until : (m : ℕ) → m ≤ n → false_removals M.script (facts_of (past m)) ≡ 0
    none_until zero few = refl
    none_until (suc m) few =
        let before = none_until m (omega (arith, few)) in
        let here : length (falsely_removed M.script (facts_of_cycle (now m)) (facts_of (past m))) ≡ 0 = ap length (none_now m (omega (arith, few))) in
        omega (arith, before, here)

pub none_false : (M : MissionValue) (L : Log) (n : ℕ) → IsMission M → n ≤ M.cycles → HasRun M L n → AllByRecursion (IsScripted (bus_rules M)) L →
    false_removals M.script (facts_of (cycles_before M L n)) ≡ 0
none_false M L n mission early run scripted = none_until M L n mission early run scripted n (omega arith)
