-- A cycle that ends before its exchange: it stops in one of its nine slots, or memory runs out in it.
use Rattle.std.proofs.Common.{◌≡◌, ℕ, ◌+◌, ◌<◌, ◌≤◌, Bool, true, false, cond, List, [], ◌∷◌, ◌++◌, length, take, drop, Option, Some, None, refl, sym, ap, subst, ◌∙◌, arith}
use Rattle.std.specs.Prelude.{filter, find, option_map}
use Rattle.std.specs.List.{AllZip, list_all}
use Rattle.std.proofs.Math.Seq.{take-append_seam, drop-append_seam}
use Rattle.std.proofs.lemmas.List.{append-nil, length-append}
use Rattle.std.proofs.lemmas.List.Elements.{filter-append}
use Rattle.guards_model.specs.declared.Slot.{Slot}
use Rattle.guards_model.specs.declared.Slot.TheVariants.{Request, Round1, Round2, Round3, Tasks, Vote, Sweep, Final, Switch, Output}
use Rattle.guards_model.specs.Slots.{on_bus, every_slot}
use Rattle.guards_model.specs.BusRules.{RuleValue}
use Rattle.guards_model.specs.Missions.{MissionValue, ActuatorValue}
use Rattle.guards_model.specs.Network.{EntryValue, Log, AreFrom, without_outputs, BusValue}
use Rattle.guards_model.specs.Rounds.{Histories}
use Rattle.guards_model.specs.Texts.{StopValue}
use Rattle.guards_model.proofs.BoolTests.{both}
use Rattle.guards_laws.proofs.LogGrows.{length-cycles_before}
use Rattle.guards_runs.specs.Cycles.{Cycle, Past, cycles_before, cycle_at}
use Rattle.guards_runs.specs.Disturbed.{disturbed_channels, halts, stop_in, first_of_two}
use Rattle.guards_runs.specs.Due.{Carry, IsDue, cycle_carries}
use Rattle.guards_runs.specs.Report.{earlier_steps}
use Rattle.guards_world.specs.Worlds.{WorldValue}
use Rattle.world_laws.specs.Fronts.{IsUpToStop}
use Rattle.run_laws.specs.Runs.{AreDueBy, HasRunToStop, HasRunPart}
use Rattle.run_laws.proofs.RunPassed.{all_on_bus}
use Rattle.run_laws.proofs.RunContinues.{stop_breaks_off, from_few}
use Rattle.guards_runs.specs.Outputs.{acted_stop, output_stop, words_after, ideal_outputs}
use Rattle.output_gate.specs.Gates.{GateValue}
use Rattle.run_laws.specs.Acting.{AreActedBy, AreOutputsThrough, ActedToStop, ActedPart, IsActing}
use Rattle.run_laws.proofs.Local.{words_stay}
use Rattle.run_laws.proofs.Acting.{all_of_few, at_least, ideal_stays, stops_stay, zip_length}

-- ---- two fronts of one list

same_front : {A : Type 0} (xs ys us vs : List A) → length xs ≡ length ys → xs ++ us ≡ ys ++ vs → xs ≡ ys
same_front xs ys us vs size h =
    sym (take-append_seam xs us) ∙ ap (take (length xs)) h ∙ ap (λ k. take k (ys ++ vs)) size ∙ take-append_seam ys vs

same_rest : {A : Type 0} (xs ys us vs : List A) → length xs ≡ length ys → xs ++ us ≡ ys ++ vs → us ≡ vs
same_rest xs ys us vs size h =
    sym (drop-append_seam xs us) ∙ ap (drop (length xs)) h ∙ ap (λ k. drop k (ys ++ vs)) size ∙ drop-append_seam ys vs

-- the due entries of some cycles are equally many
due_length : (M : MissionValue) (histories : Histories) (past : Past) (X Y : Log) → AreDueBy M histories past X →
    AreDueBy M histories past Y → length X ≡ length Y
due_length M histories [] X Y x y = ap (λ (l : Log). length l) (x ∙ sym y)
due_length M histories (e ∷ past) X Y x y =
    let front = due_length M (earlier_steps histories) past x.0 y.0 x.3 y.3 in
    let size_x = zip_length _ (cycle_carries (length past) e) x.1 x.4 in
    let size_y = zip_length _ (cycle_carries (length past) e) y.1 y.4 in
    omega (
      arith,
      ap (λ (l : Log). length l) x.2,
      ap (λ (l : Log). length l) y.2,
      length-append x.0 x.1,
      length-append y.0 y.1,
      front,
      size_x,
      size_y,
    )

-- ---- entries of the nine slots

pub due_on_bus : (M : MissionValue) (past : Past) (e : Cycle) (carries : List Carry) (now : Log) →
    AllZip (IsDue M past e) carries now → list_all (λ (k : Carry). on_bus k.slot) carries ≡ true →
    without_outputs now ≡ now
due_on_bus M past e [] [] due on = refl
due_on_bus M past e [] (y ∷ now) due on = absurd due
due_on_bus M past e (k ∷ carries) [] due on = absurd due
due_on_bus M past e (k ∷ carries) (y ∷ now) due on =
    let parts = both (on_bus k.slot) (list_all (λ (k : Carry). on_bus k.slot) carries) on in
    ap (λ b. cond b (y ∷ without_outputs now) (without_outputs now)) (ap on_bus due.0.slot ∙ parts.0)
    ∙ ap (λ ys. y ∷ ys) (due_on_bus M past e carries now due.1 parts.1)

found_on_bus : (p : Slot → Bool) (slots : List Slot) (s : Slot) → list_all on_bus slots ≡ true → find p slots ≡ Some s →
    on_bus s ≡ true
found_on_bus p [] s all h = absurd cc
found_on_bus p (x ∷ slots) s all h =
    let parts = both (on_bus x) (list_all on_bus slots) all in
    by (p x) parts.0 (found_on_bus p slots s parts.1) h
  where
    by : (b : Bool) → on_bus x ≡ true → (find p slots ≡ Some s → on_bus s ≡ true) →
        cond b (Some x) (find p slots) ≡ Some s → on_bus s ≡ true
    by true on more h =
        let same : x ≡ s = cc in
        subst (λ t. on_bus t ≡ true) same on
    by false on more h = more h

-- a stop of the nine slots is in one of them
pub stop_on_bus : (n : ℕ) (e : Cycle) (stop : StopValue) → stop_in n e ≡ Some stop → on_bus stop.slot ≡ true
stop_on_bus n e stop h = by (find (halts n e) every_slot) refl h
  where
    told : Slot → StopValue
    told s = record { cycle = n; slot = s; set = disturbed_channels n e s; active = e.active }

    by : (found : Option Slot) → find (halts n e) every_slot ≡ found → option_map told found ≡ Some stop →
        on_bus stop.slot ≡ true
    by None is h = absurd cc
    by (Some s) is h =
        let same : told s ≡ stop = cc in
        subst (λ (x : StopValue). on_bus x.slot ≡ true) same (found_on_bus (halts n e) every_slot s refl is)

no_outputs : (slot : Slot) (version n : ℕ) (e : Cycle) → on_bus slot ≡ true → AreOutputsThrough slot version n e []
no_outputs Request version n e on = refl
no_outputs Round1 version n e on = refl
no_outputs Round2 version n e on = refl
no_outputs Round3 version n e on = refl
no_outputs Tasks version n e on = refl
no_outputs Vote version n e on = refl
no_outputs Sweep version n e on = refl
no_outputs Final version n e on = refl
no_outputs Switch version n e on = refl
no_outputs Output version n e on = absurd cc

-- ---- the ends

module _ (may : List RuleValue → EntryValue → Type 0) (M : MissionValue) (a : ActuatorValue) (start bus : BusValue)
    (w : WorldValue) (gate : GateValue) (F K : Log) (histories : Histories)
    (at : IsActing may M a start w bus gate F K histories) (now : Log)
    (stay : cycles_before M (K ++ now) w.done ≡ cycles_before M K w.done) where
  abbrev n : ℕ
  n = w.done

  abbrev past : Past
  past = cycles_before M (K ++ now) n

  abbrev e : Cycle
  e = cycle_at M (K ++ now) n

  module _ (r : HasRunPart M n (K ++ now) histories) where
    sizes : length K ≡ length r.before
    sizes = due_length M histories past K r.before (subst (λ P. AreDueBy M histories P K) (sym stay) at.between.due)
        r.due

    front : K ≡ r.before
    front = same_front K r.before now r.now sizes r.entries

    rest : now ≡ r.now
    rest = same_rest K r.before now r.now sizes r.entries

    fresh : AreFrom n now
    fresh = subst (AreFrom n) (sym rest) (from_few M past e n (length r.now) r.now r.due_now)

    on_its_bus : without_outputs now ≡ now
    on_its_bus =
        subst (λ (X : Log). without_outputs X ≡ X) (sym rest)
        (due_on_bus M past e (take (length r.now) (cycle_carries n e)) r.now r.due_now
        (all_of_few (λ (k : Carry). on_bus k.slot) (length r.now) (cycle_carries n e) (all_on_bus n e)))

    pub apart : without_outputs (F ++ now) ≡ K ++ now
    apart =
        filter-append (λ (e : EntryValue). on_bus e.slot) F now ∙ ap (λ xs. xs ++ without_outputs now) at.between.apart
        ∙ ap (λ xs. K ++ xs) on_its_bus

    acted : AreActedBy M histories past F
    acted = subst (λ P. AreActedBy M histories P F) (sym stay) at.acted

    unstopped : acted_stop (F ++ now) past ≡ None
    unstopped =
        stops_stay F now n past (omega (arith, length-cycles_before M (K ++ now) n)) fresh ∙ ap (acted_stop F) stay
        ∙ at.unstopped

    ideal : (c : ℕ) → c ≤ n → words_after M a (F ++ now) c ≡ ideal_outputs M a.steps a.start (K ++ now) c
    ideal c low =
        words_stay M.rules.version a.steps a.start F now c (at_least n c now low fresh) ∙ at.ideal c low
        ∙ sym (ideal_stays M a.steps a.start K now c (at_least n c now low fresh))

    entries : F ++ now ≡ F ++ (r.now ++ [])
    entries = ap (λ (x : Log). F ++ x) (rest ∙ sym (append-nil r.now))

    -- the parts of the earlier cycles stay
    pub later : AreFrom n now
    later = fresh

    pub broken_off : ActedPart M a n (F ++ now) (K ++ now) histories
    broken_off = record {
      within = r.within;
      beside = r.beside;
      before = F;
      now = r.now;
      outs = [];
      entries = entries;
      acted = acted;
      due_now = r.due_now;
      due_outs = tt;
      behind = λ some. absurd (omega (arith, some));
      passed = λ some. absurd (omega (arith, some));
      left = λ some. r.left (subst (λ (x : Log). 0 < length x) (append-nil r.now) some);
      up_to_stop = subst (λ X. IsUpToStop M X r.now n) (sym front ∙ sym at.between.apart) r.up_to_stop;
      unstopped = unstopped;
      sound = r.sound;
      ideal = ideal;
    }

  pub stopped : (stop : StopValue) → (r : HasRunToStop M n stop (K ++ now) histories) →
      ActedToStop M a n stop (F ++ now) (K ++ now) histories
  stopped stop r =
      let p : HasRunPart M n (K ++ now) histories = stop_breaks_off M n stop (K ++ now) histories r in
      let sizes : length K ≡ length r.before =
      due_length M histories past K r.before (subst (λ P. AreDueBy M histories P K) (sym stay) at.between.due)
      r.due in
      let rest : now ≡ r.now = same_rest K r.before now r.now sizes r.entries in
      record {
        within = r.within;
        beside = r.beside;
        before = F;
        now = r.now;
        outs = [];
        entries = ap (λ (x : Log). F ++ x) (rest ∙ sym (append-nil r.now));
        acted = acted p;
        steps = r.steps;
        due_now = r.due_now;
        due_outs = no_outputs stop.slot M.rules.version n e (stop_on_bus n e stop r.stopped);
        full = r.full;
        unstopped = unstopped p;
        stopped = ap (λ s. first_of_two s (output_stop n e (F ++ now))) r.stopped;
        sound = r.sound;
        ideal = ideal p;
      }
