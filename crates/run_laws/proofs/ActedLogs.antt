-- What a log of a run with an actuator has of each cycle: how far its nine slots came, and its output entries.
use Rattle.std.proofs.Common.{◌≡◌, ℕ, zero, suc, ◌+◌, ◌-◌, ◌<◌, ◌≤◌, ◌==◌, ◌⊎◌, inl, inr, Bool, true, false, cond, ◌&&◌, List, [], ◌∷◌, ◌++◌, length, Option, Some, None, refl, sym, ap, subst, ◌∙◌, arith}
use Rattle.std.specs.Prelude.{filter, flat_map, if◌then◌else◌}
use Rattle.std.specs.List.{AllZip, AllByRecursion, list_all}
use Rattle.std.proofs.lemmas.Bool.{eqb-true, cases_lt, cases_eq}
use Rattle.std.proofs.lemmas.List.{append-nil}
use Rattle.std.proofs.lemmas.List.Elements.{filter-append}
use Rattle.guards_model.specs.declared.Slot.{Slot}
use Rattle.guards_model.specs.declared.Slot.TheVariants.{Request, Round1, Round2, Round3, Tasks, Vote, Sweep, Final, Switch, Output}
use Rattle.guards_model.specs.Slots.{same_slot, on_bus, every_slot, up_to}
use Rattle.guards_model.specs.Channels.{Channel, place_or}
use Rattle.guards_model.specs.Missions.{MissionValue}
use Rattle.guards_model.specs.Network.{EntryValue, Log, without_outputs}
use Rattle.guards_model.specs.Texts.{StopValue}
use Rattle.guards_model.specs.Actuators.{voted_words}
use Rattle.guards_model.proofs.BoolTests.{both, and_true, differ}
use Rattle.guards_model.proofs.ListTests.{all-append}
use Rattle.guards_model.proofs.SlotTests.{same_slot-equal}
use Rattle.guards_laws.proofs.LogGrows.{length-cycles_before}
use Rattle.guards_laws.proofs.MadeEntries.{made_are_due}
use Rattle.guards_model.specs.Rounds.{Histories}
use Rattle.guards_laws.proofs.Agreement.{whole_run}
use Rattle.guards_runs.specs.Cycles.{Cycle, Past, cycles_before, cycle_at}
use Rattle.guards_runs.specs.Disturbed.{stop_in, stop_of, first_of_two}
use Rattle.guards_runs.specs.Due.{Carry, IsDue, AreDue, cycle_carries, carries_through, slot_carries}
use Rattle.guards_runs.specs.Outputs.{AreOutputsDue, IsOutputDue, acted_stop, output_disturbed, output_halts, output_stop}
use Rattle.guards_runs.specs.Faultless.{HasDue}
use Rattle.guards_runs.specs.Promises.{IsRun, HasRun}
use Rattle.guards_runs.specs.Report.{earlier_steps, latest_steps, channels_running_in}
use Rattle.run_laws.proofs.RunPassed.{all_on_bus}
use Rattle.run_laws.proofs.RunContinues.{from_through}
use Rattle.script_laws.specs.Scripts.{StopsAt}
use Rattle.script_laws.proofs.RunEnds.{Reaches, reaches, reaches_end}
use Rattle.run_laws.specs.Acting.{AreActedBy, AreOutputsThrough}
use Rattle.run_laws.proofs.NineSlots.{due_on_bus, stop_on_bus}
use Rattle.run_laws.proofs.DrivenTold.{stays}
use Rattle.run_laws.specs.ActedScripts.{outputs_of, AreActed, IsActedRun, StopsActing}

-- ---- what is made is due

pub acted_by : (M : MissionValue) (histories : Histories) (P : Past) (X : Log) → AreActedBy M histories P X →
    AreActed M P X
acted_by M histories [] X due = due
acted_by M histories (e ∷ P) X (before, now, outs, is, earlier, made, full, due_outs) = (
  before,
  now,
  outs,
  is,
  acted_by M (earlier_steps histories) P before earlier,
  made_are_due M (latest_steps histories) P e now made,
  due_outs,
)

-- ---- without the output entries

outputs_off : (version c : ℕ) (e : Cycle) (qs : List Channel) (outs : Log) →
    AllZip (λ q entry. IsOutputDue version c q (voted_words (place_or e.voted q [])) entry) qs outs →
    without_outputs outs ≡ []
outputs_off version c e [] [] due = refl
outputs_off version c e [] (y ∷ outs) due = absurd due
outputs_off version c e (q ∷ qs) [] due = absurd due
outputs_off version c e (q ∷ qs) (y ∷ outs) due =
    ap (λ b. cond b (y ∷ without_outputs outs) (without_outputs outs)) (ap on_bus due.0.slot)
    ∙ outputs_off version c e qs outs due.1

split : (before now outs : Log) → without_outputs now ≡ now → without_outputs outs ≡ [] →
    without_outputs (before ++ (now ++ outs)) ≡ without_outputs before ++ now
split before now outs on off =
    filter-append (λ (e : EntryValue). on_bus e.slot) before (now ++ outs)
    ∙ ap (λ xs. without_outputs before ++ xs)
    (filter-append (λ (e : EntryValue). on_bus e.slot) now outs ∙ ap (λ xs. xs ++ without_outputs outs) on
    ∙ ap (λ xs. now ++ xs) off ∙ append-nil now)

pub acted_due : (M : MissionValue) (P : Past) (X : Log) → AreActed M P X → AreDue M P (without_outputs X)
acted_due M [] X due = ap without_outputs due
acted_due M (e ∷ P) X (before, now, outs, is, earlier, due, due_outs) =
    let on = due_on_bus M P e (cycle_carries (length P) e) now due (all_on_bus (length P) e) in
    let off = outputs_off M.rules.version (length P) e (channels_running_in Switch e) outs due_outs in (
      without_outputs before,
      now,
      ap without_outputs is ∙ split before now outs on off,
      acted_due M P before earlier,
      due,
    )

-- where no slot stopped it, none of the nine did
pub nine_unstopped : (F : Log) (P : Past) → acted_stop F P ≡ None → stop_of P ≡ None
nine_unstopped F [] h = refl
nine_unstopped F (e ∷ P) h = by (acted_stop F P) (stop_in (length P) e) refl refl h (nine_unstopped F P)
  where
    by : (a b : Option StopValue) → acted_stop F P ≡ a → stop_in (length P) e ≡ b →
        first_of_two a (first_of_two b (output_stop (length P) e F)) ≡ None →
        (acted_stop F P ≡ None → stop_of P ≡ None) → first_of_two (stop_of P) (stop_in (length P) e) ≡ None
    by (Some s) b is here k earlier = absurd cc
    by None (Some s) is here k earlier = absurd cc
    by None None is here k earlier = ap (λ o. first_of_two o (stop_in (length P) e)) (earlier is) ∙ here

-- ---- output entries of a cycle

of_other : (c n : ℕ) (X : Log) →
    AllByRecursion (λ (y : EntryValue). (y.cycle == c && same_slot y.slot Output) ≡ false) X → outputs_of c X ≡ []
of_other c n [] h = refl
of_other c n (y ∷ X) h = ap (λ b. cond b (y ∷ outputs_of c X) (outputs_of c X)) h.0 ∙ of_other c n X h.1

nine_none : (c : ℕ) (X : Log) → without_outputs X ≡ X → outputs_of c X ≡ []
nine_none c X on = ap (outputs_of c) (sym on) ∙ none X
  where
    none : (X : Log) → outputs_of c (without_outputs X) ≡ []
    none [] = refl
    none (y ∷ X) = by (on_bus y.slot) (same_slot y.slot Output) refl refl (none X)
      where
        by : (b s : Bool) → on_bus y.slot ≡ b → same_slot y.slot Output ≡ s → outputs_of c (without_outputs X) ≡ [] →
            outputs_of c (cond b (y ∷ without_outputs X) (without_outputs X)) ≡ []
        by true true on is rest = differ (sym (sym (ap on_bus (same_slot-equal y.slot Output is)) ∙ on))
        by true false on is rest =
            ap (λ s. cond (y.cycle == c && s) (y ∷ outputs_of c (without_outputs X)) (outputs_of c (without_outputs X)))
            is ∙ cond_both (y.cycle == c) ∙ rest
          where
            cond_both : (t : Bool) → cond (t && false) (y ∷ outputs_of c (without_outputs X))
                (outputs_of c (without_outputs X)) ≡ outputs_of c (without_outputs X)
            cond_both true = refl
            cond_both false = refl
        by false s on is rest = rest

all_here : (version c : ℕ) (e : Cycle) (qs : List Channel) (outs : Log) →
    AllZip (λ q entry. IsOutputDue version c q (voted_words (place_or e.voted q [])) entry) qs outs →
    outputs_of c outs ≡ outs
all_here version c e [] [] due = refl
all_here version c e [] (y ∷ outs) due = absurd due
all_here version c e (q ∷ qs) [] due = absurd due
all_here version c e (q ∷ qs) (y ∷ outs) due =
    let here : (y.cycle == c && same_slot y.slot Output) ≡ true =
    ap (λ s. y.cycle == c && same_slot s Output) due.0.slot ∙ ap (λ k. k == c && true) due.0.cycle ∙ itself c in
    ap (λ b. cond b (y ∷ outputs_of c outs) (outputs_of c outs)) here
    ∙ ap (λ ys. y ∷ ys) (all_here version c e qs outs due.1)
  where
    itself : (c : ℕ) → ((c == c) && true) ≡ true
    itself c = grind arith

none_here : (version c n : ℕ) (e : Cycle) (qs : List Channel) (outs : Log) → (n == c) ≡ false →
    AllZip (λ q entry. IsOutputDue version n q (voted_words (place_or e.voted q [])) entry) qs outs →
    outputs_of c outs ≡ []
none_here version c n e [] [] other due = refl
none_here version c n e [] (y ∷ outs) other due = absurd due
none_here version c n e (q ∷ qs) [] other due = absurd due
none_here version c n e (q ∷ qs) (y ∷ outs) other due =
    ap (λ k. cond (k == c && same_slot y.slot Output) (y ∷ outputs_of c outs) (outputs_of c outs)) due.0.cycle
    ∙ ap (λ b. cond (b && same_slot y.slot Output) (y ∷ outputs_of c outs) (outputs_of c outs)) other
    ∙ none_here version c n e qs outs other due.1

three : (c : ℕ) (before now outs : Log) → outputs_of c now ≡ [] →
    outputs_of c (before ++ (now ++ outs)) ≡ outputs_of c before ++ outputs_of c outs
three c before now outs none =
    filter-append (λ (y : EntryValue). y.cycle == c && same_slot y.slot Output) before (now ++ outs)
    ∙ ap (λ xs. outputs_of c before ++ xs)
    (filter-append (λ (y : EntryValue). y.cycle == c && same_slot y.slot Output) now outs
    ∙ ap (λ xs. xs ++ outputs_of c outs) none)

-- none are of a cycle that is not yet there
none_yet : (M : MissionValue) (P : Past) (X : Log) (c : ℕ) → length P ≤ c → AreActed M P X → outputs_of c X ≡ []
none_yet M [] X c low due = ap (outputs_of c) due
none_yet M (e ∷ P) X c low (before, now, outs, is, earlier, due, due_outs) =
    let on = due_on_bus M P e (cycle_carries (length P) e) now due (all_on_bus (length P) e) in
    let other : (length P == c) ≡ false = grind (arith, low) in
    ap (outputs_of c) is ∙ three c before now outs (nine_none c now on)
    ∙ ap (λ xs. xs ++ outputs_of c outs) (none_yet M P before c (omega (arith, low)) earlier)
    ∙ none_here M.rules.version c (length P) e (channels_running_in Switch e) outs other due_outs

-- those of a cycle of the run are its due ones
outs_at : (M : MissionValue) (L : Log) (m : ℕ) (X : Log) (c : ℕ) → c < m → AreActed M (cycles_before M L m) X →
    AreOutputsDue M.rules.version c (cycle_at M L c) (outputs_of c X)
outs_at M L zero X c low due = absurd (omega (arith, low))
outs_at M L (suc m) X c low (before, now, outs, is, earlier, due, due_outs) =
    let P = cycles_before M L m in
    let e = cycle_at M L m in
    let on = due_on_bus M P e (cycle_carries (length P) e) now due (all_on_bus (length P) e) in
    let parts : outputs_of c X ≡ outputs_of c before ++ outputs_of c outs =
    ap (outputs_of c) is ∙ three c before now outs (nine_none c now on) in
    elim (cases_eq m c) [
      | inl same ↦
          let size : length P ≡ c = length-cycles_before M L m ∙ same in
          let due_c : AreOutputsDue M.rules.version c e outs =
          subst (λ k. AreOutputsDue M.rules.version k e outs) size due_outs in
          let all : outputs_of c X ≡ outs =
          parts ∙ ap (λ xs. xs ++ outputs_of c outs) (none_yet M P before c (omega (arith, size)) earlier)
          ∙ all_here M.rules.version c e (channels_running_in Switch e) outs due_c in
          subst (λ k. AreOutputsDue M.rules.version c (cycle_at M L k) (outputs_of c X)) same
          (subst (λ (xs : Log). AreOutputsDue M.rules.version c e xs) (sym all) due_c)
      | inr later ↦
          let size : length P ≡ m = length-cycles_before M L m in
          let other : (length P == c) ≡ false = grind (arith, size, later) in
          let front : outputs_of c X ≡ outputs_of c before =
          parts ∙ ap (λ xs. outputs_of c before ++ xs)
          (none_here M.rules.version c (length P) e (channels_running_in Switch e) outs other due_outs)
          ∙ append-nil (outputs_of c before) in
          subst (λ (xs : Log). AreOutputsDue M.rules.version c (cycle_at M L c) xs) (sym front)
          (outs_at M L m before c (omega (arith, low, later)) earlier)
    ]

outs_off : (version m : ℕ) (e : Cycle) (outs : Log) (slot : Slot) → AreOutputsThrough slot version m e outs →
    without_outputs outs ≡ []
outs_off version m e outs Output due = outputs_off version m e (channels_running_in Switch e) outs due
outs_off version m e outs Request due = ap without_outputs due
outs_off version m e outs Round1 due = ap without_outputs due
outs_off version m e outs Round2 due = ap without_outputs due
outs_off version m e outs Round3 due = ap without_outputs due
outs_off version m e outs Tasks due = ap without_outputs due
outs_off version m e outs Vote due = ap without_outputs due
outs_off version m e outs Sweep due = ap without_outputs due
outs_off version m e outs Final due = ap without_outputs due
outs_off version m e outs Switch due = ap without_outputs due

elsewhere : (version m n : ℕ) (e : Cycle) (outs : Log) (slot : Slot) → (m == n) ≡ false →
    AreOutputsThrough slot version m e outs → outputs_of n outs ≡ []
elsewhere version m n e outs Output other due = none_here version n m e (channels_running_in Switch e) outs other due
elsewhere version m n e outs Request other due = ap (outputs_of n) due
elsewhere version m n e outs Round1 other due = ap (outputs_of n) due
elsewhere version m n e outs Round2 other due = ap (outputs_of n) due
elsewhere version m n e outs Round3 other due = ap (outputs_of n) due
elsewhere version m n e outs Tasks other due = ap (outputs_of n) due
elsewhere version m n e outs Vote other due = ap (outputs_of n) due
elsewhere version m n e outs Sweep other due = ap (outputs_of n) due
elsewhere version m n e outs Final other due = ap (outputs_of n) due
elsewhere version m n e outs Switch other due = ap (outputs_of n) due

-- ---- lists of lists

all_parts : {A : Type 0} (p : A → Bool) (xs ys : List A) → list_all p (xs ++ ys) ≡ true →
    (list_all p xs ≡ true) × (list_all p ys ≡ true)
all_parts p [] ys h = (refl, h)
all_parts p (x ∷ xs) ys h =
    let parts = both (p x) (list_all p (xs ++ ys)) h in
    let rest = all_parts p xs ys parts.1 in
    (and_true (p x) (list_all p xs) parts.0 rest.0, rest.1)

all_filtered : {A B : Type 0} (p : B → Bool) (f : A → List B) (keep : A → Bool) (xs : List A) →
    list_all p (flat_map f xs) ≡ true → list_all p (flat_map f (filter keep xs)) ≡ true
all_filtered p f keep [] h = refl
all_filtered p f keep (x ∷ xs) h =
    let parts = all_parts p (f x) (flat_map f xs) h in
    by (keep x) parts.0 (all_filtered p f keep xs parts.1)
  where
    by : (b : Bool) → list_all p (f x) ≡ true → list_all p (flat_map f (filter keep xs)) ≡ true →
        list_all p (flat_map f (cond b (x ∷ filter keep xs) (filter keep xs))) ≡ true
    by true first rest = all-append p (f x) (flat_map f (filter keep xs)) first rest
    by false first rest = rest

-- ---- a run that came to its end

module _ (M : MissionValue) (F L : Log) (apart : without_outputs F ≡ L) where
  clash : (n : ℕ) (stop : StopValue) → acted_stop F (cycles_before M L n) ≡ None →
      acted_stop F (cycles_before M L n) ≡ Some stop → ⊥
  clash n stop h k = cc (sym h ∙ k)

  whole : IsActedRun M L F M.cycles → IsRun M L M.cycles
  whole run = record {
    due = subst (AreDue M (cycles_before M L M.cycles)) apart (acted_due M (cycles_before M L M.cycles) F run.due);
    unstopped = nine_unstopped F (cycles_before M L M.cycles) run.unstopped;
  }

  module _ (stop : StopValue) (s : StopsActing M L F stop) where
    abbrev P : Past
    P = cycles_before M L stop.cycle

    abbrev e : Cycle
    e = cycle_at M L stop.cycle

    size : length P ≡ stop.cycle
    size = length-cycles_before M L stop.cycle

    carried_on_bus : (slot : Slot) → list_all (λ (k : Carry). on_bus k.slot) (carries_through stop.cycle e slot) ≡ true
    carried_on_bus slot =
        all_filtered (λ (k : Carry). on_bus k.slot) (slot_carries stop.cycle e) (λ x. up_to x slot) every_slot
        (all_on_bus stop.cycle e)

    -- it stopped in one of the nine slots
    in_nine : stop_in stop.cycle e ≡ Some stop → StopsAt M L stop
    in_nine h =
        let none : s.outs ≡ [] = no_outs stop.slot (stop_on_bus stop.cycle e stop h) s.due_outs in
        let on = due_on_bus M P e (carries_through stop.cycle e stop.slot) s.now s.due_now (carried_on_bus stop.slot) in
        record {
          within = s.within;
          due = (
            without_outputs s.before,
            s.now,
            sym apart ∙ ap without_outputs s.entries ∙ split s.before s.now s.outs on (ap without_outputs none),
            acted_due M P s.before s.due,
            subst (λ c. AllZip (IsDue M P e) (carries_through c e stop.slot) s.now) (sym size) s.due_now,
          );
          unstopped = nine_unstopped F P s.unstopped;
          stopped = h;
        }
      where
        no_outs : (slot : Slot) → on_bus slot ≡ true → AreOutputsThrough slot M.rules.version stop.cycle e s.outs →
            s.outs ≡ []
        no_outs Request on h = h
        no_outs Round1 on h = h
        no_outs Round2 on h = h
        no_outs Round3 on h = h
        no_outs Tasks on h = h
        no_outs Vote on h = h
        no_outs Sweep on h = h
        no_outs Final on h = h
        no_outs Switch on h = h
        no_outs Output on h = absurd cc

    -- what was due before it, and what was carried of its cycle in the nine slots
    pub stop_due : HasDue M L stop.cycle
    stop_due =
        let on = due_on_bus M P e (carries_through stop.cycle e stop.slot) s.now s.due_now (carried_on_bus stop.slot) in
        record {
          before = without_outputs s.before;
          later = s.now;
          entries = sym apart ∙ ap without_outputs s.entries
              ∙ split s.before s.now s.outs on (outs_off M.rules.version stop.cycle e s.outs stop.slot s.due_outs);
          after = from_through M P e stop.cycle stop.slot s.now s.due_now;
          due = acted_due M P s.before s.due;
        }

    -- or in its output slot
    in_output : stop_in stop.cycle e ≡ None → stop.slot ≡ Output
    in_output none = by (output_halts stop.cycle e F)
        (sym (ap (λ o. first_of_two o (output_stop stop.cycle e F)) none) ∙ s.stopped)
      where
        by : (b : Bool) → (if b then Some
            (record { cycle = stop.cycle; slot = Output; set = output_disturbed stop.cycle e F; active = e.active })
            else None) ≡ Some stop → stop.slot ≡ Output
        by true h =
            let same : record {
              cycle = stop.cycle;
              slot = Output;
              set = output_disturbed stop.cycle e F;
              active = e.active;
            } ≡ stop = cc in
            sym (ap (λ (x : StopValue). x.slot) same)
        by false h = absurd cc

    -- and then the nine slots of its cycle ran
    ran_through : stop_in stop.cycle e ≡ None → stop.slot ≡ Output → HasRun M L (suc stop.cycle)
    ran_through none slot =
        let due_now : AllZip (IsDue M P e) (cycle_carries stop.cycle e) s.now =
        subst (λ x. AllZip (IsDue M P e) (carries_through stop.cycle e x) s.now) slot s.due_now in
        let due_outs : AreOutputsDue M.rules.version stop.cycle e s.outs =
        subst (λ x. AreOutputsThrough x M.rules.version stop.cycle e s.outs) slot s.due_outs in
        let on = due_on_bus M P e (cycle_carries stop.cycle e) s.now due_now (all_on_bus stop.cycle e) in
        let off = outputs_off M.rules.version stop.cycle e (channels_running_in Switch e) s.outs due_outs in
        whole_run M L (suc stop.cycle)
        (record {
          due = (
            without_outputs s.before,
            s.now,
            sym apart ∙ ap without_outputs s.entries ∙ split s.before s.now s.outs on off,
            acted_due M P s.before s.due,
            subst (λ c. AllZip (IsDue M P e) (cycle_carries c e) s.now) (sym size) due_now,
          );
          unstopped = ap (λ o. first_of_two o (stop_in (length P) e)) (nine_unstopped F P s.unstopped)
              ∙ subst (λ c. stop_in c e ≡ None) (sym size) none;
        })

    after : (n : ℕ) → stop.cycle < n → acted_stop F (cycles_before M L n) ≡ Some stop
    after n later = stays M F L stop.cycle stop s.unstopped s.stopped (n - stop.cycle - 1) n (omega (arith, later))

    pub reaches_stopped : (n : ℕ) → n < M.cycles → acted_stop F (cycles_before M L n) ≡ None → Reaches M L n
    reaches_stopped n low goes_on = by (stop_in stop.cycle e) refl
      where
        by : (o : Option StopValue) → stop_in stop.cycle e ≡ o → Reaches M L n
        by (Some x) is =
            let first : Some x ≡ Some stop =
            sym (ap (λ o. first_of_two o (output_stop stop.cycle e F)) is) ∙ s.stopped in
            reaches M L n (inr (stop, in_nine (is ∙ first))) low (nine_unstopped F (cycles_before M L n) goes_on)
        by None is =
            elim (cases_lt stop.cycle n) [
              | inl later ↦ absurd (clash n stop goes_on (after n later))
              | inr soon ↦ reaches_end M L (suc stop.cycle) n (ran_through is (in_output is)) (omega (arith, soon))
            ]

    -- ---- its output entries

    parts_of_log : (n : ℕ) → outputs_of n F ≡ outputs_of n s.before ++ outputs_of n s.outs
    parts_of_log n =
        ap (outputs_of n) s.entries
        ∙ three n s.before s.now s.outs
        (nine_none n s.now (due_on_bus M P e (carries_through stop.cycle e stop.slot) s.now s.due_now
        (carried_on_bus stop.slot)))

    outs_before : (n : ℕ) → n < stop.cycle → AreOutputsDue M.rules.version n (cycle_at M L n) (outputs_of n F)
    outs_before n low =
        let other : (stop.cycle == n) ≡ false = grind (arith, low) in
        let front : outputs_of n F ≡ outputs_of n s.before =
        parts_of_log n ∙ ap (λ xs. outputs_of n s.before ++ xs)
        (elsewhere M.rules.version stop.cycle n e s.outs stop.slot other s.due_outs)
        ∙ append-nil (outputs_of n s.before) in
        subst (λ (xs : Log). AreOutputsDue M.rules.version n (cycle_at M L n) xs) (sym front)
        (outs_at M L stop.cycle s.before n low s.due)

    outs_at_stop : stop_in stop.cycle e ≡ None → AreOutputsDue M.rules.version stop.cycle e (outputs_of stop.cycle F)
    outs_at_stop none =
        let due_outs : AreOutputsDue M.rules.version stop.cycle e s.outs =
        subst (λ x. AreOutputsThrough x M.rules.version stop.cycle e s.outs) (in_output none) s.due_outs in
        let all : outputs_of stop.cycle F ≡ s.outs =
        parts_of_log stop.cycle ∙ ap (λ xs. xs ++ outputs_of stop.cycle s.outs)
        (none_yet M P s.before stop.cycle (omega (arith, size)) s.due)
        ∙ all_here M.rules.version stop.cycle e (channels_running_in Switch e) s.outs due_outs in
        subst (λ (xs : Log). AreOutputsDue M.rules.version stop.cycle e xs) (sym all) due_outs

    pub outs_stopped : (n : ℕ) → acted_stop F (cycles_before M L n) ≡ None → stop_in n (cycle_at M L n) ≡ None →
        AreOutputsDue M.rules.version n (cycle_at M L n) (outputs_of n F)
    outs_stopped n goes_on none =
        elim (cases_lt n stop.cycle) [
          | inl before ↦ outs_before n before
          | inr later ↦ elim (cases_eq stop.cycle n) [
            | inl same ↦ subst (λ k. AreOutputsDue M.rules.version k (cycle_at M L k) (outputs_of k F)) same
                (outs_at_stop (subst (λ k. stop_in k (cycle_at M L k) ≡ None) (sym same) none))
            | inr other ↦ absurd (clash n stop goes_on (after n (omega (arith, later, other))))
          ]
        ]

  -- how far it came in a cycle before which it did not stop
  pub reaches_acted : IsActedRun M L F M.cycles ⊎ ((stop : StopValue) × StopsActing M L F stop) → (n : ℕ) →
      n < M.cycles → acted_stop F (cycles_before M L n) ≡ None → Reaches M L n
  reaches_acted (inl run) n low goes_on =
      reaches M L n (inl (whole run)) low (nine_unstopped F (cycles_before M L n) goes_on)
  reaches_acted (inr (stop, s)) n low goes_on = reaches_stopped stop s n low goes_on

  -- the output entries of a cycle that none of the nine slots stopped are the due ones
  pub outs_acted : IsActedRun M L F M.cycles ⊎ ((stop : StopValue) × StopsActing M L F stop) → (n : ℕ) → n < M.cycles →
      acted_stop F (cycles_before M L n) ≡ None → stop_in n (cycle_at M L n) ≡ None →
      AreOutputsDue M.rules.version n (cycle_at M L n) (outputs_of n F)
  outs_acted (inl run) n low goes_on none = outs_at M L M.cycles F n low run.due
  outs_acted (inr (stop, s)) n low goes_on none = outs_stopped stop s n goes_on none
