-- How far a run that came to its end came in each of its cycles.
use Rattle.std.proofs.Common.{◌≡◌, ℕ, zero, suc, ◌-◌, ◌<◌, ◌≤◌, ◌==◌, ◌⊎◌, inl, inr, Bool, true, false, cond, [], ◌∷◌, ◌++◌, length, Option, None, Some, refl, sym, ap, subst, ◌∙◌, arith}
use Rattle.std.specs.Prelude.{find, option_map}
use Rattle.std.specs.List.{list_all, AllZip}
use Rattle.std.proofs.lemmas.Bool.{eqb-true, cases_lt, cases_eq}
use Rattle.std.proofs.lemmas.List.Elements.{filter-append}
use Rattle.guards_model.specs.declared.Slot.{Slot}
use Rattle.guards_model.specs.declared.Slot.TheVariants.{Output}
use Rattle.guards_model.specs.Slots.{every_slot}
use Rattle.guards_model.specs.Missions.{MissionValue}
use Rattle.guards_model.specs.Network.{EntryValue, Log}
use Rattle.guards_model.specs.Texts.{StopValue}
use Rattle.guards_runs.specs.Cycles.{Cycle, Past, cycles_before, cycle_at, entries_of}
use Rattle.guards_runs.specs.Disturbed.{disturbed_channels, halts, stop_in, stop_of}
use Rattle.guards_runs.specs.Due.{IsDue, AreDue, AreDueThrough, cycle_carries, carries_through}
use Rattle.guards_runs.specs.Promises.{EachCycle, IsRun, HasRun}
use Rattle.guards_model.proofs.BoolTests.{both}
use Rattle.guards_laws.proofs.LogGrows.{length-cycles_before}
use Rattle.guards_laws.proofs.DueEntries.{IsDueNow, all_of_cycle, all_through, entries_cycle, entries_now, run_due}
use Rattle.guards_laws.proofs.Deliveries.{neither}
use Rattle.guards_laws.proofs.Agreement.{whole_run, stopped_run}
use Rattle.guards_laws.proofs.FirstStop.{stop_stays}
use Rattle.script_laws.specs.Scripts.{StopsAt}
use Rattle.script_laws.proofs.CarriesDue.{IsDueThrough}
use Rattle.script_laws.proofs.FirstStops.{ComesTo}

-- ---- one cycle of many

each_at : (M : MissionValue) (L : Log) (Q : Past → Cycle → Type 0) (m n : ℕ) → n < m →
    EachCycle Q (cycles_before M L m) → Q (cycles_before M L n) (cycle_at M L n)
each_at M L Q zero n low each = absurd (omega (arith, low))
each_at M L Q (suc m) n low each =
    elim (cases_eq m n) [
      | inl same ↦ subst (λ k. Q (cycles_before M L k) (cycle_at M L k)) same each.0
      | inr later ↦ each_at M L Q m n (omega (arith, low, later)) each.1
    ]

abbrev IsUnstopped : Past → Cycle → Type 0
IsUnstopped past e = stop_in (length past) e ≡ None

each_unstopped : (past : Past) → stop_of past ≡ None → EachCycle IsUnstopped past
each_unstopped [] h = tt
each_unstopped (e ∷ past) h =
    let parts = neither (stop_of past) (stop_in (length past) e) h in
    (parts.1, each_unstopped past parts.0)

none_mapped : {A B : Type 0} (f : A → B) (o : Option A) → option_map f o ≡ None → o ≡ None
none_mapped f None h = refl
none_mapped f (Some x) h = absurd cc

-- ---- the entries of the cycle of a stop

none_of_other : (c k : ℕ) (entries : Log) → c < k → list_all (λ (y : EntryValue). y.cycle == c) entries ≡ true →
    entries_of k entries ≡ []
none_of_other c k [] less h = refl
none_of_other c k (y ∷ entries) less h =
    let parts = both (y.cycle == c) (list_all (λ (x : EntryValue). x.cycle == c) entries) h in
    ap (λ b. cond b (y ∷ entries_of k entries) (entries_of k entries))
    (other (y.cycle == k) refl (eqb-true y.cycle c parts.0)) ∙ none_of_other c k entries less parts.1
  where
    other : (b : Bool) → (y.cycle == k) ≡ b → y.cycle ≡ c → b ≡ false
    other true e same = absurd (omega (arith, eqb-true y.cycle k e, same, less))
    other false e same = refl

all_of : (c : ℕ) (entries : Log) → list_all (λ (y : EntryValue). y.cycle == c) entries ≡ true →
    entries_of c entries ≡ entries
all_of c [] h = refl
all_of c (y ∷ entries) h =
    let parts = both (y.cycle == c) (list_all (λ (x : EntryValue). x.cycle == c) entries) h in
    ap (λ b. cond b (y ∷ entries_of c entries) (entries_of c entries)) parts.0
    ∙ ap (λ ys. y ∷ ys) (all_of c entries parts.1)

none_earlier : (M : MissionValue) (past : Past) (entries : Log) (k : ℕ) → length past ≤ k → AreDue M past entries →
    entries_of k entries ≡ []
none_earlier M [] entries k low due = ap (entries_of k) due
none_earlier M (e ∷ past) entries k low due =
    ap (entries_of k) due.2
    ∙ filter-append (λ (y : EntryValue). y.cycle == k) due.0 due.1
    ∙ ap (λ ys. ys ++ entries_of k due.1) (none_earlier M past due.0 k (omega (arith, low)) due.3)
    ∙ none_of_other (length past) k due.1 (omega (arith, low))
    (entries_cycle M past e (length past) (cycle_carries (length past) e) due.1 due.4
    (all_of_cycle (length past) e))

pub entries_through : (M : MissionValue) (L : Log) (n : ℕ) (slot : Slot) →
    AreDueThrough M (cycles_before M L n) (cycle_at M L n) slot L →
    IsDueThrough M (cycles_before M L n) (cycle_at M L n) slot
entries_through M L n slot due =
    let past = cycles_before M L n in
    let e = cycle_at M L n in
    let now = entries_cycle M past e (length past) (carries_through (length past) e slot) due.1 due.4
    (all_through (length past) e slot) in
    let these : e.entries ≡ due.1 =
    entries_now M L past ∙ ap (entries_of (length past)) due.2
    ∙ filter-append (λ (y : EntryValue). y.cycle == length past) due.0 due.1
    ∙ ap (λ ys. ys ++ entries_of (length past) due.1) (none_earlier M past due.0 (length past) (omega arith) due.3)
    ∙ all_of (length past) due.1 now in
    subst (λ ys. AllZip (IsDue M past e) (carries_through (length past) e slot) ys) (sym these) due.4

-- ---- a run that came to its end

-- how far it came in a cycle: its entries are the due ones up to the end of the first slot that stops it, or all of
-- them
pub record Reaches (M : MissionValue) (L : Log) (n : ℕ) : Type 0 where
  pub last : Slot
  pub due : IsDueThrough M (cycles_before M L n) (cycle_at M L n) last
  pub comes : ComesTo (length (cycles_before M L n)) (cycle_at M L n) last

-- a cycle before one of a run
pub reaches_end : (M : MissionValue) (L : Log) (m n : ℕ) → HasRun M L m → n < m → Reaches M L n
reaches_end M L m n run low =
    record {
      last = Output;
      due = each_at M L (IsDueNow M) m n low (run_due M L m run);
      comes = inr (
        refl,
        none_mapped _ (find (halts (length (cycles_before M L n)) (cycle_at M L n)) every_slot)
            (each_at M L IsUnstopped m n low (each_unstopped (cycles_before M L m) run.unstopped)),
      );
    }

-- the slot of a stop
stop_slot : (n : ℕ) (e : Cycle) (stop : StopValue) → stop_in n e ≡ Some stop →
    find (halts n e) every_slot ≡ Some stop.slot
stop_slot n e stop h = by (find (halts n e) every_slot) h
  where
    told : Slot → StopValue
    told slot = record { cycle = n; slot = slot; set = disturbed_channels n e slot; active = e.active }

    by : (found : Option Slot) → option_map told found ≡ Some stop → found ≡ Some stop.slot
    by None h = absurd cc
    by (Some slot) h =
        let same : told slot ≡ stop = cc in
        ap (λ (s : StopValue). Some s.slot) same

reaches_stop : (M : MissionValue) (L : Log) (stop : StopValue) → StopsAt M L stop → Reaches M L stop.cycle
reaches_stop M L stop s =
    let past = cycles_before M L stop.cycle in
    let e = cycle_at M L stop.cycle in
    record {
      last = stop.slot;
      due = entries_through M L stop.cycle stop.slot s.due;
      comes = inl (subst (λ c. find (halts c e) every_slot ≡ Some stop.slot) (sym (length-cycles_before M L stop.cycle))
          (stop_slot stop.cycle e stop s.stopped));
    }

pub stop_clash : (stop : StopValue) (o : Option StopValue) → o ≡ None → o ≡ Some stop → ⊥
stop_clash stop o h k = cc (sym h ∙ k)

pub reaches : (M : MissionValue) (L : Log) (n : ℕ) → IsRun M L M.cycles ⊎ ((stop : StopValue) × StopsAt M L stop) →
    n < M.cycles → stop_of (cycles_before M L n) ≡ None → Reaches M L n
reaches M L n (inl run) low goes_on = reaches_end M L M.cycles n (whole_run M L M.cycles run) low
reaches M L n (inr (stop, s)) low goes_on =
    elim (cases_lt n stop.cycle) [
      | inl before ↦ reaches_end M L stop.cycle n (stopped_run M L stop.cycle stop.slot s.due s.unstopped) before
      | inr later ↦ elim (cases_eq stop.cycle n) [
        | inl same ↦ subst (Reaches M L) same (reaches_stop M L stop s)
        | inr other ↦ absurd (stop_clash stop (stop_of (cycles_before M L n)) goes_on
            (stop_stays M L stop.cycle stop s.unstopped s.stopped (n - stop.cycle - 1) n (omega (arith, later, other))))
      ]
    ]
