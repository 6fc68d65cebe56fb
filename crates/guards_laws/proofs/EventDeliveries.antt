-- What the events of a run deliver is its log.
use Rattle.std.proofs.Common.{◌≡◌, ℕ, zero, suc, ◌&&◌, Bool, true, false, not, cond, List, [], ◌∷◌, ◌++◌, length, map, filter, filter_map, refl, sym, ap, subst, ◌∙◌, append_assoc}
use Rattle.std.specs.Prelude.{flat_map}
use Rattle.std.specs.List.{list_all, AllZip, AllByRecursion}
use Rattle.std.proofs.lemmas.Bool.{eq-eqb}
use Rattle.std.proofs.lemmas.List.{append-nil}
use Rattle.std.proofs.lemmas.List.Elements.{filter_map-append, filter-append}
use Rattle.guards_model.specs.declared.Slot.{Slot}
use Rattle.guards_model.specs.declared.Slot.TheVariants.{Request, Round1, Round2, Round3, Tasks, Vote, Sweep, Final, Switch, Output}
use Rattle.guards_model.specs.declared.Actor.TheVariants as actor
use Rattle.guards_model.specs.declared.Actor.{Actor}
use Rattle.guards_model.specs.Slots.{slot_index, same_slot, every_slot}
use Rattle.guards_model.specs.Channels.{Channel, ChannelSet, without, channels_where}
use Rattle.guards_model.specs.Missions.{MissionValue}
use Rattle.guards_model.specs.Network.{EntryValue, Log, AreFrom}
use Rattle.guards_model.specs.Rounds.{Steps, Histories, steps_of}
use Rattle.guards_model.proofs.BoolTests.{both}
use Rattle.guards_model.proofs.Membership.{All-flat_map, All-map}
use Rattle.guards_runs.specs.Cycles.{Cycle, Past, this_cycle, cycles_before, next_cycle, entries_of}
use Rattle.guards_runs.specs.Due.{Carry, IsDue, AreDue, slot_carries, cycle_carries, carries_frames, receivers, is_sender}
use Rattle.guards_runs.specs.Events.{deliver, step_event, round_events, cycle_events, events}
use Rattle.guards_runs.specs.Promises.{HasRun}
use Rattle.guards_runs.specs.Report.{channels_running_in, latest_steps, earlier_steps}
use Rattle.guards_laws.proofs.DueEntries.{all_of_cycle, entries_cycle, entries_now, entries_between, due_earlier, from-append}
use Rattle.guards_laws.proofs.LogGrows.{length-cycles_before}
use Rattle.guards_laws.specs.Delivered.{delivered, entry_delivered}
use Rattle.guards_laws.proofs.QuietEvents.{IsDeaf, cycle_seen, seen_of_slot, through_flat, flat_alike}

-- ---- what is seen

all_delivered : (entries : Log) → filter_map entry_delivered (map deliver entries) ≡ entries
all_delivered [] = refl
all_delivered (x ∷ entries) = ap (λ l. x ∷ l) (all_delivered entries)

no_step : (q : Channel) (history : List Actor) → filter_map entry_delivered (map (step_event q) history) ≡ []
no_step q [] = refl
no_step q (actor.Task ∷ history) = no_step q history
no_step q (actor.Sweep ∷ history) = no_step q history

no_steps : (steps : Steps) (qs : ChannelSet) →
    flat_map (λ q. filter_map entry_delivered (map (step_event q) (steps_of steps q))) qs ≡ []
no_steps steps [] = refl
no_steps steps (q ∷ qs) =
    ap (λ l. l ++ flat_map (λ q. filter_map entry_delivered (map (step_event q) (steps_of steps q))) qs)
    (no_step q (steps_of steps q)) ∙ no_steps steps qs

no_round : (steps : Steps) (e : Cycle) (slot : Slot) → filter_map entry_delivered (round_events steps e slot) ≡ []
no_round steps e Request = refl
no_round steps e Round1 = refl
no_round steps e Round2 = refl
no_round steps e Round3 = refl
no_round steps e Tasks = through_flat entry_delivered (λ q. map (step_event q) (steps_of steps q))
    (channels_running_in Tasks e) ∙ no_steps steps (channels_running_in Tasks e)
no_round steps e Vote = refl
no_round steps e Sweep = refl
no_round steps e Final = refl
no_round steps e Switch = refl
no_round steps e Output = refl

deaf : IsDeaf entry_delivered
deaf = record {
  crashes = λ q. refl;
  restarts = λ q. refl;
  waits = λ q. refl;
  damages = λ q block word value. refl;
  senses = λ q words. refl;
  ticks = refl;
}

abbrev in_slot : Slot → Log → Log
in_slot slot entries = filter (λ (entry : EntryValue). same_slot entry.slot slot) entries

of_slot : (steps : Steps) (e : Cycle) (slot : Slot) →
    seen_of_slot entry_delivered deaf steps e slot ≡ in_slot slot e.entries
of_slot steps e slot =
    ap (λ l. filter_map entry_delivered (map deliver (in_slot slot e.entries)) ++ l) (no_round steps e slot)
    ∙ append-nil (filter_map entry_delivered (map deliver (in_slot slot e.entries)))
    ∙ all_delivered (in_slot slot e.entries)

-- ---- the entries of a cycle, slot by slot

abbrev IsIn : Slot → EntryValue → Type 0
IsIn slot entry = entry.slot ≡ slot

all_in : (slot : Slot) (entries : Log) → AllByRecursion (IsIn slot) entries → in_slot slot entries ≡ entries
all_in slot [] h = refl
all_in slot (x ∷ entries) h =
    ap (λ b. cond b (x ∷ in_slot slot entries) (in_slot slot entries))
    (eq-eqb (slot_index x.slot) (slot_index slot) (ap slot_index h.0))
    ∙ ap (λ l. x ∷ l) (all_in slot entries h.1)

none_in : (slot other : Slot) (entries : Log) → same_slot slot other ≡ false → AllByRecursion (IsIn slot) entries →
    in_slot other entries ≡ []
none_in slot other [] apart h = refl
none_in slot other (x ∷ entries) apart h =
    ap (λ b. cond b (x ∷ in_slot other entries) (in_slot other entries)) (ap (λ s. same_slot s other) h.0 ∙ apart)
    ∙ none_in slot other entries apart h.1

-- slots of which each differs from those after it
abbrev differs : Slot → Slot → Bool
differs a b = not (same_slot a b) && not (same_slot b a)

abbrev are_apart : List Slot → Bool
are_apart [] = true
are_apart (s ∷ ss) = list_all (differs s) ss && are_apart ss

not-is : (b : Bool) → not b ≡ true → b ≡ false
not-is true h = absurd cc
not-is false h = refl

apart-is : (a b : Slot) → differs a b ≡ true → (same_slot a b ≡ false) × (same_slot b a ≡ false)
apart-is a b h =
    let parts = both (not (same_slot a b)) (not (same_slot b a)) h in
    (not-is (same_slot a b) parts.0, not-is (same_slot b a) parts.1)

zip_split : {A B : Type 0} (R : A → B → Type 0) (xs ys : List A) (zs : List B) → AllZip R (xs ++ ys) zs →
    (front : List B) × (back : List B) × (zs ≡ front ++ back) × AllZip R xs front × AllZip R ys back
zip_split R [] ys zs h = ([], zs, refl, tt, h)
zip_split R (x ∷ xs) ys [] h = absurd h
zip_split R (x ∷ xs) ys (z ∷ zs) h =
    let rest = zip_split R xs ys zs h.1 in
    (z ∷ rest.0, rest.1, ap (λ l. z ∷ l) rest.2, (h.0, rest.3), rest.4)

carried_in : (c : ℕ) (e : Cycle) (slot : Slot) → AllByRecursion (λ (k : Carry). k.slot ≡ slot) (slot_carries c e slot)
carried_in c e slot = if_carried (carries_frames e slot)
  where
    if_carried : (b : Bool) →
        AllByRecursion (λ (k : Carry). k.slot ≡ slot)
        (cond b (flat_map (λ q. map (λ (r : ℕ). record { cycle = c; slot = slot; from = q; to = r })
        (without (receivers e slot) (q ∷ []))) (channels_where (is_sender e slot))) [])
    if_carried true =
        All-flat_map (λ (k : Carry). k.slot ≡ slot)
        (λ q. map (λ (r : ℕ). record { cycle = c; slot = slot; from = q; to = r })
        (without (receivers e slot) (q ∷ []))) (channels_where (is_sender e slot))
        (λ q. All-map (λ (k : Carry). k.slot ≡ slot) (λ (r : ℕ). record { cycle = c; slot = slot; from = q; to = r })
        (without (receivers e slot) (q ∷ [])) (λ r. refl))
    if_carried false = tt

module _ (M : MissionValue) (past : Past) (e : Cycle) (c : ℕ) where
  entries_in : (slot : Slot) (carries : List Carry) (entries : Log) →
      AllByRecursion (λ (k : Carry). k.slot ≡ slot) carries →
      AllZip (IsDue M past e) carries entries → AllByRecursion (IsIn slot) entries
  entries_in slot [] [] all due = tt
  entries_in slot [] (x ∷ entries) all due = absurd due
  entries_in slot (k ∷ carries) [] all due = absurd due
  entries_in slot (k ∷ carries) (x ∷ entries) all due =
      (due.0.slot ∙ all.0, entries_in slot carries entries all.1 due.1)

  -- of a slot that is none of these nothing was carried
  nothing_in : (slot : Slot) (slots : List Slot) (entries : Log) → list_all (differs slot) slots ≡ true →
      AllZip (IsDue M past e) (flat_map (slot_carries c e) slots) entries → in_slot slot entries ≡ []
  nothing_in slot [] [] apart due = refl
  nothing_in slot [] (x ∷ entries) apart due = absurd due
  nothing_in slot (s ∷ slots) entries apart due =
      let parts = both (differs slot s) (list_all (differs slot) slots) apart in
      let split = zip_split (IsDue M past e) (slot_carries c e s) (flat_map (slot_carries c e) slots) entries due in
      ap (in_slot slot) split.2
      ∙ filter-append (λ (entry : EntryValue). same_slot entry.slot slot) split.0 split.1
      ∙ ap (λ l. l ++ in_slot slot split.1)
      (none_in s slot split.0 (apart-is slot s parts.0).1
      (entries_in s (slot_carries c e s) split.0 (carried_in c e s) split.3))
      ∙ nothing_in slot slots split.1 parts.1 split.4

  -- entries of a slot before change nothing in the other slots
  others_stay : (slot : Slot) (slots : List Slot) (front back : Log) → list_all (differs slot) slots ≡ true →
      AllByRecursion (IsIn slot) front →
      flat_map (λ s. in_slot s (front ++ back)) slots ≡ flat_map (λ s. in_slot s back) slots
  others_stay slot [] front back apart all = refl
  others_stay slot (s ∷ slots) front back apart all =
      let parts = both (differs slot s) (list_all (differs slot) slots) apart in
      ap (λ l. l ++ flat_map (λ t. in_slot t (front ++ back)) slots)
      (filter-append (λ (entry : EntryValue). same_slot entry.slot s) front back
      ∙ ap (λ l. l ++ in_slot s back) (none_in slot s front (apart-is slot s parts.0).0 all))
      ∙ ap (λ l. in_slot s back ++ l) (others_stay slot slots front back parts.1 all)

  slot_by_slot : (slots : List Slot) (entries : Log) → are_apart slots ≡ true →
      AllZip (IsDue M past e) (flat_map (slot_carries c e) slots) entries →
      flat_map (λ s. in_slot s entries) slots ≡ entries
  slot_by_slot [] [] apart due = refl
  slot_by_slot [] (x ∷ entries) apart due = absurd due
  slot_by_slot (s ∷ slots) entries apart due =
      let parts = both (list_all (differs s) slots) (are_apart slots) apart in
      let split = zip_split (IsDue M past e) (slot_carries c e s) (flat_map (slot_carries c e) slots) entries due in
      let front = split.0 in
      let back = split.1 in
      let all = entries_in s (slot_carries c e s) front (carried_in c e s) split.3 in
      ap (λ es. flat_map (λ t. in_slot t es) (s ∷ slots)) split.2
      ∙ ap (λ l. l ++ flat_map (λ t. in_slot t (front ++ back)) slots)
      (filter-append (λ (entry : EntryValue). same_slot entry.slot s) front back
      ∙ ap (λ l. l ++ in_slot s back) (all_in s front all)
      ∙ ap (λ l. front ++ l) (nothing_in s slots back parts.0 split.4)
      ∙ append-nil front)
      ∙ ap (λ l. front ++ l) (others_stay s slots front back parts.0 all ∙ slot_by_slot slots back parts.1 split.4)
      ∙ sym split.2

-- ---- the events of a run

cycle_delivers : (M : MissionValue) (steps : Steps) (past : Past) (e : Cycle) (entries : Log) → e.entries ≡ entries →
    AllZip (IsDue M past e) (cycle_carries (this_cycle past) e) entries →
    delivered (cycle_events M steps past e) ≡ entries
cycle_delivers M steps past e entries are due =
    cycle_seen entry_delivered deaf M steps past e
    ∙ flat_alike (seen_of_slot entry_delivered deaf steps e) (λ slot. in_slot slot e.entries) every_slot
    (of_slot steps e)
    ∙ ap (λ es. flat_map (λ slot. in_slot slot es) every_slot) are
    ∙ slot_by_slot M past e (this_cycle past) every_slot entries refl due

run_delivers : (M : MissionValue) (L : Log) (n : ℕ) (histories : Histories) (entries later : Log) →
    L ≡ entries ++ later →
    AreFrom (length (cycles_before M L n)) later → AreDue M (cycles_before M L n) entries →
    delivered (events M histories (cycles_before M L n)) ≡ entries
run_delivers M L zero histories entries later split from due = sym due
run_delivers M L (suc k) histories entries later split from due =
    let past = cycles_before M L k in
    let e = next_cycle M L past in
    let n = length past in
    let whole : L ≡ (due.0 ++ due.1) ++ later = split ∙ ap (λ es. es ++ later) due.2 in
    let now_of = entries_cycle M past e n (cycle_carries n e) due.1 due.4 (all_of_cycle n e) in
    let these : e.entries ≡ due.1 =
    entries_now M L past ∙ ap (entries_of n) whole
    ∙ entries_between n due.0 due.1 later (due_earlier M past due.0 due.3) now_of from in
    filter_map-append entry_delivered (events M (earlier_steps histories) past)
    (cycle_events M (latest_steps histories) past e)
    ∙ ap (λ l. l ++ delivered (cycle_events M (latest_steps histories) past e))
    (run_delivers M L k (earlier_steps histories) due.0 (due.1 ++ later) (whole ∙ append_assoc due.0 due.1 later)
    (from-append n due.1 later now_of from) due.3)
    ∙ ap (λ l. due.0 ++ l) (cycle_delivers M (latest_steps histories) past e due.1 these due.4)
    ∙ sym due.2

pub run_is_delivered : (M : MissionValue) (L : Log) (n : ℕ) (histories : Histories) → (run : HasRun M L n) →
    delivered (events M histories (cycles_before M L n)) ≡ run.before
run_is_delivered M L n histories run =
    run_delivers M L n histories run.before run.later run.entries
    (subst (λ k. AreFrom k run.later) (sym (length-cycles_before M L n)) run.after) run.due
