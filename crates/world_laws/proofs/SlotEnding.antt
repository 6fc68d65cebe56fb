-- Who is disturbed when a slot is carried, and whether the run stops there.
use Rattle.std.proofs.Common.{◌≡◌, ℕ, suc, ◌≤◌, ◌<◌, ◌==◌, Bool, true, false, cond, ◌&&◌, ◌||◌, List, [], ◌∷◌, ◌++◌, length, refl, sym, ap, subst, ◌∙◌, append_assoc, arith}
use Rattle.std.specs.Prelude.{nat_le, nat_lt, take}
use Rattle.std.specs.List.{AllZip, list_all, list_any}
use Rattle.std.proofs.lemmas.Bool.{leb-true, le-leb, eqb-true}
use Rattle.std.proofs.lemmas.List.Elements.{filter-append}
use Rattle.std.proofs.lemmas.List.Folds.{list_any-append}
use Rattle.guards_model.specs.declared.Slot.{Slot}
use Rattle.guards_model.specs.declared.Slot.TheVariants.{Request, Round1, Round2, Round3, Tasks, Vote, Sweep, Final, Switch, Output}
use Rattle.guards_model.specs.Slots.{slot_index, every_slot, on_bus, up_to, stage_before}
use Rattle.guards_model.specs.Channels.{Channel, ChannelSet, has, place_or, by_channel, channels_where}
use Rattle.guards_model.specs.Ledgers.{LedgerValue, disturbed_by, limit_reached}
use Rattle.guards_model.specs.Missions.{MissionValue}
use Rattle.guards_model.specs.Modes.{down, is_up}
use Rattle.guards_model.specs.Network.{EntryValue, Log}
use Rattle.guards_model.specs.Rounds.{Steps}
use Rattle.guards_model.proofs.BoolTests.{both, and_true}
use Rattle.guards_model.proofs.ListTests.{all-append, all-flat_map, weaken}
use Rattle.guards_runs.specs.Cycles.{Past, Cycle, CycleStart, cycles_before, cycle_at, entries_of}
use Rattle.guards_runs.specs.Disturbed.{is_charge, differs_from}
use Rattle.guards_runs.specs.Due.{Carry, AreDue, slot_carries, cycle_carries}
use Rattle.guards_runs.specs.SlotFacts.{AreFromPlace}
use Rattle.guards_laws.proofs.DueEntries.{all_of_cycle, carries_of, entries_cycle, entries_now}
use Rattle.guards_laws.proofs.LogGrows.{length-cycles_before, cycles_before-append}
use Rattle.guards_world.specs.InCycle.{InCycle, carries_done, ledger_in}
use Rattle.guards_world.specs.Worlds.{WorldValue}
use Rattle.guards_world.specs.WorldCycle.{AreFull}
use Rattle.node_laws.proofs.Holding.{all_of_flat}
use Rattle.node_laws.proofs.Staying.{from_cycle}
use Rattle.guards_world.specs.Passing.{AreDueCarries}
use Rattle.world_laws.proofs.SlotCarriedLemmas.{earlier_slots, placed, placed_carries}
use Rattle.world_laws.proofs.LedgerFollows.{disturbed_are, stop_is}
use Rattle.world_laws.specs.Ended.{SlotEnds}
use Rattle.world_laws.proofs.Following.{Made, in_slot, of_cycle}
use Rattle.world_laws.proofs.SlotKept.{full_later, opening_later}

-- ---- the entries of a cycle

entries_of-all : (c : ℕ) (xs : Log) → list_all (λ (x : EntryValue). x.cycle == c) xs ≡ true → entries_of c xs ≡ xs
entries_of-all c [] h = refl
entries_of-all c (x ∷ xs) h =
    let parts = both (x.cycle == c) (list_all (λ (z : EntryValue). z.cycle == c) xs) h in
    ap (λ b. cond b (x ∷ entries_of c xs) (entries_of c xs)) parts.0 ∙ ap (λ ys. x ∷ ys) (entries_of-all c xs parts.1)

entries_of-earlier : (n : ℕ) (xs : Log) → list_all (λ (x : EntryValue). nat_lt x.cycle n) xs ≡ true →
    entries_of n xs ≡ []
entries_of-earlier n [] h = refl
entries_of-earlier n (x ∷ xs) h =
    let parts = both (nat_lt x.cycle n) (list_all (λ (z : EntryValue). nat_lt z.cycle n) xs) h in
    let other : (x.cycle == n) ≡ false = grind (arith, leb-true (suc x.cycle) n parts.0) in
    ap (λ b. cond b (x ∷ entries_of n xs) (entries_of n xs)) other ∙ entries_of-earlier n xs parts.1

-- the entries that are due for some cycles are of cycles before
due_earlier : (M : MissionValue) (P : Past) (entries : Log) → AreDue M P entries →
    list_all (λ (x : EntryValue). nat_lt x.cycle (length P)) entries ≡ true
due_earlier M [] entries due = ap (list_all (λ (x : EntryValue). nat_lt x.cycle 0)) due
due_earlier M (e ∷ past) entries due =
    let n = length past in
    let first = weaken (λ (x : EntryValue). nat_lt x.cycle n) (λ (x : EntryValue). nat_lt x.cycle (suc n)) due.0
    (λ x h. le-leb (suc x.cycle) (suc n) (omega (arith, leb-true (suc x.cycle) n h)))
    (due_earlier M past due.0 due.3) in
    let last = weaken (λ (x : EntryValue). x.cycle == n) (λ (x : EntryValue). nat_lt x.cycle (suc n)) due.1
    (λ x h. le-leb (suc x.cycle) (suc n) (omega (arith, eqb-true x.cycle n h)))
    (entries_cycle M past e n (cycle_carries n e) due.1 due.4 (all_of_cycle n e)) in
    ap (list_all (λ (x : EntryValue). nat_lt x.cycle (suc n))) due.2
    ∙ all-append (λ (x : EntryValue). nat_lt x.cycle (suc n)) due.0 due.1 first last

-- ---- the slots of entries

slots_of : (M : MissionValue) (L : Log) (n : ℕ) (steps : Steps) (P : Slot → Bool) (carries : List Carry)
    (entries : Log) → list_all (λ (carry : Carry). P carry.slot) carries ≡ true →
    AllZip (Made M L n steps) carries entries → list_all (λ (y : EntryValue). P y.slot) entries ≡ true
slots_of M L n steps P [] [] h z = refl
slots_of M L n steps P [] (y ∷ entries) h z = absurd z
slots_of M L n steps P (x ∷ carries) [] h z = absurd z
slots_of M L n steps P (x ∷ carries) (y ∷ entries) h z =
    let parts = both (P x.slot) (list_all (λ (carry : Carry). P carry.slot) carries) h in
    and_true (P y.slot) (list_all (λ (v : EntryValue). P v.slot) entries)
    (subst (λ s. P s ≡ true) (sym z.0.slot) parts.0) (slots_of M L n steps P carries entries parts.1 z.1)

place_low : (slot : Slot) → on_bus slot ≡ true → slot_index slot ≤ 8
place_low Request on = omega arith
place_low Round1 on = omega arith
place_low Round2 on = omega arith
place_low Round3 on = omega arith
place_low Tasks on = omega arith
place_low Vote on = omega arith
place_low Sweep on = omega arith
place_low Final on = omega arith
place_low Switch on = omega arith
place_low Output on = absurd cc

-- who is charged for entries of slots up to this one is charged for them in the cycle
same_charge : (n : ℕ) (slot : Slot) (q : Channel) (entries : Log) → slot_index slot ≤ 8 →
    list_all (λ (y : EntryValue). nat_le (slot_index y.slot) (slot_index slot)) entries ≡ true →
    list_any (is_charge n slot q) entries ≡ list_any (is_charge n Switch q) entries
same_charge n slot q [] low h = refl
same_charge n slot q (y ∷ entries) low h =
    let parts = both (nat_le (slot_index y.slot) (slot_index slot))
    (list_all (λ (v : EntryValue). nat_le (slot_index v.slot) (slot_index slot)) entries) h in
    let by_end : up_to y.slot Switch ≡ true =
    le-leb (slot_index y.slot) 8 (omega (arith, leb-true (slot_index y.slot) (slot_index slot) parts.0, low)) in
    ap (λ b. (((y.cycle == n && b) && y.from == q) && differs_from y.sent y.delivered)
    || list_any (is_charge n slot q) entries) (parts.0 ∙ sym by_end)
    ∙ ap (λ b. is_charge n Switch q y || b) (same_charge n slot q entries low parts.1)

-- ---- the ledger of a slot

abbrev ledger_of : MissionValue → Slot → CycleStart → LedgerValue
ledger_of M slot o =
    record {
      return_after = M.return_after;
      modes = by_channel (λ q. place_or (place_or o.modes (slot_index slot) []) q down);
      damaged = channels_where (λ q. has o.damaged q
          && is_up (place_or (place_or o.modes (slot_index slot) []) q down));
    }

module _ (M : MissionValue) (earlier current new : Log) (steps : Steps) (slot : Slot) (w : WorldValue)
    (on : on_bus slot ≡ true)
    (inside : InCycle M earlier current steps slot (stage_before slot) (stage_before slot) w)
    (carried : AreDueCarries M (earlier ++ current) w.done steps
    (slot_carries w.done (cycle_at M (earlier ++ current) w.done) slot) new) where
  abbrev n : ℕ
  n = w.done

  abbrev K : Log
  K = earlier ++ current

  abbrev longer : Log
  longer = earlier ++ (current ++ new)

  abbrev e : Cycle
  e = cycle_at M K n

  abbrev x : Cycle
  x = cycle_at M longer n

  late : AreFromPlace n (slot_index slot) new
  late = placed M (cycles_before M K n) e steps n slot (slot_carries n e slot) new (placed_carries n e slot) carried

  opening_same : x.opening ≡ e.opening
  opening_same = subst (λ (X : Log). (cycle_at M X n).opening ≡ e.opening) (append_assoc earlier current new)
      (opening_later M K new n (slot_index slot) late)

  past_same : cycles_before M longer n ≡ cycles_before M K n
  past_same = subst (λ (X : Log). cycles_before M X n ≡ cycles_before M K n) (append_assoc earlier current new)
      (cycles_before-append M K new n (from_cycle n (slot_index slot) new late))

  these : list_all (λ (y : EntryValue). y.cycle == n) (current ++ new) ≡ true
  these =
      all-append (λ (y : EntryValue). y.cycle == n) current new
      (of_cycle M K n steps (carries_done n e (stage_before slot)) current
      (all-flat_map (λ (carry : Carry). carry.cycle == n) (slot_carries n e) (take (slot_index slot) every_slot)
      (carries_of n e)) inside.made)
      (of_cycle M K n steps (slot_carries n e slot) new (carries_of n e slot) carried)

  entries_are : x.entries ≡ current ++ new
  entries_are =
      let P : Past = cycles_before M longer n in
      let before : AreDue M P earlier = subst (λ (p : Past). AreDue M p earlier) (sym past_same) inside.before in
      entries_now M longer P
      ∙ filter-append (λ (y : EntryValue). y.cycle == length P) earlier (current ++ new)
      ∙ ap (λ es. es ++ entries_of (length P) (current ++ new))
      (entries_of-earlier (length P) earlier (due_earlier M P earlier before))
      ∙ ap (λ m. entries_of m (current ++ new)) (length-cycles_before M longer n)
      ∙ entries_of-all n (current ++ new) these

  -- ---- who is charged

  abbrev up_to_slot : Slot → Bool
  up_to_slot s = nat_le (slot_index s) (slot_index slot)

  new_slots : list_all (λ (y : EntryValue). up_to_slot y.slot) new ≡ true
  new_slots = slots_of M K n steps up_to_slot (slot_carries n e slot) new
      (in_slot n e slot up_to_slot (le-leb (slot_index slot) (slot_index slot) (omega arith))) carried

  now_slots : list_all (λ (y : EntryValue). up_to_slot y.slot) current ≡ true
  now_slots =
      slots_of M K n steps up_to_slot (carries_done n e (stage_before slot)) current
      (all_of_flat (λ (carry : Carry). up_to_slot carry.slot) (λ s. nat_lt (slot_index s) (slot_index slot))
      (slot_carries n e) (take (slot_index slot) every_slot) (earlier_slots slot on)
      (λ s h. in_slot n e s up_to_slot
      (le-leb (slot_index s) (slot_index slot) (omega (arith, leb-true (suc (slot_index s)) (slot_index slot) h)))))
      inside.made

  module _ (active charged marked : ChannelSet) (active_is : active ≡ e.active)
      (charged_are : (q : Channel) → q < 7 → has charged q ≡ list_any (is_charge n Switch q) current)
      (marked_are : (q : Channel) → q < 7 → has marked q ≡ (has charged q || list_any (is_charge n slot q) new)) where
    all_charged : (q : Channel) → q < 7 → has marked q ≡ list_any (is_charge n Switch q) (current ++ new)
    all_charged q low =
        marked_are q low
        ∙ ap (λ b. b || list_any (is_charge n slot q) new) (charged_are q low)
        ∙ ap (λ b. list_any (is_charge n Switch q) current || b)
        (same_charge n slot q new (place_low slot on) new_slots)
        ∙ sym (list_any-append (is_charge n Switch q) current new)

    in_facts : (q : Channel) → q < 7 → has marked q ≡ list_any (is_charge n slot q) x.entries
    in_facts q low =
        all_charged q low
        ∙ sym (same_charge n slot q (current ++ new) (place_low slot on)
        (all-append (λ (y : EntryValue). up_to_slot y.slot) current new now_slots new_slots))
        ∙ ap (list_any (is_charge n slot q)) (sym entries_are)

    active_same : active ≡ x.active
    active_same = active_is ∙ ap (λ (o : CycleStart). o.active) (sym opening_same)

    ledger_same : w.ledger ≡ ledger_in M x slot
    ledger_same = inside.ledger ∙ ap (ledger_of M slot) (sym opening_same)

    ends : SlotEnds M earlier current new steps slot active marked w
    ends =
        record {
          entries = entries_are;
          active_is = active_same;
          charged = all_charged;
          disturbed = ap (λ (s : ChannelSet). disturbed_by s marked w.ledger) active_same
              ∙ ap (disturbed_by x.active marked) ledger_same
              ∙ disturbed_are M longer n inside.ranges slot marked in_facts;
          halts = ap (λ (s : ChannelSet). limit_reached s marked w.ledger) active_same
              ∙ ap (limit_reached x.active marked) ledger_same ∙ stop_is M longer n inside.ranges slot marked in_facts;
          full = λ passed were. subst (λ (X : Log). AreFull M (cycles_before M X n) (cycle_at M X n) steps)
              (append_assoc earlier current new)
              (full_later M K new n (slot_index slot) late (omega (arith, passed)) steps were);
        }

pub slot_ends : (M : MissionValue) (earlier current new : Log) (steps : Steps) (slot : Slot)
    (active charged marked : ChannelSet) (w : WorldValue) → on_bus slot ≡ true →
    InCycle M earlier current steps slot (stage_before slot) (stage_before slot) w →
    AreDueCarries M (earlier ++ current) w.done steps
    (slot_carries w.done (cycle_at M (earlier ++ current) w.done) slot) new →
    active ≡ (cycle_at M (earlier ++ current) w.done).active →
    ((q : Channel) → q < 7 → has charged q ≡ list_any (is_charge w.done Switch q) current) →
    ((q : Channel) → q < 7 → has marked q ≡ (has charged q || list_any (is_charge w.done slot q) new)) →
    SlotEnds M earlier current new steps slot active marked w
slot_ends M earlier current new steps slot active charged marked w on inside carried active_is charged_are marked_are =
    ends M earlier current new steps slot w on inside carried active charged marked active_is charged_are marked_are
