-- The first slot in which a cycle stops, of two runs that are alike as far as both came in it.
use Rattle.std.proofs.Common.{◌≡◌, ◌≤◌, ℕ, ◌⊎◌, inl, inr, Bool, true, false, cond, ◌&&◌, List, [], ◌∷◌, length, Option, None, Some, refl, sym, ap, subst, ◌∙◌, arith}
use Rattle.std.specs.Prelude.{find, option_map}
use Rattle.std.specs.List.{list_all}
use Rattle.std.proofs.lemmas.Bool.{leb-false, le-leb}
use Rattle.guards_model.specs.declared.Slot.{Slot}
use Rattle.guards_model.specs.declared.Slot.TheVariants.{Request, Round1, Round2, Round3, Tasks, Vote, Sweep, Final, Switch, Output}
use Rattle.guards_model.specs.Slots.{up_to, every_slot, slot_index}
use Rattle.guards_model.specs.Channels.{ChannelSet}
use Rattle.guards_model.specs.Missions.{MissionValue, bus_rules}
use Rattle.guards_model.specs.Network.{Log}
use Rattle.guards_model.specs.Texts.{StopValue}
use Rattle.guards_runs.specs.Cycles.{Cycle, CycleStart, Past, next_cycle}
use Rattle.guards_runs.specs.Disturbed.{disturbed_channels, halts, stop_in}
use Rattle.guards_model.proofs.BoolTests.{both}
use Rattle.guards_model.proofs.SlotTests.{up_to-trans}
use Rattle.script_laws.proofs.SamePast.{same_size}
use Rattle.script_laws.specs.Scripts.{ForgesNoSweep}
use Rattle.script_laws.proofs.SlotsAlike.{InBoth, AreBesides, same_start}
use Rattle.script_laws.proofs.Charges.{swapped, disturbed_same, halts_same}

-- ---- the first slot that passes a test

-- whether each slot of a list comes before those after it
abbrev in_order : List Slot → Bool
in_order [] = true
in_order (x ∷ slots) = list_all (up_to x) slots && in_order slots

some_is : (x y : Slot) → Some x ≡ Some y → x ≡ y
some_is x y h = cc

found_passes : (t p : Slot → Bool) (slots : List Slot) (s : Slot) → list_all t slots ≡ true → find p slots ≡ Some s →
    (t s ≡ true) × (p s ≡ true)
found_passes t p [] s all h = absurd cc
found_passes t p (x ∷ slots) s all h =
    let parts = both (t x) (list_all t slots) all in
    by_test parts.0 (p x) refl h (found_passes t p slots s parts.1)
  where
    by_test : t x ≡ true → (b : Bool) → p x ≡ b → cond b (Some x) (find p slots) ≡ Some s →
        (find p slots ≡ Some s → (t s ≡ true) × (p s ≡ true)) → (t s ≡ true) × (p s ≡ true)
    by_test first true e k later = subst (λ (y : Slot). (t y ≡ true) × (p y ≡ true)) (some_is x s k) (first, e)
    by_test first false e k later = later k

-- a test that answers the same up to the first slot that passes has it as its first
first_same : (p r : Slot → Bool) (slots : List Slot) (s : Slot) → in_order slots ≡ true → find p slots ≡ Some s →
    ((x : Slot) → up_to x s ≡ true → p x ≡ r x) → find r slots ≡ Some s
first_same p r [] s order h same = h
first_same p r (x ∷ slots) s order h same =
    let parts = both (list_all (up_to x) slots) (in_order slots) order in
    by_test parts.0 (p x) refl h (λ k. first_same p r slots s parts.1 k same)
  where
    by_test : list_all (up_to x) slots ≡ true → (b : Bool) → p x ≡ b → cond b (Some x) (find p slots) ≡ Some s →
        (find p slots ≡ Some s → find r slots ≡ Some s) →
        cond (r x) (Some x) (find r slots) ≡ Some s
    by_test after true e k later =
        let soon : up_to x s ≡ true =
        le-leb (slot_index x) (slot_index s) (omega (arith, ap slot_index (some_is x s k))) in
        ap (λ b. cond b (Some x) (find r slots)) (sym (same x soon) ∙ e) ∙ k
    by_test after false e k later =
        ap (λ b. cond b (Some x) (find r slots)) (sym (same x (found_passes (up_to x) p slots s after k).0) ∙ e)
        ∙ later k

-- ---- one cycle

-- a run came in a cycle to the first slot that stops it, or to the end where none does
abbrev pub ComesTo : ℕ → Cycle → Slot → Type 0
ComesTo c e last = (find (halts c e) every_slot ≡ Some last) ⊎ ((last ≡ Output) × (find (halts c e) every_slot ≡ None))

-- every slot comes before the last
before_end : (slot : Slot) → up_to slot Output ≡ true
before_end Request = refl
before_end Round1 = refl
before_end Round2 = refl
before_end Round3 = refl
before_end Tasks = refl
before_end Vote = refl
before_end Sweep = refl
before_end Final = refl
before_end Switch = refl
before_end Output = refl

pub same_slot_first : (slot : Slot) → up_to slot slot ≡ true
same_slot_first slot = le-leb (slot_index slot) (slot_index slot) (omega arith)

module _ (M : MissionValue) (L K : Log) (P R : Past) (last other : Slot) (two : AreBesides M L K P R last other)
    (none : ForgesNoSweep (bus_rules M)) where
  -- where the first run stopped, and the second came as far, it stopped there too
  stops_too : find (halts (length P) (next_cycle M L P)) every_slot ≡ Some last → up_to last other ≡ true →
      find (halts (length R) (next_cycle M K R)) every_slot ≡ Some last
  stops_too h soon =
      first_same (halts (length P) (next_cycle M L P)) (halts (length R) (next_cycle M K R)) every_slot last refl h
      (λ x before. halts_same M L K P R last other two none x
      (record { first = before; second = up_to-trans x last other before soon }))

module _ (M : MissionValue) (L K : Log) (P R : Past) (last other : Slot) (two : AreBesides M L K P R last other)
    (none : ForgesNoSweep (bus_rules M)) where
  abbrev e : Cycle
  e = next_cycle M L P

  abbrev d : Cycle
  d = next_cycle M K R

  -- a slot that both have as their first stop
  same_from : (slot : Slot) → InBoth last other slot → find (halts (length P) e) every_slot ≡ Some slot →
      find (halts (length R) d) every_slot ≡ Some slot →
      stop_in (length P) e ≡ stop_in (length R) d
  same_from slot in_both h k =
      let T : ℕ → Cycle → Slot →
      StopValue = λ c x s. record { cycle = c; slot = s; set = disturbed_channels c x s; active = x.active } in
      let S : ℕ → ChannelSet → ChannelSet →
      Option StopValue = λ c set active. Some (record { cycle = c; slot = slot; set = set; active = active }) in
      ap (option_map (T (length P) e)) h
      ∙ ap (λ c. S c (disturbed_channels (length P) e slot) e.active) (same_size P R two.same)
      ∙ ap (λ set. S (length R) set e.active) (disturbed_same M L K P R last other two none slot in_both)
      ∙ ap (λ (o : CycleStart). S (length R) (disturbed_channels (length R) d slot) o.active)
      (same_start M L K P R last other two)
      ∙ sym (ap (option_map (T (length R) d)) k)

  first_of_both : up_to last other ≡ true → find (halts (length P) e) every_slot ≡ Some last →
      stop_in (length P) e ≡ stop_in (length R) d
  first_of_both soon h =
      same_from last (record { first = same_slot_first last; second = soon }) h
      (stops_too M L K P R last other two none h soon)

  second_of_both : up_to other last ≡ true → find (halts (length R) d) every_slot ≡ Some other →
      stop_in (length P) e ≡ stop_in (length R) d
  second_of_both soon k =
      same_from other (record { first = soon; second = same_slot_first other })
      (stops_too M K L R P other last (swapped M L K P R last other two) none k soon) k

  by_order : (b : Bool) → up_to last other ≡ b → find (halts (length P) e) every_slot ≡ Some last →
      find (halts (length R) d) every_slot ≡ Some other → stop_in (length P) e ≡ stop_in (length R) d
  by_order true soon h k = first_of_both soon h
  by_order false later h k =
      let less : slot_index other ≤ slot_index last =
      omega (arith, leb-false (slot_index last) (slot_index other) later) in
      second_of_both (le-leb (slot_index other) (slot_index last) less) k

  -- so they stop in the same slot with the same sets, or neither stops
  pub stops_same : ComesTo (length P) e last → ComesTo (length R) d other → stop_in (length P) e ≡ stop_in (length R) d
  stops_same (inl h) (inl k) = by_order (up_to last other) refl h k
  stops_same (inl h) (inr (is, k)) = first_of_both (ap (up_to last) is ∙ before_end last) h
  stops_same (inr (is, h)) (inl k) = second_of_both (ap (up_to other) is ∙ before_end other) k
  stops_same (inr (is, h)) (inr (is_too, k)) =
      let T : ℕ → Cycle → Slot →
      StopValue = λ c x s. record { cycle = c; slot = s; set = disturbed_channels c x s; active = x.active } in
      ap (option_map (T (length P) e)) h ∙ sym (ap (option_map (T (length R) d)) k)
