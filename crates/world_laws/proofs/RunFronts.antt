-- What was carried of a cycle does not go past a slot that stops the run.
use Rattle.std.proofs.Common.{◌≡◌, ℕ, zero, suc, ◌+◌, ◌≤◌, ◌<◌, ◌==◌, ◌&&◌, Bool, true, false, List, [], ◌∷◌, ◌++◌, length, refl, ap, subst, ◌∙◌, append_assoc, arith}
use Rattle.std.specs.Prelude.{take, filter, flat_map, nat_le}
use Rattle.std.specs.List.{AllZip, list_all}
use Rattle.std.proofs.lemmas.Bool.{leb-true, leb-false}
use Rattle.std.proofs.lemmas.List.{length-append}
use Rattle.guards_model.specs.declared.Slot.{Slot}
use Rattle.guards_model.specs.declared.Slot.TheVariants.{Request, Round1, Round2, Round3, Tasks, Vote, Sweep, Final, Switch, Output}
use Rattle.guards_model.specs.Slots.{slot_index, every_slot, up_to, on_bus, stage_after, stage_before}
use Rattle.guards_model.specs.Missions.{MissionValue}
use Rattle.guards_model.specs.Network.{Log}
use Rattle.guards_model.specs.Rounds.{Steps, steps_of}
use Rattle.guards_model.proofs.BoolTests.{both, and_true}
use Rattle.guards_runs.specs.Cycles.{Past, Cycle, cycle_from, cycles_before, cycle_at, entries_of}
use Rattle.guards_runs.specs.Disturbed.{halts}
use Rattle.guards_runs.specs.Due.{Carry, IsMadeBy, slot_carries, carries_through}
use Rattle.guards_runs.specs.SlotFacts.{AreFromPlace}
use Rattle.guards_world.specs.InCycle.{InCycle, carries_done}
use Rattle.guards_world.specs.Worlds.{WorldValue}
use Rattle.guards_world.specs.Passing.{AreDueCarries}
use Rattle.world_laws.proofs.SlotCarriedLemmas.{carries_next, placed, placed_carries, grown, stay_made, stay_new, halts_same}
use Rattle.world_laws.proofs.SlotsEntered.{breaks_slot}
use Rattle.world_laws.specs.Fronts.{IsUpToStop, IsRunFront}

-- ---- lists

zip_length : {A B : Type 0} (R : A → B → Type 0) (xs : List A) (ys : List B) → AllZip R xs ys → length ys ≡ length xs
zip_length R [] [] z = refl
zip_length R [] (y ∷ ys) z = absurd z
zip_length R (x ∷ xs) [] z = absurd z
zip_length R (x ∷ xs) (y ∷ ys) z = ap suc (zip_length R xs ys z.1)

few_of : {A : Type 0} (few : ℕ) (xs : List A) → length (take few xs) ≤ length xs
few_of zero xs = omega arith
few_of (suc few) [] = omega arith
few_of (suc few) (x ∷ xs) = omega (arith, few_of few xs)

all_taken : {A : Type 0} (P : A → Bool) (few : ℕ) (xs : List A) → list_all P xs ≡ true → list_all P (take few xs) ≡ true
all_taken P zero xs h = refl
all_taken P (suc few) [] h = refl
all_taken P (suc few) (x ∷ xs) h =
    let parts = both (P x) (list_all P xs) h in
    and_true (P x) (list_all P (take few xs)) parts.0 (all_taken P few xs parts.1)

-- a longer front of a list makes no fewer
longer_front : {A B : Type 0} (f : A → List B) (few more : ℕ) (xs : List A) → few ≤ more →
    length (flat_map f (take few xs)) ≤ length (flat_map f (take more xs))
longer_front f zero more xs h = omega arith
longer_front f (suc few) zero xs h = absurd (omega (arith, h))
longer_front f (suc few) (suc more) [] h = omega arith
longer_front f (suc few) (suc more) (x ∷ xs) h =
    omega (
      arith,
      length-append (f x) (flat_map f (take few xs)),
      length-append (f x) (flat_map f (take more xs)),
      longer_front f few more xs (omega (arith, h)),
    )

-- ---- the carries up to a slot

slots_through : (slot : Slot) → filter (λ s. up_to s slot) every_slot ≡ take (suc (slot_index slot)) every_slot
slots_through Request = refl
slots_through Round1 = refl
slots_through Round2 = refl
slots_through Round3 = refl
slots_through Tasks = refl
slots_through Vote = refl
slots_through Sweep = refl
slots_through Final = refl
slots_through Switch = refl
slots_through Output = refl

through_is : (c : ℕ) (e : Cycle) (slot : Slot) → carries_through c e slot ≡ carries_done c e (stage_after slot)
through_is c e slot = ap (flat_map (slot_carries c e)) (slots_through slot)

-- those of a slot that is not earlier are no fewer
pub later_through : (c : ℕ) (e : Cycle) (slot later : Slot) → slot_index slot ≤ slot_index later →
    length (carries_through c e slot) ≤ length (carries_through c e later)
later_through c e slot later h =
    rw (through_is c e slot, through_is c e later)
    (longer_front (slot_carries c e) (suc (slot_index slot)) (suc (slot_index later)) every_slot (omega (arith, h)))

-- ---- within a slot

module _ (M : MissionValue) (earlier current new : Log) (steps : Steps) (slot : Slot) (on : on_bus slot ≡ true)
    (w : WorldValue)
    (inside : InCycle M earlier current steps slot (stage_before slot) (stage_before slot) w) (few : ℕ)
    (carried : AreDueCarries M (earlier ++ current) w.done steps
    (take few (slot_carries w.done (cycle_at M (earlier ++ current) w.done) slot)) new) where
  abbrev n : ℕ
  n = w.done

  abbrev K : Log
  K = earlier ++ current

  abbrev e : Cycle
  e = cycle_at M K n

  abbrev after : Cycle
  after = cycle_at M (earlier ++ (current ++ new)) n

  late : AreFromPlace n (slot_index slot) new
  late =
      placed M (cycles_before M K n) e steps n slot (take few (slot_carries n e slot)) new
      (all_taken (λ (carry : Carry). carry.cycle == n && nat_le (slot_index slot) (slot_index carry.slot)) few
      (slot_carries n e slot) (placed_carries n e slot)) carried

  abbrev past : Past
  past = cycles_before M K n

  abbrev more : Cycle
  more = cycle_from M (entries_of (length past) K ++ entries_of (length past) new) past

  -- what holds of the cycle with the new entries holds of the longer log
  at_log : (Φ : Cycle → Type 0) → Φ more → Φ after
  at_log Φ h = subst (λ (X : Log). Φ (cycle_at M X n)) (append_assoc earlier current new)
      (grown M K new n steps slot on late (λ p x. Φ x) h)

  -- no more was carried than up to the end of the slot
  within_slot : length (current ++ new) ≤ length (carries_through n after slot)
  within_slot = at_log (λ x. length (current ++ new) ≤ length (carries_through n x slot)) counted
    where
      before : length current ≡ length (carries_done n more (stage_before slot))
      before =
          zip_length (λ carry entry. IsMadeBy M past more (steps_of steps carry.from) carry entry)
          (carries_done n more (stage_before slot)) current
          (stay_made M K new n steps slot on late current inside.made)

      here : length new ≡ length (take few (slot_carries n more slot))
      here =
          zip_length (λ carry entry. IsMadeBy M past more (steps_of steps carry.from) carry entry)
          (take few (slot_carries n more slot)) new
          (stay_new M K new n steps slot on late few carried)

      whole : length (carries_through n more slot)
          ≡ length (carries_done n more (stage_before slot)) + length (slot_carries n more slot)
      whole =
          ap (λ (xs : List Carry). length xs) (through_is n more slot ∙ carries_next n more slot on)
          ∙ length-append (carries_done n more (stage_before slot)) (slot_carries n more slot)

      counted : length (current ++ new) ≤ length (carries_through n more slot)
      counted = omega (arith, length-append current new, before, here, whole, few_of few (slot_carries n more slot))

  -- and the slots before do not stop the run
  unhalted : (s : Slot) → slot_index s < slot_index slot → halts n after s ≡ false
  unhalted s early = at_log (λ x. halts n x s ≡ false)
      (halts_same M K new n steps slot on late s early ∙ inside.unhalted s early)

  up_to_stop : IsUpToStop M earlier (current ++ new) n
  up_to_stop s stops = by_place (nat_le (slot_index slot) (slot_index s)) refl
    where
      by_place : (b : Bool) → nat_le (slot_index slot) (slot_index s) ≡ b →
          length (current ++ new) ≤ length (carries_through n after s)
      by_place true is = omega (
        arith,
        within_slot,
        later_through n after slot s (leb-true (slot_index slot) (slot_index s) is),
      )
      by_place false is =
          let goes : halts n after s ≡ false = unhalted s (leb-false (slot_index slot) (slot_index s) is) in
          absurd cc

  pub run_front : IsRunFront M earlier (current ++ new) n
  run_front = record {
    front = breaks_slot M earlier current new steps slot on w inside few carried;
    up_to_stop = up_to_stop;
  }
