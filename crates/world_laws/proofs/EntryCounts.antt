-- How many entries a slot, a cycle and a run carry at most.
use Rattle.std.proofs.Common.{◌≡◌, ℕ, zero, suc, ◌*◌, ◌≤◌, Bool, true, false, cond, not, List, [], ◌∷◌, ◌++◌, length, map, Option, None, Some, refl, ap, ◌∙◌, arith}
use Rattle.std.specs.Prelude.{filter, flat_map, take}
use Rattle.std.specs.List.{AllZip}
use Rattle.std.proofs.lemmas.List.{length-append}
use Rattle.std.proofs.lemmas.List.Sums.{length-filter, count_by-le-length}
use Rattle.guards_model.specs.declared.Slot.{Slot}
use Rattle.guards_model.specs.declared.Slot.TheVariants.{Request, Round1, Round2, Round3, Tasks, Vote, Sweep, Final, Switch, Output}
use Rattle.guards_model.specs.Slots.{every_slot}
use Rattle.guards_model.specs.Channels.{has, without, channels_where, every_channel}
use Rattle.guards_model.specs.Frames.{is_set}
use Rattle.guards_model.specs.Missions.{MissionValue, IsMission}
use Rattle.guards_model.specs.Network.{Log}
use Rattle.guards_model.specs.Rounds.{Steps, steps_of}
use Rattle.guards_model.specs.Transfers.{TransferValue}
use Rattle.guards_runs.specs.Cycles.{cycles_before, cycle_at}
use Rattle.guards_runs.specs.Due.{Carry, IsMadeBy, AreDue, IsDue, slot_carries, cycle_carries, carries_frames, receivers, is_sender, targets_of}
use Rattle.guards_laws.proofs.AgreedWords.{small_set}
use Rattle.guards_laws.proofs.CycleParts.{active-is}
use Rattle.guards_laws.proofs.Planned.{ranges, targets_set, joined_set}
use Rattle.guards_laws.proofs.WithinChannels.{active_is_set}
use Rattle.guards_world.specs.InCycle.{InCycle, carries_done}
use Rattle.guards_world.specs.Worlds.{WorldValue}

-- ---- lists

fewer_kept : {A : Type 0} (p : A → Bool) (xs : List A) → length (filter p xs) ≤ length xs
fewer_kept p xs = omega (arith, length-filter p xs, count_by-le-length p xs)

fewer_taken : {A : Type 0} (few : ℕ) (xs : List A) → length (take few xs) ≤ length xs
fewer_taken zero xs = omega arith
fewer_taken (suc few) [] = omega arith
fewer_taken (suc few) (x ∷ xs) = omega (arith, fewer_taken few xs)

as_many_mapped : {A B : Type 0} (f : A → B) (xs : List A) → length (map f xs) ≡ length xs
as_many_mapped f [] = refl
as_many_mapped f (x ∷ xs) = ap suc (as_many_mapped f xs)

-- of each at most seven, and at most 49
all_sevens : {A B : Type 0} (f : A → List B) (xs : List A) → ((x : A) → length (f x) ≤ 7) →
    length (flat_map f xs) ≤ 7 * length xs
all_sevens f [] few = omega arith
all_sevens f (x ∷ xs) few = omega (arith, length-append (f x) (flat_map f xs), few x, all_sevens f xs few)

all_of_slots : {A B : Type 0} (f : A → List B) (xs : List A) → ((x : A) → length (f x) ≤ 49) →
    length (flat_map f xs) ≤ 49 * length xs
all_of_slots f [] few = omega arith
all_of_slots f (x ∷ xs) few = omega (arith, length-append (f x) (flat_map f xs), few x, all_of_slots f xs few)

zip_length : {A B : Type 0} (R : A → B → Type 0) (xs : List A) (ys : List B) → AllZip R xs ys → length ys ≡ length xs
zip_length R [] [] z = refl
zip_length R [] (y ∷ ys) z = absurd z
zip_length R (x ∷ xs) [] z = absurd z
zip_length R (x ∷ xs) (y ∷ ys) z = ap suc (zip_length R xs ys z.1)

-- ---- a slot

module _ (M : MissionValue) (K : Log) (mission : IsMission M) where
  few_targets : (n : ℕ) (o : Option TransferValue) → (cycle_at M K n).transfer ≡ o → length (targets_of o) ≤ 7
  few_targets n None is = omega arith
  few_targets n (Some t) is = small_set t.targets (targets_set M K mission n t is)

  few_active : (n : ℕ) → length (cycle_at M K n).active ≤ 7
  few_active n =
      let past = cycles_before M K n in
      small_set (cycle_at M K n).active (ap is_set (active-is M K past) ∙ active_is_set M past mission)

  few_receivers : (n : ℕ) (slot : Slot) → length (receivers (cycle_at M K n) slot) ≤ 7
  few_receivers n Request = few_active n
  few_receivers n Round1 = few_active n
  few_receivers n Round2 = few_active n
  few_receivers n Round3 = few_active n
  few_receivers n Tasks = few_active n
  few_receivers n Vote = few_active n
  few_receivers n Sweep = few_targets n (cycle_at M K n).transfer refl
  few_receivers n Final = small_set (cycle_at M K n).joined (joined_set M K mission n)
  few_receivers n Switch = omega arith
  few_receivers n Output = omega arith

  few_carries : (c n : ℕ) (slot : Slot) → length (slot_carries c (cycle_at M K n) slot) ≤ 49
  unfolding channels_where
  few_carries c n slot = by_frames (carries_frames (cycle_at M K n) slot)
    where
      row : ℕ → List Carry
      row q = map (λ to. record { cycle = c; slot = slot; from = q; to = to })
          (without (receivers (cycle_at M K n) slot) (q ∷ []))

      in_row : (q : ℕ) → length (row q) ≤ 7
      in_row q =
          let to_carry : ℕ → Carry = λ to. record { cycle = c; slot = slot; from = q; to = to } in
          omega (
            arith,
            as_many_mapped to_carry (without (receivers (cycle_at M K n) slot) (q ∷ [])),
            fewer_kept (λ x. not (has (q ∷ []) x)) (receivers (cycle_at M K n) slot),
            few_receivers n slot,
          )

      by_frames : (b : Bool) → length
          (cond b (flat_map row (filter (is_sender (cycle_at M K n) slot) every_channel)) []) ≤ 49
      by_frames true =
          omega (
            arith,
            all_sevens row (filter (is_sender (cycle_at M K n) slot) every_channel) in_row,
            fewer_kept (is_sender (cycle_at M K n) slot) every_channel,
          )
      by_frames false = omega arith

  -- ---- a cycle, and some cycles

  few_done : (c n carried : ℕ) → length (carries_done c (cycle_at M K n) carried) ≤ 441
  few_done c n carried = omega (
    arith,
    all_of_slots (slot_carries c (cycle_at M K n)) (take carried every_slot) (few_carries c n),
    fewer_taken carried every_slot,
  )

  few_due : (n : ℕ) (entries : Log) → AreDue M (cycles_before M K n) entries → length entries ≤ 441 * n
  few_due zero entries due = omega (arith, ap (λ (xs : Log). length xs) due)
  few_due (suc n) entries due =
      let past = cycles_before M K n in
      let e = cycle_at M K n in
      let c = length past in
      omega (
        arith,
        ap (λ (xs : Log). length xs) due.2,
        length-append due.0 due.1,
        few_due n due.0 due.3,
        zip_length (IsDue M past e) (cycle_carries c e) due.1 due.4,
        few_done c n 9,
      )

pub slot_fits : (M : MissionValue) (earlier current : Log) (steps : Steps) (last slot : Slot) (carried handed : ℕ)
    (w : WorldValue) → InCycle M earlier current steps last carried handed w →
    length (slot_carries w.done (cycle_at M (earlier ++ current) w.done) slot) ≤ 49
slot_fits M earlier current steps last slot carried handed w inside =
    few_carries M (earlier ++ current) inside.ranges w.done w.done slot

pub carried_fit : (M : MissionValue) (earlier current : Log) (steps : Steps) (slot : Slot) (carried handed : ℕ)
    (w : WorldValue) → InCycle M earlier current steps slot carried handed w → w.carried ≤ 1000000
carried_fit M earlier current steps slot carried handed w inside =
    let past = cycles_before M (earlier ++ current) w.done in
    let e = cycle_at M (earlier ++ current) w.done in
    omega (
      arith,
      inside.count,
      inside.below,
      (ranges M inside.ranges).cycles,
      few_due M (earlier ++ current) inside.ranges w.done earlier inside.before,
      zip_length (λ carry entry. IsMadeBy M past e (steps_of steps carry.from) carry entry)
          (carries_done w.done e carried) current inside.made,
      few_done M (earlier ++ current) inside.ranges w.done w.done carried,
    )
