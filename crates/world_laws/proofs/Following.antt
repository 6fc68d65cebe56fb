-- The entries that a cycle gets after some of its slots were carried are of the slots that were not.
use Rattle.std.proofs.Common.{◌≡◌, ℕ, zero, suc, ◌+◌, ◌≤◌, ◌<◌, ◌==◌, ◌⊎◌, inl, inr, Bool, true, false, cond, not, List, [], ◌∷◌, ◌++◌, refl, sym, ap, subst, ◌∙◌, append_assoc, arith}
use Rattle.std.specs.Prelude.{map, take, drop, flat_map, count_by, nat_le}
use Rattle.std.specs.List.{AllZip, list_all}
use Rattle.std.proofs.lemmas.Bool.{leb-true, le-leb, eqb-true}
use Rattle.guards_model.specs.declared.Slot.{Slot}
use Rattle.guards_model.specs.declared.Slot.TheVariants.{Request, Round1, Round2, Round3, Tasks, Vote, Sweep, Final, Switch, Output}
use Rattle.guards_model.specs.Slots.{slot_index, every_slot, on_bus}
use Rattle.guards_model.specs.Channels.{without, channels_where}
use Rattle.guards_model.specs.Missions.{MissionValue}
use Rattle.guards_model.specs.Network.{EntryValue, Log}
use Rattle.guards_model.specs.Rounds.{Steps, steps_of}
use Rattle.guards_model.proofs.BoolTests.{both, and_true}
use Rattle.guards_model.proofs.Counting.{one_if, one_if_true, one_if_false, count-cons}
use Rattle.guards_model.proofs.AscendingLists.{count-append}
use Rattle.guards_model.proofs.ListTests.{all-flat_map, all-map}
use Rattle.guards_runs.specs.Cycles.{Cycle, cycles_before, cycle_at}
use Rattle.guards_runs.specs.Due.{Carry, IsMadeBy, slot_carries, carries_frames, receivers, is_sender}
use Rattle.guards_runs.specs.SlotFacts.{AreFromPlace}
use Rattle.guards_laws.proofs.DueEntries.{carries_of}
use Rattle.guards_world.specs.InCycle.{InCycle, carries_done}
use Rattle.guards_world.specs.Worlds.{WorldValue}
use Rattle.world_laws.proofs.SlotCarriedLemmas.{carries_same, grown, is_n}

-- ---- how many of a list there are

module _ {A : Type 0} (P : A → Bool) where
  count_none : (xs : List A) → list_all (λ x. not (P x)) xs ≡ true → count_by P xs ≡ 0
  count_none [] h = refl
  count_none (x ∷ xs) h =
      let parts = both (not (P x)) (list_all (λ z. not (P z)) xs) h in
      count-cons P x xs ∙ omega (arith, one_if_false (P x) (off (P x) parts.0), count_none xs parts.1)
    where
      off : (b : Bool) → not b ≡ true → b ≡ false
      off true k = absurd cc
      off false k = refl

module _ {A B : Type 0} (P : B → Bool) where
  count_front : (f : A → List B) (k : ℕ) (xs : List A) →
      count_by P (flat_map f (take k xs)) ≤ count_by P (flat_map f xs)
  count_front f zero xs = omega arith
  count_front f (suc k) [] = omega arith
  count_front f (suc k) (x ∷ xs) =
      omega (
        arith,
        count-append P (f x) (flat_map f (take k xs)),
        count-append P (f x) (flat_map f xs),
        count_front f k xs,
      )

  count_same : (f g : A → List B) (xs : List A) → ((x : A) → count_by P (f x) ≡ count_by P (g x)) →
      count_by P (flat_map f xs) ≡ count_by P (flat_map g xs)
  count_same f g [] h = refl
  count_same f g (x ∷ xs) h =
      count-append P (f x) (flat_map f xs) ∙ omega (arith, h x, count_same f g xs h)
      ∙ sym (count-append P (g x) (flat_map g xs))

  count_rest : (f : A → List B) (Q : A → Bool) (xs : List A) → list_all Q xs ≡ true →
      ((x : A) → Q x ≡ true → count_by P (f x) ≡ 0) → count_by P (flat_map f xs) ≡ 0
  count_rest f Q [] h none = refl
  count_rest f Q (x ∷ xs) h none =
      let parts = both (Q x) (list_all Q xs) h in
      count-append P (f x) (flat_map f xs) ∙ omega (arith, none x parts.0, count_rest f Q xs parts.1 none)

  -- what is left out has none
  count_taken : (f : A → List B) (Q : A → Bool) (k : ℕ) (xs : List A) → list_all Q (drop k xs) ≡ true →
      ((x : A) → Q x ≡ true → count_by P (f x) ≡ 0) →
      count_by P (flat_map f xs) ≡ count_by P (flat_map f (take k xs))
  count_taken f Q zero xs h none = count_rest f Q xs h none
  count_taken f Q (suc k) [] h none = refl
  count_taken f Q (suc k) (x ∷ xs) h none =
      count-append P (f x) (flat_map f xs) ∙ omega (arith, count_taken f Q k xs h none)
      ∙ sym (count-append P (f x) (flat_map f (take k xs)))

-- ---- the carries of a slot

none_left : (P : Slot → Bool) (k : ℕ) → list_all P (drop k []) ≡ true
none_left P zero = refl
none_left P (suc k) = refl

-- the slots after some
dropped : (k : ℕ) → list_all (λ s. nat_le k (slot_index s)) (drop k every_slot) ≡ true
dropped zero = refl
dropped (suc zero) = refl
dropped (suc (suc zero)) = refl
dropped (suc (suc (suc zero))) = refl
dropped (suc (suc (suc (suc zero)))) = refl
dropped (suc (suc (suc (suc (suc zero))))) = refl
dropped (suc (suc (suc (suc (suc (suc zero)))))) = refl
dropped (suc (suc (suc (suc (suc (suc (suc zero))))))) = refl
dropped (suc (suc (suc (suc (suc (suc (suc (suc zero)))))))) = refl
dropped (suc (suc (suc (suc (suc (suc (suc (suc (suc k))))))))) =
    none_left (λ s. nat_le (suc (suc (suc (suc (suc (suc (suc (suc (suc k))))))))) (slot_index s)) k

abbrev at : ℕ → Slot → Bool
at j s = slot_index s == j

-- the carries of a slot are in it
pub in_slot : (c : ℕ) (x : Cycle) (slot : Slot) (P : Slot → Bool) → P slot ≡ true →
    list_all (λ (carry : Carry). P carry.slot) (slot_carries c x slot) ≡ true
in_slot c x slot P h = by_frames (carries_frames x slot)
  where
    by_frames : (b : Bool) → list_all (λ (carry : Carry). P carry.slot)
        (cond b (flat_map (λ q. map (λ to. record { cycle = c; slot = slot; from = q; to = to })
        (without (receivers x slot) (q ∷ []))) (channels_where (is_sender x slot))) []) ≡ true
    by_frames true =
        all-flat_map (λ (carry : Carry). P carry.slot)
        (λ q. map (λ to. record { cycle = c; slot = slot; from = q; to = to })
        (without (receivers x slot) (q ∷ []))) (channels_where (is_sender x slot))
        (λ q. all-map (λ (carry : Carry). P carry.slot) (λ to. record { cycle = c; slot = slot; from = q; to = to })
        (without (receivers x slot) (q ∷ [])) (λ to. h))
    by_frames false = refl

abbrev carries_at : ℕ → List Carry → ℕ
carries_at j carries = count_by (λ (carry : Carry). at j carry.slot) carries

abbrev entries_at : ℕ → Log → ℕ
entries_at j entries = count_by (λ (y : EntryValue). at j y.slot) entries

none_in : (c : ℕ) (x : Cycle) (j : ℕ) (slot : Slot) → at j slot ≡ false → carries_at j (slot_carries c x slot) ≡ 0
none_in c x j slot off = count_none (λ (carry : Carry). at j carry.slot) (slot_carries c x slot)
    (in_slot c x slot (λ s. not (at j s)) (ap not off))

-- ---- entries and carries

abbrev pub Made : MissionValue → Log → ℕ → Steps → Carry → EntryValue → Type 0
Made M L n steps carry entry = IsMadeBy M (cycles_before M L n) (cycle_at M L n) (steps_of steps carry.from) carry entry

as_many : (M : MissionValue) (L : Log) (n : ℕ) (steps : Steps) (j : ℕ) (carries : List Carry) (entries : Log) →
    AllZip (Made M L n steps) carries entries → carries_at j carries ≡ entries_at j entries
as_many M L n steps j [] [] z = refl
as_many M L n steps j [] (y ∷ entries) z = absurd z
as_many M L n steps j (x ∷ carries) [] z = absurd z
as_many M L n steps j (x ∷ carries) (y ∷ entries) z =
    count-cons (λ (carry : Carry). at j carry.slot) x carries
    ∙ ap (λ s. one_if (at j s) + carries_at j carries) (sym z.0.slot)
    ∙ ap (λ k. one_if (at j y.slot) + k) (as_many M L n steps j carries entries z.1)
    ∙ sym (count-cons (λ (v : EntryValue). at j v.slot) y entries)

pub of_cycle : (M : MissionValue) (L : Log) (n : ℕ) (steps : Steps) (carries : List Carry) (entries : Log) →
    list_all (λ (carry : Carry). carry.cycle == n) carries ≡ true →
    AllZip (Made M L n steps) carries entries → list_all (λ (y : EntryValue). y.cycle == n) entries ≡ true
of_cycle M L n steps [] [] h z = refl
of_cycle M L n steps [] (y ∷ entries) h z = absurd z
of_cycle M L n steps (x ∷ carries) [] h z = absurd z
of_cycle M L n steps (x ∷ carries) (y ∷ entries) h z =
    let parts = both (x.cycle == n) (list_all (λ (carry : Carry). carry.cycle == n) carries) h in
    and_true (y.cycle == n) (list_all (λ (v : EntryValue). v.cycle == n) entries)
    (subst (λ c. (c == n) ≡ true) (sym z.0.cycle) parts.0) (of_cycle M L n steps carries entries parts.1 z.1)

last_part : (P : EntryValue → Bool) (xs ys : Log) → list_all P (xs ++ ys) ≡ true → list_all P ys ≡ true
last_part P [] ys h = h
last_part P (x ∷ xs) ys h = last_part P xs ys (both (P x) (list_all P (xs ++ ys)) h).1

from_first : (n : ℕ) (entries : Log) → list_all (λ (y : EntryValue). y.cycle == n) entries ≡ true →
    AreFromPlace n 0 entries
from_first n [] h = tt
from_first n (y ∷ entries) h =
    let parts = both (y.cycle == n) (list_all (λ (v : EntryValue). v.cycle == n) entries) h in
    (inr (eqb-true y.cycle n parts.0, omega arith), from_first n entries parts.1)

-- where none is in a slot, all are from the next one on
from_next : (n j : ℕ) (entries : Log) → AreFromPlace n j entries → entries_at j entries ≡ 0 →
    AreFromPlace n (suc j) entries
from_next n j [] late none = tt
from_next n j (y ∷ entries) late none =
    let one = count-cons (λ (v : EntryValue). at j v.slot) y entries in
    (here (at j y.slot) refl (omega (arith, one, none)) late.0, from_next n j entries late.1 (omega (arith, one, none)))
  where
    here : (b : Bool) → at j y.slot ≡ b → one_if (at j y.slot) ≡ 0 → (n < y.cycle)
        ⊎ ((y.cycle ≡ n) × (j ≤ slot_index y.slot)) → (n < y.cycle) ⊎ ((y.cycle ≡ n) × (suc j ≤ slot_index y.slot))
    here b is empty (inl later) = inl later
    here true is empty (inr same) = absurd (omega (arith, one_if_true (at j y.slot) is, empty))
    here false is empty (inr same) = inr (same.0, grind (arith, is, same.1))

module _ (M : MissionValue) (earlier current new : Log) (n : ℕ) (steps later : Steps) (carried more : ℕ)
    (before : AllZip (Made M (earlier ++ current) n steps) (carries_done n (cycle_at M (earlier ++ current) n) carried)
    current)
    (after : AllZip (Made M (earlier ++ (current ++ new)) n later)
    (carries_done n (cycle_at M (earlier ++ (current ++ new)) n) more) (current ++ new)) where
  abbrev e : Cycle
  e = cycle_at M (earlier ++ current) n

  abbrev x : Cycle
  x = cycle_at M (earlier ++ (current ++ new)) n

  -- a slot has as many carries as before, while nothing new is of an earlier one
  slot_same : (slot : Slot) → AreFromPlace n (slot_index slot) new → slot_carries n e slot ≡ slot_carries n x slot
  slot_same slot late = by_bus (on_bus slot) refl
    where
      by_bus : (b : Bool) → on_bus slot ≡ b → slot_carries n e slot ≡ slot_carries n x slot
      by_bus true on =
          subst (λ (X : Log). slot_carries n e slot ≡ slot_carries n (cycle_at M X n) slot)
          (append_assoc earlier current new)
          (grown M (earlier ++ current) new n steps slot on late (λ p y. slot_carries n e slot ≡ slot_carries n y slot)
          (carries_same M (earlier ++ current) new n steps slot on late n
          (is_n M (earlier ++ current) new n steps slot on late) slot
          (le-leb (slot_index slot) (slot_index slot) (omega arith))))
      by_bus false off = no_frames slot off
        where
          no_frames : (s : Slot) → on_bus s ≡ false → slot_carries n e s ≡ slot_carries n x s
          no_frames Output h = refl
          no_frames Request h = absurd cc
          no_frames Round1 h = absurd cc
          no_frames Round2 h = absurd cc
          no_frames Round3 h = absurd cc
          no_frames Tasks h = absurd cc
          no_frames Vote h = absurd cc
          no_frames Sweep h = absurd cc
          no_frames Final h = absurd cc
          no_frames Switch h = absurd cc

  counts_same : (j : ℕ) → AreFromPlace n j new → (slot : Slot) →
      carries_at j (slot_carries n x slot) ≡ carries_at j (slot_carries n e slot)
  counts_same j late slot = by_place (at j slot) refl
    where
      by_place : (b : Bool) → at j slot ≡ b →
          carries_at j (slot_carries n x slot) ≡ carries_at j (slot_carries n e slot)
      by_place true is = ap (carries_at j)
          (sym (slot_same slot (subst (λ k. AreFromPlace n k new) (sym (eqb-true (slot_index slot) j is)) late)))
      by_place false off = none_in n x j slot off ∙ sym (none_in n e j slot off)

  none_new : (j : ℕ) → j < carried → AreFromPlace n j new → entries_at j new ≡ 0
  none_new j low late =
      let P : Carry → Bool = λ carry. at j carry.slot in
      let split : entries_at j (current ++ new) ≡ entries_at j current + entries_at j new =
      count-append (λ (y : EntryValue). at j y.slot) current new in
      let had = as_many M (earlier ++ current) n steps j (carries_done n e carried) current before in
      let has = as_many M (earlier ++ (current ++ new)) n later j (carries_done n x more) (current ++ new) after in
      let front = count_front P (slot_carries n x) more every_slot in
      let same = count_same P (slot_carries n x) (slot_carries n e) every_slot (counts_same j late) in
      let taken = count_taken P (slot_carries n e) (λ s. nat_le carried (slot_index s)) carried every_slot
      (dropped carried) (λ s far. none_in n e j s (grind (arith, low, leb-true carried (slot_index s) far))) in
      omega (arith, split, had, has, front, same, taken)

  from_place : (j : ℕ) → j ≤ carried → AreFromPlace n j new
  from_place zero low =
      from_first n new
      (last_part (λ (y : EntryValue). y.cycle == n) current new
      (of_cycle M (earlier ++ (current ++ new)) n later (carries_done n x more) (current ++ new)
      (all-flat_map (λ (carry : Carry). carry.cycle == n) (slot_carries n x) (take more every_slot)
      (carries_of n x)) after))
  from_place (suc j) low =
      let late = from_place j (omega (arith, low)) in
      from_next n j new late (none_new j low late)

pub follows : (M : MissionValue) (earlier current new : Log) (steps later : Steps) (slot last : Slot)
    (carried handed more given : ℕ) (w after : WorldValue) → after.done ≡ w.done →
    InCycle M earlier current steps slot carried handed w →
    InCycle M earlier (current ++ new) later last more given after → AreFromPlace w.done carried new
follows M earlier current new steps later slot last carried handed more given w after same was is =
    from_place M earlier current new w.done steps later carried more was.made
    (subst (λ n. AllZip (Made M (earlier ++ (current ++ new)) n later)
    (carries_done n (cycle_at M (earlier ++ (current ++ new)) n) more) (current ++ new)) same is.made)
    carried (omega arith)
