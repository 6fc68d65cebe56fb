-- What was delivered of a carry is what its receiver has received: each carry stands once among the entries of a cycle.
use Rattle.std.proofs.Common.{◌≡◌, ℕ, ◌==◌, Bool, true, false, cond, not, ◌&&◌, List, [], ◌∷◌, ◌++◌, Option, None, Some, refl, sym, ap, subst, ◌∙◌, eq-eqb, arith}
use Rattle.std.specs.Prelude.{map, find, flat_map, nat_le, nat_lt, option_and_then}
use Rattle.std.specs.List.{AllZip, list_all, list_any}
use Rattle.std.proofs.lemmas.Bool.{leb-true, ltb-true, le-leb}
use Rattle.guards_model.specs.declared.Slot.{Slot}
use Rattle.guards_model.specs.declared.Slot.TheVariants.{Request, Round1, Round2, Round3, Tasks, Vote, Sweep, Final, Switch, Output}
use Rattle.guards_model.specs.Slots.{slot_index, same_slot}
use Rattle.guards_model.specs.Channels.{has, without, channels_where, every_channel}
use Rattle.guards_model.specs.Missions.{MissionValue, IsMission, format_of}
use Rattle.guards_model.specs.Frames.{is_distinct}
use Rattle.guards_model.specs.Fields.{frame_in}
use Rattle.guards_model.specs.Network.{EntryValue, Log, is_carry, counting}
use Rattle.guards_model.specs.Transfers.{TransferValue}
use Rattle.guards_model.specs.Rounds.{Steps, steps_of}
use Rattle.guards_model.proofs.AscendingLists.{set-distinct}
use Rattle.guards_model.proofs.BoolTests.{both, and_true, no_first, not_true}
use Rattle.guards_model.proofs.Counting.{distinct-filter}
use Rattle.guards_model.proofs.ListTests.{all-append, all-map}
use Rattle.guards_runs.specs.Cycles.{Past, Cycle, active_set, next_cycle, cycles_before, received_body}
use Rattle.guards_runs.specs.Due.{Carry, IsMadeBy, slot_carries, carries_frames, receivers, is_sender, targets_of}
use Rattle.guards_laws.proofs.CycleParts.{active-is}
use Rattle.guards_laws.proofs.Planned.{targets_set, joined_set}
use Rattle.guards_laws.proofs.WithinChannels.{active_is_set}
use Rattle.node_laws.proofs.Holding.{all_of_flat}
use Rattle.guards_world.specs.Passing.{Arrives, is_carry_between}

-- ---- carries that are apart

abbrev differs : Carry → Carry → Bool
differs a b = not (a.from == b.from && a.to == b.to)

abbrev apart : List Carry → Bool
apart [] = true
apart (x ∷ xs) = list_all (differs x) xs && apart xs

apart_append : (xs ys : List Carry) → apart xs ≡ true → apart ys ≡ true →
    list_all (λ x. list_all (differs x) ys) xs ≡ true → apart (xs ++ ys) ≡ true
apart_append [] ys h k cross = k
apart_append (x ∷ xs) ys h k cross =
    let own = both (list_all (differs x) xs) (apart xs) h in
    let other = both (list_all (differs x) ys) (list_all (λ z. list_all (differs z) ys) xs) cross in
    and_true (list_all (differs x) (xs ++ ys)) (apart (xs ++ ys)) (all-append (differs x) xs ys own.0 other.0)
    (apart_append xs ys own.1 k other.1)

not_second : (a b : Bool) → b ≡ false → not (a && b) ≡ true
not_second true b h = ap not h
not_second false b h = refl

not_first : (a b : Bool) → a ≡ false → not (a && b) ≡ true
not_first true b h = absurd cc
not_first false b h = refl

turned : (p q : ℕ) → (p == q) ≡ false → (q == p) ≡ false
turned p q h = grind (arith, h)

module _ (c : ℕ) (slot : Slot) where
  abbrev carry_to : ℕ → ℕ → Carry
  carry_to q to = record { cycle = c; slot = slot; from = q; to = to }

  others : (q r : ℕ) (rs : List ℕ) → has rs r ≡ false → list_all (differs (carry_to q r)) (map (carry_to q) rs) ≡ true
  others q r [] h = refl
  others q r (s ∷ rs) h =
      let parts = no_first (s == r) (has rs r) h in
      and_true (differs (carry_to q r) (carry_to q s)) (list_all (differs (carry_to q r)) (map (carry_to q) rs))
      (not_second (q == q) (r == s) (turned s r parts.0)) (others q r rs parts.1)

  apart_map : (q : ℕ) (rs : List ℕ) → is_distinct rs ≡ true → apart (map (carry_to q) rs) ≡ true
  unfolding is_distinct
  apart_map q [] h = refl
  apart_map q (r ∷ rs) h =
      let parts = both (not (has rs r)) (is_distinct rs) h in
      and_true (list_all (differs (carry_to q r)) (map (carry_to q) rs)) (apart (map (carry_to q) rs))
      (others q r rs (not_true (has rs r) parts.0)) (apart_map q rs parts.1)

  none_is : (q : ℕ) (qs : List ℕ) → has qs q ≡ false → list_all (λ p. not (p == q)) qs ≡ true
  none_is q [] h = refl
  none_is q (p ∷ qs) h =
      let parts = no_first (p == q) (has qs q) h in
      and_true (not (p == q)) (list_all (λ p. not (p == q)) qs) (ap not parts.0) (none_is q qs parts.1)

  module _ (rs : List ℕ) (apart_rs : is_distinct rs ≡ true) where
    abbrev sends : ℕ → List Carry
    sends q = map (carry_to q) (without rs (q ∷ []))

    apart_flat : (qs : List ℕ) → is_distinct qs ≡ true → apart (flat_map sends qs) ≡ true
    unfolding is_distinct
    apart_flat [] h = refl
    apart_flat (q ∷ qs) h =
        let parts = both (not (has qs q)) (is_distinct qs) h in
        apart_append (sends q) (flat_map sends qs)
        (apart_map q (without rs (q ∷ [])) (distinct-filter (λ p. not (has (q ∷ []) p)) rs apart_rs))
        (apart_flat qs parts.1)
        (all-map (λ x. list_all (differs x) (flat_map sends qs)) (carry_to q) (without rs (q ∷ []))
        (λ to. all_of_flat (differs (carry_to q to)) (λ p. not (p == q)) sends qs
        (none_is q qs (not_true (has qs q) parts.0))
        (λ p other. all-map (differs (carry_to q to)) (carry_to p) (without rs (p ∷ []))
        (λ there. not_first (q == p) (to == there) (turned p q (not_true (p == q) other))))))

-- the receivers of a slot are all different
receivers_apart : (M : MissionValue) (K : Log) (n : ℕ) → IsMission M → (slot : Slot) →
    is_distinct (receivers (next_cycle M K (cycles_before M K n)) slot) ≡ true
unfolding is_distinct
receivers_apart M K n mission slot = by slot
  where
    members : is_distinct (next_cycle M K (cycles_before M K n)).active ≡ true
    members = ap is_distinct (active-is M K (cycles_before M K n))
        ∙ set-distinct (active_set M (cycles_before M K n)) (active_is_set M (cycles_before M K n) mission)

    targets : (t : Option TransferValue) → (next_cycle M K (cycles_before M K n)).transfer ≡ t →
        is_distinct (targets_of t) ≡ true
    targets None h = refl
    targets (Some t) h = set-distinct t.targets (targets_set M K mission n t h)

    by : (slot : Slot) → is_distinct (receivers (next_cycle M K (cycles_before M K n)) slot) ≡ true
    by Request = members
    by Round1 = members
    by Round2 = members
    by Round3 = members
    by Tasks = members
    by Vote = members
    by Sweep = targets (next_cycle M K (cycles_before M K n)).transfer refl
    by Final = set-distinct (next_cycle M K (cycles_before M K n)).joined (joined_set M K mission n)
    by Switch = refl
    by Output = refl

pub carries_apart : (M : MissionValue) (K : Log) (n m : ℕ) → IsMission M → (slot : Slot) →
    apart (slot_carries m (next_cycle M K (cycles_before M K n)) slot) ≡ true
unfolding channels_where is_distinct
carries_apart M K n m mission slot = by_frames (carries_frames e slot)
  where
    e : Cycle
    e = next_cycle M K (cycles_before M K n)

    by_frames : (b : Bool) → apart
        (cond b (flat_map (sends m slot (receivers e slot) (receivers_apart M K n mission slot))
        (channels_where (is_sender e slot))) []) ≡ true
    by_frames true = apart_flat m slot (receivers e slot) (receivers_apart M K n mission slot)
        (channels_where (is_sender e slot)) (distinct-filter (is_sender e slot) every_channel refl)
    by_frames false = refl

-- ---- each is found

abbrev finds : Carry → EntryValue → Bool
finds k y = is_carry k.cycle k.slot k.from k.to y

own_found : (M : MissionValue) (past : Past) (e : Cycle) (steps : Steps) (k : Carry) (y : EntryValue) →
    IsMadeBy M past e (steps_of steps k.from) k y → finds k y ≡ true
own_found M past e steps k y made =
    and_true ((y.cycle == k.cycle && same_slot y.slot k.slot) && y.from == k.from) (y.to == k.to)
    (and_true (y.cycle == k.cycle && same_slot y.slot k.slot) (y.from == k.from)
    (and_true (y.cycle == k.cycle) (same_slot y.slot k.slot) (eq-eqb y.cycle k.cycle made.cycle)
    (eq-eqb (slot_index y.slot) (slot_index k.slot) (ap slot_index made.slot)))
    (eq-eqb y.from k.from made.from))
    (eq-eqb y.to k.to made.to)

both_no : (a b d : Bool) → not (b && d) ≡ true → ((a && b) && d) ≡ false
both_no true true true h = absurd cc
both_no true true false h = refl
both_no true false d h = refl
both_no false b d h = refl

other_not_found : (M : MissionValue) (past : Past) (e : Cycle) (steps : Steps) (x k : Carry) (y : EntryValue) →
    IsMadeBy M past e (steps_of steps x.from) x y → differs x k ≡ true → finds k y ≡ false
other_not_found M past e steps x k y made apart =
    both_no (y.cycle == k.cycle && same_slot y.slot k.slot) (y.from == k.from) (y.to == k.to)
    (subst (λ f. not (f == k.from && y.to == k.to) ≡ true) (sym made.from)
    (subst (λ t. not (x.from == k.from && t == k.to) ≡ true) (sym made.to) apart))

zip_on : {A B : Type 0} (R S : A → B → Type 0) (P : A → Bool) (xs : List A) (ys : List B) → list_all P xs ≡ true →
    ((x : A) (y : B) → P x ≡ true → R x y → S x y) → AllZip R xs ys → AllZip S xs ys
zip_on R S P [] [] h f z = tt
zip_on R S P [] (y ∷ ys) h f z = absurd z
zip_on R S P (x ∷ xs) [] h f z = absurd z
zip_on R S P (x ∷ xs) (y ∷ ys) h f z =
    let parts = both (P x) (list_all P xs) h in
    (f x y parts.0 z.0, zip_on R S P xs ys parts.1 f z.1)

each_found : (M : MissionValue) (past : Past) (e : Cycle) (steps : Steps) (carries : List Carry) (new : Log) →
    apart carries ≡ true →
    AllZip (λ k y. IsMadeBy M past e (steps_of steps k.from) k y) carries new →
    AllZip (λ k y. find (finds k) new ≡ Some y) carries new
each_found M past e steps [] [] h z = tt
each_found M past e steps [] (y ∷ new) h z = absurd z
each_found M past e steps (x ∷ carries) [] h z = absurd z
each_found M past e steps (x ∷ carries) (y ∷ new) h z =
    let parts = both (list_all (differs x) carries) (apart carries) h in (
      ap (λ b. cond b (Some y) (find (finds x) new)) (own_found M past e steps x y z.0),
      zip_on (λ k w. find (finds k) new ≡ Some w) (λ k w. find (finds k) (y ∷ new) ≡ Some w) (differs x) carries new
          parts.0
          (λ k w other there. ap (λ b. cond b (Some y) (find (finds k) new))
          (other_not_found M past e steps x k y z.0 other) ∙ there)
          (each_found M past e steps carries new parts.1 z.1),
    )

-- entries of earlier slots are no carries of a slot
skip : (k : Carry) (i : ℕ) (now new : Log) → nat_le i (slot_index k.slot) ≡ true →
    list_all (λ (y : EntryValue). nat_lt (slot_index y.slot) i) now ≡ true →
    find (finds k) (now ++ new) ≡ find (finds k) new
skip k i [] new late h = refl
skip k i (y ∷ now) new late h =
    let parts = both (nat_lt (slot_index y.slot) i) (list_all (λ (w : EntryValue). nat_lt (slot_index w.slot) i) now)
    h in
    let apart_slots : (slot_index y.slot == slot_index k.slot) ≡ false =
    grind (arith, ltb-true (slot_index y.slot) i parts.0, leb-true i (slot_index k.slot) late) in
    ap (λ b. cond b (Some y) (find (finds k) (now ++ new)))
    (ap (λ b. ((y.cycle == k.cycle && b) && y.from == k.from) && y.to == k.to) apart_slots
    ∙ none (y.cycle == k.cycle) (y.from == k.from) (y.to == k.to))
    ∙ skip k i now new late parts.1
  where
    none : (a b d : Bool) → (((a && false) && b) && d) ≡ false
    none true b d = refl
    none false b d = refl

-- what is found in the entries of the cycle is received
pub arrives : (M : MissionValue) (past : Past) (e : Cycle) (steps : Steps) (carries : List Carry) (i : ℕ)
    (now new : Log) → apart carries ≡ true →
    list_all (λ (k : Carry). nat_le i (slot_index k.slot)) carries ≡ true →
    list_all (λ (y : EntryValue). nat_lt (slot_index y.slot) i) now ≡ true →
    AllZip (λ k y. IsMadeBy M past e (steps_of steps k.from) k y) carries new →
    AllZip (Arrives M (now ++ new)) carries new
arrives M past e steps carries i now new h late early z =
    zip_on (λ k y. find (finds k) new ≡ Some y) (Arrives M (now ++ new)) (λ (k : Carry). nat_le i (slot_index k.slot))
    carries new late
    (λ k y later there.
    ap (λ o. option_and_then (counting (format_of M) k.cycle k.slot k.from k.to)
    (option_and_then frame_in (option_and_then (λ (w : EntryValue). w.delivered) o)))
    (skip k i now new later early ∙ there))
    (each_found M past e steps carries new h z)

-- ---- nothing else is received

no_match : (a b d : Bool) → (b && d) ≡ false → ((a && b) && d) ≡ false
no_match true true d h = h
no_match true false d h = refl
no_match false b d h = refl

none_found : (M : MissionValue) (past : Past) (e : Cycle) (steps : Steps) (c : ℕ) (slot : Slot) (from to : ℕ)
    (carries : List Carry) (new : Log) → list_any (is_carry_between from to) carries ≡ false →
    AllZip (λ k y. IsMadeBy M past e (steps_of steps k.from) k y) carries new →
    find (is_carry c slot from to) new ≡ None
none_found M past e steps c slot from to [] [] h z = refl
none_found M past e steps c slot from to [] (y ∷ new) h z = absurd z
none_found M past e steps c slot from to (x ∷ carries) [] h z = absurd z
none_found M past e steps c slot from to (x ∷ carries) (y ∷ new) h z =
    let parts = no_first (is_carry_between from to x) (list_any (is_carry_between from to) carries) h in
    let other : (y.from == from && y.to == to) ≡ false =
    subst (λ f. (f == from && y.to == to) ≡ false) (sym z.0.from)
    (subst (λ t. (x.from == from && t == to) ≡ false) (sym z.0.to) parts.0) in
    ap (λ b. cond b (Some y) (find (is_carry c slot from to) new))
    (no_match (y.cycle == c && same_slot y.slot slot) (y.from == from) (y.to == to) other)
    ∙ none_found M past e steps c slot from to carries new parts.1 z.1

pub nothing_else : (M : MissionValue) (past : Past) (e : Cycle) (steps : Steps) (c : ℕ) (slot : Slot) (from to : ℕ)
    (carries : List Carry) (now new : Log) →
    list_any (is_carry_between from to) carries ≡ false →
    list_all (λ (y : EntryValue). nat_lt (slot_index y.slot) (slot_index slot)) now ≡ true →
    AllZip (λ k y. IsMadeBy M past e (steps_of steps k.from) k y) carries new →
    received_body M (now ++ new) c slot from to ≡ None
nothing_else M past e steps c slot from to carries now new absent early z =
    ap (λ o. option_and_then (counting (format_of M) c slot from to)
    (option_and_then frame_in (option_and_then (λ (w : EntryValue). w.delivered) o)))
    (skip (record { cycle = c; slot = slot; from = from; to = to }) (slot_index slot) now new
    (le-leb (slot_index slot) (slot_index slot) (omega arith)) early
    ∙ none_found M past e steps c slot from to carries new absent z)

-- entries of earlier slots change nothing of what is received in a slot
pub slot_alone : (M : MissionValue) (c : ℕ) (slot : Slot) (from to : ℕ) (now new : Log) →
    list_all (λ (y : EntryValue). nat_lt (slot_index y.slot) (slot_index slot)) now ≡ true →
    received_body M (now ++ new) c slot from to ≡ received_body M new c slot from to
slot_alone M c slot from to now new early =
    ap (λ o. option_and_then (counting (format_of M) c slot from to)
    (option_and_then frame_in (option_and_then (λ (w : EntryValue). w.delivered) o)))
    (skip (record { cycle = c; slot = slot; from = from; to = to }) (slot_index slot) now new
    (le-leb (slot_index slot) (slot_index slot) (omega arith)) early)
