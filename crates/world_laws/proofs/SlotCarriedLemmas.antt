-- The carrying of a slot: its entries are added to the log, and all that was known before stays.
use Rattle.std.proofs.Common.{◌≡◌, ℕ, zero, suc, ◌≤◌, ◌<◌, ◌==◌, ◌⊎◌, inr, Bool, true, false, cond, ◌&&◌, List, [], ◌∷◌, ◌++◌, length, refl, sym, ap, subst, ◌∙◌, arith}
use Rattle.std.specs.Prelude.{map, take, filter, flat_map, nat_le, nat_lt, slice_get, unwrap_or}
use Rattle.std.specs.List.{AllZip, list_all}
use Rattle.std.proofs.lemmas.Bool.{leb-true, le-leb, ltb-true, eqb-true}
use Rattle.std.proofs.lemmas.List.{append-nil}
use Rattle.std.proofs.lemmas.List.Elements.{filter-append}
use Rattle.std.proofs.lemmas.Grind.{flat_map-append}
use Rattle.guards_model.specs.declared.Slot.{Slot}
use Rattle.guards_model.specs.declared.Slot.TheVariants.{Request, Round1, Round2, Round3, Tasks, Vote, Sweep, Final, Switch, Output}
use Rattle.guards_model.specs.Slots.{slot_index, every_slot, up_to, on_bus, stage_after, stage_before}
use Rattle.guards_model.specs.Channels.{without, channels_where}
use Rattle.guards_model.specs.Missions.{MissionValue}
use Rattle.guards_model.specs.Frames.{BodyValue, spelling}
use Rattle.guards_model.specs.Network.{EntryValue, Log}
use Rattle.guards_model.specs.Rounds.{Steps, Origin, IsFull, steps_of, writes_before}
use Rattle.guards_model.proofs.BoolTests.{both, and_true}
use Rattle.guards_model.proofs.ListTests.{all-flat_map, all-map}
use Rattle.guards_runs.specs.Cycles.{Past, Cycle, cycle_from, next_cycle, cycles_before, cycle_at, entries_of}
use Rattle.guards_runs.specs.Disturbed.{halts}
use Rattle.guards_runs.specs.Due.{Carry, IsMadeBy, slot_carries, carries_frames, receivers, is_sender, frame_on}
use Rattle.guards_runs.specs.SlotFacts.{AreFromPlace, FramesStay}
use Rattle.guards_laws.proofs.SlotsStand.{slots_stand, stops_stand}
use Rattle.guards_laws.proofs.LogGrows.{length-cycles_before, cycles_before-append}
use Rattle.guards_laws.proofs.Unsent.{All-filter}
use Rattle.guards_world.specs.InCycle.{carries_done, ledger_in}
use Rattle.node_laws.proofs.Holding.{all_of_flat}
use Rattle.node_laws.proofs.Staying.{weaken, from_cycle}

-- ---- lists

pub zip_append : {A B : Type 0} (R : A → B → Type 0) (xs xs' : List A) (ys ys' : List B) → AllZip R xs ys →
    AllZip R xs' ys' → AllZip R (xs ++ xs') (ys ++ ys')
zip_append R [] xs' [] ys' h k = k
zip_append R [] xs' (y ∷ ys) ys' h k = absurd h
zip_append R (x ∷ xs) xs' [] ys' h k = absurd h
zip_append R (x ∷ xs) xs' (y ∷ ys) ys' h k = (h.0, zip_append R xs xs' ys ys' h.1 k)

-- a relation of each pair whose first passes a test
zip_weaken : {A B : Type 0} (R S : A → B → Type 0) (P : A → Bool) (xs : List A) (ys : List B) → list_all P xs ≡ true →
    ((x : A) (y : B) → P x ≡ true → R x y → S x y) → AllZip R xs ys → AllZip S xs ys
zip_weaken R S P [] [] h f z = tt
zip_weaken R S P [] (y ∷ ys) h f z = absurd z
zip_weaken R S P (x ∷ xs) [] h f z = absurd z
zip_weaken R S P (x ∷ xs) (y ∷ ys) h f z =
    let parts = both (P x) (list_all P xs) h in
    (f x y parts.0 z.0, zip_weaken R S P xs ys parts.1 f z.1)

flat_map_on : {A B : Type 0} (P : A → Bool) (f g : A → List B) (xs : List A) → list_all P xs ≡ true →
    ((x : A) → P x ≡ true → f x ≡ g x) → flat_map f xs ≡ flat_map g xs
flat_map_on P f g [] h k = refl
flat_map_on P f g (x ∷ xs) h k =
    let parts = both (P x) (list_all P xs) h in
    ap (λ y. y ++ flat_map f xs) (k x parts.0) ∙ ap (λ ys. g x ++ ys) (flat_map_on P f g xs parts.1 k)

all_taken : {A : Type 0} (P : A → Bool) (few : ℕ) (xs : List A) → list_all P xs ≡ true → list_all P (take few xs) ≡ true
all_taken P zero xs h = refl
all_taken P (suc few) [] h = refl
all_taken P (suc few) (x ∷ xs) h =
    let parts = both (P x) (list_all P xs) h in
    and_true (P x) (list_all P (take few xs)) parts.0 (all_taken P few xs parts.1)

-- ---- slots

abbrev slot_at : ℕ → Slot
slot_at k = unwrap_or (slice_get (Request ∷ Round1 ∷ Round2 ∷ Round3 ∷ Tasks ∷ Vote ∷ Sweep ∷ Final ∷ Switch ∷ []) k)
    Output

slot_back : (s : Slot) → slot_at (slot_index s) ≡ s
slot_back Request = refl
slot_back Round1 = refl
slot_back Round2 = refl
slot_back Round3 = refl
slot_back Tasks = refl
slot_back Vote = refl
slot_back Sweep = refl
slot_back Final = refl
slot_back Switch = refl
slot_back Output = refl

pub one_place : (s t : Slot) → slot_index s ≡ slot_index t → s ≡ t
one_place s t h = sym (slot_back s) ∙ ap slot_at h ∙ slot_back t

-- the slots before a slot, and with it
pub earlier_slots : (slot : Slot) → on_bus slot ≡ true →
    list_all (λ s. nat_lt (slot_index s) (slot_index slot)) (take (slot_index slot) every_slot) ≡ true
earlier_slots Request on = refl
earlier_slots Round1 on = refl
earlier_slots Round2 on = refl
earlier_slots Round3 on = refl
earlier_slots Tasks on = refl
earlier_slots Vote on = refl
earlier_slots Sweep on = refl
earlier_slots Final on = refl
earlier_slots Switch on = refl
earlier_slots Output on = absurd cc

with_slot : (slot : Slot) → on_bus slot ≡ true →
    take (suc (slot_index slot)) every_slot ≡ take (slot_index slot) every_slot ++ slot ∷ []
with_slot Request on = refl
with_slot Round1 on = refl
with_slot Round2 on = refl
with_slot Round3 on = refl
with_slot Tasks on = refl
with_slot Vote on = refl
with_slot Sweep on = refl
with_slot Final on = refl
with_slot Switch on = refl
with_slot Output on = absurd cc

pub through_slot : (slot : Slot) → on_bus slot ≡ true →
    filter (λ s. up_to s slot) every_slot ≡ take (suc (slot_index slot)) every_slot
through_slot Request on = refl
through_slot Round1 on = refl
through_slot Round2 on = refl
through_slot Round3 on = refl
through_slot Tasks on = refl
through_slot Vote on = refl
through_slot Sweep on = refl
through_slot Final on = refl
through_slot Switch on = refl
through_slot Output on = absurd cc

pub carries_next : (c : ℕ) (x : Cycle) (slot : Slot) → on_bus slot ≡ true →
    carries_done c x (stage_after slot) ≡ carries_done c x (stage_before slot) ++ slot_carries c x slot
carries_next c x slot on =
    ap (flat_map (slot_carries c x)) (with_slot slot on)
    ∙ flat_map-append (slot_carries c x) (take (slot_index slot) every_slot) (slot ∷ [])
    ∙ ap (λ ys. carries_done c x (stage_before slot) ++ ys) (append-nil (slot_carries c x slot))

-- the carries of a slot are in it
slot_of : (c : ℕ) (x : Cycle) (slot : Slot) (k : ℕ) → nat_le (slot_index slot) k ≡ true →
    list_all (λ (carry : Carry). nat_le (slot_index carry.slot) k) (slot_carries c x slot) ≡ true
slot_of c x slot k small = by_frames (carries_frames x slot)
  where
    by_frames : (b : Bool) → list_all (λ (carry : Carry). nat_le (slot_index carry.slot) k)
        (cond b (flat_map (λ q. map (λ to. record { cycle = c; slot = slot; from = q; to = to })
        (without (receivers x slot) (q ∷ []))) (channels_where (is_sender x slot))) []) ≡ true
    by_frames true =
        all-flat_map (λ (carry : Carry). nat_le (slot_index carry.slot) k)
        (λ q. map (λ to. record { cycle = c; slot = slot; from = q; to = to })
        (without (receivers x slot) (q ∷ []))) (channels_where (is_sender x slot))
        (λ q. all-map (λ (carry : Carry). nat_le (slot_index carry.slot) k)
        (λ to. record { cycle = c; slot = slot; from = q; to = to }) (without (receivers x slot) (q ∷ []))
        (λ to. small))
    by_frames false = refl

done_of : (c : ℕ) (x : Cycle) (slot : Slot) → on_bus slot ≡ true →
    list_all (λ (carry : Carry). nat_le (slot_index carry.slot) (slot_index slot))
    (carries_done c x (stage_before slot)) ≡ true
done_of c x slot on =
    all_of_flat (λ (carry : Carry). nat_le (slot_index carry.slot) (slot_index slot))
    (λ s. nat_lt (slot_index s) (slot_index slot)) (slot_carries c x) (take (slot_index slot) every_slot)
    (earlier_slots slot on)
    (λ s h. slot_of c x s (slot_index slot)
    (le-leb (slot_index s) (slot_index slot) (omega (arith, ltb-true (slot_index s) (slot_index slot) h))))

-- ---- where the entries of a slot stand

pub placed_carries : (c : ℕ) (x : Cycle) (slot : Slot) →
    list_all (λ (carry : Carry). carry.cycle == c && nat_le (slot_index slot) (slot_index carry.slot))
    (slot_carries c x slot) ≡ true
placed_carries c x slot = by_frames (carries_frames x slot)
  where
    here : (c == c && nat_le (slot_index slot) (slot_index slot)) ≡ true
    here = grind arith

    by_frames : (b : Bool) → list_all
        (λ (carry : Carry). carry.cycle == c && nat_le (slot_index slot) (slot_index carry.slot))
        (cond b (flat_map (λ q. map (λ to. record { cycle = c; slot = slot; from = q; to = to })
        (without (receivers x slot) (q ∷ []))) (channels_where (is_sender x slot))) []) ≡ true
    by_frames true =
        all-flat_map (λ (carry : Carry). carry.cycle == c && nat_le (slot_index slot) (slot_index carry.slot))
        (λ q. map (λ to. record { cycle = c; slot = slot; from = q; to = to })
        (without (receivers x slot) (q ∷ []))) (channels_where (is_sender x slot))
        (λ q. all-map (λ (carry : Carry). carry.cycle == c && nat_le (slot_index slot) (slot_index carry.slot))
        (λ to. record { cycle = c; slot = slot; from = q; to = to }) (without (receivers x slot) (q ∷ []))
        (λ to. here))
    by_frames false = refl

pub placed : (M : MissionValue) (past : Past) (e : Cycle) (steps : Steps) (c : ℕ) (slot : Slot) (carries : List Carry)
    (new : Log) →
    list_all (λ (carry : Carry). carry.cycle == c && nat_le (slot_index slot) (slot_index carry.slot)) carries ≡ true →
    AllZip (λ carry entry. IsMadeBy M past e (steps_of steps carry.from) carry entry) carries new →
    AreFromPlace c (slot_index slot) new
placed M past e steps c slot [] [] h z = tt
placed M past e steps c slot [] (y ∷ new) h z = absurd z
placed M past e steps c slot (x ∷ carries) [] h z = absurd z
placed M past e steps c slot (x ∷ carries) (y ∷ new) h z =
    let parts = both (x.cycle == c && nat_le (slot_index slot) (slot_index x.slot))
    (list_all (λ (carry : Carry). carry.cycle == c && nat_le (slot_index slot) (slot_index carry.slot)) carries)
    h in
    let here = both (x.cycle == c) (nat_le (slot_index slot) (slot_index x.slot)) parts.0 in (
      inr (
        z.0.cycle ∙ eqb-true x.cycle c here.0,
        subst (λ s. slot_index slot ≤ slot_index s) (sym z.0.slot)
            (leb-true (slot_index slot) (slot_index x.slot) here.1),
      ),
      placed M past e steps c slot carries new parts.1 z.1,
    )

-- ---- the log K grows by entries of a slot and of later ones

module _ (M : MissionValue) (K new : Log) (n : ℕ) (steps : Steps) (slot : Slot) (on : on_bus slot ≡ true)
    (late : AreFromPlace n (slot_index slot) new) where
  abbrev past : Past
  past = cycles_before M K n

  abbrev c : ℕ
  c = length past

  abbrev e : Cycle
  e = cycle_from M (entries_of c K) past

  abbrev more : Cycle
  more = cycle_from M (entries_of c K ++ entries_of c new) past

  late_here : AreFromPlace c (slot_index slot) (entries_of c new)
  late_here =
      All-filter (λ (y : EntryValue). (c < y.cycle) ⊎ ((y.cycle ≡ c) × (slot_index slot ≤ slot_index y.slot)))
      (λ y. y.cycle == c) new
      (subst (λ m. AreFromPlace m (slot_index slot) new) (sym (length-cycles_before M K n)) late)

  -- what holds of the past and of the cycle with the new entries holds of the longer log
  pub grown : (Φ : Past → Cycle → Type 0) → Φ past more → Φ (cycles_before M (K ++ new) n) (cycle_at M (K ++ new) n)
  grown Φ h =
      subst (λ (p : Past). Φ p (next_cycle M (K ++ new) p))
      (sym (cycles_before-append M K new n (from_cycle n (slot_index slot) new late)))
      (subst (λ es. Φ past (cycle_from M es past)) (sym (filter-append (λ (y : EntryValue). y.cycle == c) K new)) h)

  frames : (s : Slot) → nat_le (slot_index s) (slot_index slot) ≡ true →
      FramesStay M (entries_of c K) (entries_of c new) past s
  frames s h = slots_stand M (entries_of c K) (entries_of c new) past s
      (weaken c (slot_index s) (slot_index slot) (entries_of c new) (leb-true (slot_index s) (slot_index slot) h)
      late_here)

  made : (carry : Carry) (entry : EntryValue) → nat_le (slot_index carry.slot) (slot_index slot) ≡ true →
      IsMadeBy M past e (steps_of steps carry.from) carry entry →
      IsMadeBy M past more (steps_of steps carry.from) carry entry
  made carry entry h was =
      let stay = frames carry.slot h in
      record {
        cycle = was.cycle;
        slot = was.slot;
        from = was.from;
        to = was.to;
        full = λ sweep. subst (λ (o : Origin). IsFull o (steps_of steps carry.from))
            (sym (stay.origins sweep carry.from)) (was.full sweep);
        sent = was.sent ∙ ap (λ (b : BodyValue). spelling (frame_on M carry b))
            (sym (stay.frames carry.from carry.to (writes_before (steps_of steps carry.from))));
      }

  pub carries_same : (m : ℕ) → m ≡ c → (s : Slot) → nat_le (slot_index s) (slot_index slot) ≡ true →
      slot_carries m e s ≡ slot_carries m more s
  carries_same m is s h = subst (λ k. slot_carries k e s ≡ slot_carries k more s) (sym is) (sym (frames s h).carries)

  done_same : (m : ℕ) → m ≡ c → carries_done m e (stage_before slot) ≡ carries_done m more (stage_before slot)
  done_same m is =
      flat_map_on (λ s. nat_lt (slot_index s) (slot_index slot)) (slot_carries m e) (slot_carries m more)
      (take (slot_index slot) every_slot) (earlier_slots slot on)
      (λ s h. carries_same m is s
      (le-leb (slot_index s) (slot_index slot) (omega (arith, ltb-true (slot_index s) (slot_index slot) h))))

  abbrev Made : Cycle → Carry → EntryValue → Type 0
  Made x carry entry = IsMadeBy M past x (steps_of steps carry.from) carry entry

  pub is_n : n ≡ c
  is_n = sym (length-cycles_before M K n)

  -- the entries that were made so far
  pub stay_made : (now : Log) → AllZip (Made e) (carries_done n e (stage_before slot)) now →
      AllZip (Made more) (carries_done n more (stage_before slot)) now
  stay_made now z =
      subst (λ carries. AllZip (Made more) carries now) (done_same n is_n)
      (zip_weaken (Made e) (Made more) (λ (carry : Carry). nat_le (slot_index carry.slot) (slot_index slot))
      (carries_done n e (stage_before slot)) now (done_of n e slot on) made z)

  -- and those of the slot, as far as they were made
  pub stay_new : (few : ℕ) → AllZip (Made e) (take few (slot_carries n e slot)) new →
      AllZip (Made more) (take few (slot_carries n more slot)) new
  stay_new few z =
      subst (λ carries. AllZip (Made more) (take few carries) new)
      (carries_same n is_n slot (le-leb (slot_index slot) (slot_index slot) (omega arith)))
      (zip_weaken (Made e) (Made more) (λ (carry : Carry). nat_le (slot_index carry.slot) (slot_index slot))
      (take few (slot_carries n e slot)) new
      (all_taken (λ (carry : Carry). nat_le (slot_index carry.slot) (slot_index slot)) few (slot_carries n e slot)
      (slot_of n e slot (slot_index slot) (le-leb (slot_index slot) (slot_index slot) (omega arith)))) made z)

  pub halts_same : (s : Slot) → slot_index s < slot_index slot → halts n more s ≡ halts n e s
  halts_same s early =
      subst (λ m. halts m more s ≡ halts m e s) (sym is_n)
      (stops_stand M (entries_of c K) (entries_of c new) past s
      (weaken c (suc (slot_index s)) (slot_index slot) (entries_of c new) early late_here))

  pub ledger_same : (s : Slot) → ledger_in M more s ≡ ledger_in M e s
  unfolding cycle_from
  ledger_same s = refl
