-- A cycle is entered, its slots are entered, carried and handed over, and one of them may stop the run.
use Rattle.std.proofs.Common.{◌≡◌, ℕ, zero, suc, ◌+◌, ◌<◌, ◌==◌, Bool, true, false, cond, ◌&&◌, List, [], ◌∷◌, ◌++◌, length, None, Some, refl, sym, ap, subst, ◌∙◌, append_assoc, arith}
use Rattle.std.specs.Prelude.{map, find, take, drop, flat_map, nat_le, nat_lt, option_map}
use Rattle.std.specs.List.{AllZip, list_all, list_any}
use Rattle.std.proofs.Math.Path.{fun_ext}
use Rattle.std.proofs.lemmas.Bool.{leb-true, le-leb, eqb-true}
use Rattle.std.proofs.lemmas.List.{append-nil, length-append}
use Rattle.std.proofs.lemmas.List.Elements.{filter-append}
use Rattle.std.proofs.lemmas.Grind.{flat_map-append}
use Rattle.guards_model.specs.declared.Slot.{Slot}
use Rattle.guards_model.specs.declared.Slot.TheVariants.{Request, Round1, Round2, Round3, Tasks, Vote, Sweep, Final, Switch, Output}
use Rattle.guards_model.specs.Slots.{slot_index, every_slot, on_bus, stage_after, stage_before}
use Rattle.guards_model.specs.Channels.{Channel, without, channels_where}
use Rattle.guards_model.specs.Missions.{MissionValue, channels_of}
use Rattle.guards_model.specs.Network.{EntryValue, Log}
use Rattle.guards_model.specs.Rounds.{Steps, steps_of}
use Rattle.guards_model.proofs.BoolTests.{both, and_true}
use Rattle.guards_model.proofs.ListTests.{all-append, all-flat_map, all-map}
use Rattle.guards_runs.specs.Cycles.{Past, Cycle, cycle_from, next_cycle, cycles_before, cycle_at, entries_of, active_set, received_body}
use Rattle.guards_runs.specs.Disturbed.{halts, stop_of, disturbed_channels}
use Rattle.guards_runs.specs.Due.{Carry, IsDue, IsMadeBy, AreDue, slot_carries, cycle_carries, carries_through, carries_frames, receivers, is_sender}
use Rattle.guards_runs.specs.Promises.{DecideAlike}
use Rattle.guards_laws.proofs.Agreement.{decides_under_way}
use Rattle.guards_laws.proofs.DueEntries.{entries_cycle, all_of_cycle, all_through, entries_now, carries_of}
use Rattle.guards_laws.proofs.LogGrows.{length-cycles_before}
use Rattle.guards_laws.proofs.MadeEntries.{made_is_due}
use Rattle.guards_nodes.specs.NodeStates.{NodeValue}
use Rattle.guards_runs.specs.SlotFacts.{AreFromPlace}
use Rattle.guards_world.specs.InCycle.{InCycle, carries_done, node_in, ledger_in}
use Rattle.guards_world.specs.Worlds.{WorldValue, StandsForWorld}
use Rattle.node_laws.proofs.Staying.{node_stays}
use Rattle.guards_world.specs.Passing.{world_carried, world_in, AreDueCarries, IsStopIn, IsFront, Arrives, is_carry_between}
use Rattle.node_laws.proofs.Holding.{all_of_flat}
use Rattle.world_laws.proofs.Arriving.{arrives, carries_apart, nothing_else, slot_alone}
use Rattle.world_laws.proofs.SlotCarriedLemmas.{zip_append, carries_same, is_n, one_place, through_slot, carries_next, placed, placed_carries, grown, stay_made, stay_new, halts_same, ledger_same, earlier_slots}

-- ---- a cycle is entered

pub enters_cycle : (w : WorldValue) (L : Log) (steps : Steps) → StandsForWorld w L → w.done < w.mission.cycles →
    w.spent ≡ None →
    InCycle w.mission L [] steps Request (stage_before Request) (stage_before Request)
    (world_in w.mission (L ++ []) steps Request 0 w)
enters_cycle w L steps stands below unspent =
    let same : L ≡ L ++ [] = sym (append-nil L) in
    record {
      mission = refl;
      ranges = stands.mission;
      below = below;
      unspent = unspent;
      count = sym stands.count ∙ omega arith;
      before = subst (λ (K : Log). AreDue w.mission (cycles_before w.mission K w.done) L) same stands.due;
      unstopped = subst (λ (K : Log). stop_of (cycles_before w.mission K w.done) ≡ None) same stands.unstopped;
      made = tt;
      unhalted = λ s early. absurd (omega (arith, early));
      nodes = refl;
      ledger = refl;
      switches = subst (λ (K : Log). w.switches ≡ active_set w.mission (cycles_before w.mission K w.done)) same
          stands.switches;
    }

-- a slot is entered, or what it carried is handed over
pub enters_slot : (M : MissionValue) (earlier current : Log) (steps : Steps) (slot next : Slot)
    (carried handed more : ℕ) (w : WorldValue) →
    InCycle M earlier current steps slot carried handed w →
    InCycle M earlier current steps next carried more (world_in M (earlier ++ current) steps next more w)
enters_slot M earlier current steps slot next carried handed more w inside =
    record {
      mission = inside.mission;
      ranges = inside.ranges;
      below = inside.below;
      unspent = inside.unspent;
      count = inside.count;
      before = inside.before;
      unstopped = inside.unstopped;
      made = inside.made;
      unhalted = inside.unhalted;
      nodes = refl;
      ledger = refl;
      switches = inside.switches;
    }

-- ---- the entries of a cycle

entries_of-all : (c : ℕ) (xs : Log) → list_all (λ (x : EntryValue). x.cycle == c) xs ≡ true → entries_of c xs ≡ xs
entries_of-all c [] h = refl
entries_of-all c (x ∷ xs) h =
    let parts = both (x.cycle == c) (list_all (λ (z : EntryValue). z.cycle == c) xs) h in
    ap (λ b. cond b (x ∷ entries_of c xs) (entries_of c xs)) parts.0 ∙ ap (λ ys. x ∷ ys) (entries_of-all c xs parts.1)

entries_of-earlier : (n : ℕ) (xs : Log) → list_all (λ (x : EntryValue). nat_lt x.cycle n) xs ≡ true →
    entries_of n xs ≡ []
entries_of-earlier n [] h = refl
entries_of-earlier n (x ∷ xs) h =
    let parts = both (nat_lt x.cycle n) (list_all (λ (z : EntryValue). nat_lt z.cycle n) xs) h in
    let other : (x.cycle == n) ≡ false = grind (arith, leb-true (suc x.cycle) n parts.0) in
    ap (λ b. cond b (x ∷ entries_of n xs) (entries_of n xs)) other ∙ entries_of-earlier n xs parts.1

all_weaken : (P Q : EntryValue → Bool) (xs : Log) → ((x : EntryValue) → P x ≡ true → Q x ≡ true) →
    list_all P xs ≡ true → list_all Q xs ≡ true
all_weaken P Q [] f h = refl
all_weaken P Q (x ∷ xs) f h =
    let parts = both (P x) (list_all P xs) h in
    and_true (Q x) (list_all Q xs) (f x parts.0) (all_weaken P Q xs f parts.1)

-- the entries that are due for some cycles are of cycles before
earlier_entries : (M : MissionValue) (P : Past) (entries : Log) → AreDue M P entries →
    list_all (λ (x : EntryValue). nat_lt x.cycle (length P)) entries ≡ true
earlier_entries M [] entries due = ap (list_all (λ (x : EntryValue). nat_lt x.cycle 0)) due
earlier_entries M (e ∷ past) entries due =
    let n = length past in
    let first = all_weaken (λ x. nat_lt x.cycle n) (λ x. nat_lt x.cycle (suc n)) due.0
    (λ x h. le-leb (suc x.cycle) (suc n) (omega (arith, leb-true (suc x.cycle) n h)))
    (earlier_entries M past due.0 due.3) in
    let last = all_weaken (λ x. x.cycle == n) (λ x. nat_lt x.cycle (suc n)) due.1
    (λ x h. le-leb (suc x.cycle) (suc n) (omega (arith, eqb-true x.cycle n h)))
    (entries_cycle M past e n (cycle_carries n e) due.1 due.4 (all_of_cycle n e)) in
    ap (list_all (λ (x : EntryValue). nat_lt x.cycle (suc n))) due.2
    ∙ all-append (λ (x : EntryValue). nat_lt x.cycle (suc n)) due.0 due.1 first last

-- the carries of a slot, and of the slots before it, pass a test of their slot
in_slot : (c : ℕ) (x : Cycle) (slot : Slot) (P : Slot → Bool) → P slot ≡ true →
    list_all (λ (carry : Carry). P carry.slot) (slot_carries c x slot) ≡ true
in_slot c x slot P h = by_frames (carries_frames x slot)
  where
    by_frames : (b : Bool) → list_all (λ (carry : Carry). P carry.slot)
        (cond b (flat_map (λ q. map (λ to. record { cycle = c; slot = slot; from = q; to = to })
        (without (receivers x slot) (q ∷ []))) (channels_where (is_sender x slot))) []) ≡ true
    by_frames true =
        all-flat_map (λ (carry : Carry). P carry.slot)
        (λ q. map (λ to. record { cycle = c; slot = slot; from = q; to = to })
        (without (receivers x slot) (q ∷ []))) (channels_where (is_sender x slot))
        (λ q. all-map (λ (carry : Carry). P carry.slot) (λ to. record { cycle = c; slot = slot; from = q; to = to })
        (without (receivers x slot) (q ∷ [])) (λ to. h))
    by_frames false = refl

done_before : (c : ℕ) (x : Cycle) (slot : Slot) → on_bus slot ≡ true →
    list_all (λ (carry : Carry). nat_lt (slot_index carry.slot) (slot_index slot))
    (carries_done c x (stage_before slot)) ≡ true
done_before c x slot on =
    all_of_flat (λ (carry : Carry). nat_lt (slot_index carry.slot) (slot_index slot))
    (λ s. nat_lt (slot_index s) (slot_index slot)) (slot_carries c x) (take (slot_index slot) every_slot)
    (earlier_slots slot on)
    (λ s h. in_slot c x s (λ t. nat_lt (slot_index t) (slot_index slot)) h)

slots_made : (M : MissionValue) (past : Past) (e : Cycle) (steps : Steps) (P : Slot → Bool) (carries : List Carry)
    (now : Log) → list_all (λ (carry : Carry). P carry.slot) carries ≡ true →
    AllZip (λ carry entry. IsMadeBy M past e (steps_of steps carry.from) carry entry) carries now →
    list_all (λ (y : EntryValue). P y.slot) now ≡ true
slots_made M past e steps P [] [] h z = refl
slots_made M past e steps P [] (y ∷ now) h z = absurd z
slots_made M past e steps P (x ∷ carries) [] h z = absurd z
slots_made M past e steps P (x ∷ carries) (y ∷ now) h z =
    let parts = both (P x.slot) (list_all (λ (carry : Carry). P carry.slot) carries) h in
    and_true (P y.slot) (list_all (λ (w : EntryValue). P w.slot) now) (subst (λ s. P s ≡ true) (sym z.0.slot) parts.0)
    (slots_made M past e steps P carries now parts.1 z.1)

-- ---- a slot is carried

pub take_all : {A : Type 0} (xs : List A) → take (length xs) xs ≡ xs
take_all [] = refl
take_all (x ∷ xs) = ap (λ ys. x ∷ ys) (take_all xs)

zip_length : {A B : Type 0} (R : A → B → Type 0) (xs : List A) (ys : List B) → AllZip R xs ys → length ys ≡ length xs
zip_length R [] [] z = refl
zip_length R [] (y ∷ ys) z = absurd z
zip_length R (x ∷ xs) [] z = absurd z
zip_length R (x ∷ xs) (y ∷ ys) z = ap suc (zip_length R xs ys z.1)

zip_map : {A B : Type 0} (R S : A → B → Type 0) (xs : List A) (ys : List B) → ((x : A) (y : B) → R x y → S x y) →
    AllZip R xs ys → AllZip S xs ys
zip_map R S [] [] f z = tt
zip_map R S [] (y ∷ ys) f z = absurd z
zip_map R S (x ∷ xs) [] f z = absurd z
zip_map R S (x ∷ xs) (y ∷ ys) f z = (f x y z.0, zip_map R S xs ys f z.1)

-- a front that ends within the second of three lists
front_of : {A : Type 0} (few : ℕ) (ys rest : List A) → take (length (take few ys)) (ys ++ rest) ≡ take few ys
front_of zero ys rest = refl
front_of (suc few) [] rest = refl
front_of (suc few) (y ∷ ys) rest = ap (λ zs. y ∷ zs) (front_of few ys rest)

none_more : (k : ℕ) → 0 + k ≡ k
none_more k = omega arith

one_more : (a k : ℕ) → suc a + k ≡ suc (a + k)
one_more a k = omega arith

front_past : {A : Type 0} (xs zs : List A) (k : ℕ) → take (length xs + k) (xs ++ zs) ≡ xs ++ take k zs
front_past [] zs k = ap (λ j. take j zs) (none_more k)
front_past (x ∷ xs) zs k =
    ap (λ j. take j (x ∷ xs ++ zs)) (one_more (length xs) k) ∙ ap (λ ys. x ∷ ys) (front_past xs zs k)

split_at : {A : Type 0} (k : ℕ) (xs : List A) → xs ≡ take k xs ++ drop k xs
split_at zero xs = refl
split_at (suc k) [] = refl
split_at (suc k) (x ∷ xs) = ap (λ ys. x ∷ ys) (split_at k xs)

-- the first slot that passes
found : (p : Slot → Bool) (slot : Slot) → on_bus slot ≡ true →
    ((s : Slot) → slot_index s < slot_index slot → p s ≡ false) → p slot ≡ true → find p every_slot ≡ Some slot
found p Request on each h = rw h refl
found p Round1 on each h = rw (each Request (omega arith), h) refl
found p Round2 on each h = rw (each Request (omega arith), each Round1 (omega arith), h) refl
found p Round3 on each h = rw (each Request (omega arith), each Round1 (omega arith), each Round2 (omega arith), h) refl
found p Tasks on each h =
    rw (each Request (omega arith), each Round1 (omega arith), each Round2 (omega arith), each Round3 (omega arith), h)
    refl
found p Vote on each h = rw (
  each Request (omega arith),
  each Round1 (omega arith),
  each Round2 (omega arith),
  each Round3 (omega arith),
  each Tasks (omega arith),
  h,
) refl
found p Sweep on each h =
    rw (
      each Request (omega arith),
      each Round1 (omega arith),
      each Round2 (omega arith),
      each Round3 (omega arith),
      each Tasks (omega arith),
      each Vote (omega arith),
      h,
    ) refl
found p Final on each h =
    rw (
      each Request (omega arith),
      each Round1 (omega arith),
      each Round2 (omega arith),
      each Round3 (omega arith),
      each Tasks (omega arith),
      each Vote (omega arith),
      each Sweep (omega arith),
      h,
    ) refl
found p Switch on each h =
    rw (
      each Request (omega arith),
      each Round1 (omega arith),
      each Round2 (omega arith),
      each Round3 (omega arith),
      each Tasks (omega arith),
      each Vote (omega arith),
      each Sweep (omega arith),
      each Final (omega arith),
      h,
    )
    refl
found p Output on each h = absurd cc

this_or_earlier : (s slot : Slot) (P : Slot → Type 0) (same : Bool) → (slot_index s == slot_index slot) ≡ same →
    slot_index s < suc (slot_index slot) →
    ((t : Slot) → slot_index t < slot_index slot → P t) → P slot → P s
this_or_earlier s slot P true is early before here =
    subst P (sym (one_place s slot (eqb-true (slot_index s) (slot_index slot) is))) here
this_or_earlier s slot P false is early before here = before s (grind (arith, early, is))

module _ (M : MissionValue) (earlier current new : Log) (steps : Steps) (slot : Slot) (on : on_bus slot ≡ true)
    (w : WorldValue)
    (inside : InCycle M earlier current steps slot (stage_before slot) (stage_before slot) w) (few : ℕ)
    (carried : AreDueCarries M (earlier ++ current) w.done steps
    (take few (slot_carries w.done (cycle_at M (earlier ++ current) w.done) slot)) new) where
  abbrev n : ℕ
  n = w.done

  abbrev K : Log
  K = earlier ++ current

  abbrev past : Past
  past = cycles_before M K n

  abbrev e : Cycle
  e = cycle_at M K n

  all_taken : (P : Carry → Bool) (k : ℕ) (xs : List Carry) → list_all P xs ≡ true → list_all P (take k xs) ≡ true
  all_taken P zero xs h = refl
  all_taken P (suc k) [] h = refl
  all_taken P (suc k) (x ∷ xs) h =
      let parts = both (P x) (list_all P xs) h in
      and_true (P x) (list_all P (take k xs)) parts.0 (all_taken P k xs parts.1)

  late : AreFromPlace n (slot_index slot) new
  late =
      placed M past e steps n slot (take few (slot_carries n e slot)) new
      (all_taken (λ (carry : Carry). carry.cycle == n && nat_le (slot_index slot) (slot_index carry.slot)) few
      (slot_carries n e slot) (placed_carries n e slot)) carried

  abbrev more : Cycle
  more = cycle_from M (entries_of (length past) K ++ entries_of (length past) new) past

  -- what holds of the past and of the cycle with the new entries
  at_log : (Φ : Past → Cycle → Type 0) → Φ past more →
      Φ (cycles_before M (earlier ++ (current ++ new)) n) (cycle_at M (earlier ++ (current ++ new)) n)
  at_log Φ h = subst (λ (X : Log). Φ (cycles_before M X n) (cycle_at M X n)) (append_assoc earlier current new)
      (grown M K new n steps slot on late Φ h)

  made : AllZip (λ carry entry. IsMadeBy M past more (steps_of steps carry.from) carry entry)
      (carries_done n more (stage_before slot) ++ take few (slot_carries n more slot)) (current ++ new)
  made =
      zip_append (λ carry entry. IsMadeBy M past more (steps_of steps carry.from) carry entry)
      (carries_done n more (stage_before slot)) (take few (slot_carries n more slot)) current new
      (stay_made M K new n steps slot on late current inside.made) (stay_new M K new n steps slot on late few carried)

  nodes_same : w.nodes ≡ map (node_in M (earlier ++ (current ++ new)) n steps slot (stage_before slot)) (channels_of M)
  nodes_same =
      inside.nodes
      ∙ ap (λ (f : Channel → NodeValue). map f (channels_of M))
      (fun_ext (λ q. sym (node_stays M K new n steps slot (slot_index slot) q late)))
      ∙ ap (λ (X : Log). map (node_in M X n steps slot (stage_before slot)) (channels_of M))
      (append_assoc earlier current new)

  unhalted_before : (s : Slot) → slot_index s < slot_index slot →
      halts n (cycle_at M (earlier ++ (current ++ new)) n) s ≡ false
  unhalted_before s early =
      at_log (λ p x. halts n x s ≡ false) (halts_same M K new n steps slot on late s early ∙ inside.unhalted s early)

  ledger_kept : w.ledger ≡ ledger_in M (cycle_at M (earlier ++ (current ++ new)) n) slot
  ledger_kept = at_log (λ p x. w.ledger ≡ ledger_in M x slot)
      (inside.ledger ∙ sym (ledger_same M K new n steps slot on late slot))

  abbrev after : Cycle
  after = cycle_at M (earlier ++ (current ++ new)) n

  next_carries : slot_carries n e slot ≡ slot_carries n more slot
  next_carries = carries_same M K new n steps slot on late n (is_n M K new n steps slot on late) slot
      (le-leb (slot_index slot) (slot_index slot) (omega arith))

  -- where all of the slot is carried
  module _ (all : few ≡ length (slot_carries n e slot)) where
    all_of_slot : take few (slot_carries n more slot) ≡ slot_carries n more slot
    all_of_slot = ap (take few) (sym next_carries) ∙ ap (λ k. take k (slot_carries n e slot)) all
        ∙ take_all (slot_carries n e slot) ∙ next_carries

    made_all : AreDueCarries M (earlier ++ (current ++ new)) n steps (carries_done n after (stage_after slot))
        (current ++ new)
    made_all =
        at_log (λ p x. AllZip (λ carry entry. IsMadeBy M p x (steps_of steps carry.from) carry entry)
        (carries_done n x (stage_after slot)) (current ++ new))
        (subst (λ carries. AllZip (λ carry entry. IsMadeBy M past more (steps_of steps carry.from) carry entry) carries
        (current ++ new))
        (ap (λ xs. carries_done n more (stage_before slot) ++ xs) all_of_slot ∙ sym (carries_next n more slot on)) made)

    pub carries_slot : halts n after slot ≡ false →
        InCycle M earlier (current ++ new) steps slot (stage_after slot) (stage_before slot)
        (world_carried (length new) w)
    carries_slot goes =
        record {
          mission = inside.mission;
          ranges = inside.ranges;
          below = inside.below;
          unspent = inside.unspent;
          count = ap (λ k. k + length new) inside.count ∙ sum (length earlier) (length current) (length new)
              ∙ ap (λ k. length earlier + k) (sym (length-append current new));
          before = at_log (λ p x. AreDue M p earlier) inside.before;
          unstopped = at_log (λ p x. stop_of p ≡ None) inside.unstopped;
          made = made_all;
          unhalted = λ s early. this_or_earlier s slot (λ t. halts n after t ≡ false) (slot_index s == slot_index slot)
              refl early unhalted_before goes;
          nodes = nodes_same;
          ledger = ledger_kept;
          switches = at_log (λ p x. w.switches ≡ active_set M p) inside.switches;
        }
      where
        sum : (a b d : ℕ) → (a + b) + d ≡ a + (b + d)
        sum a b d = omega arith

    pub stops_slot : halts n after slot ≡ true → IsStopIn M earlier (current ++ new) n steps slot
    stops_slot halted =
        record {
          due = subst (λ carries. AreDueCarries M (earlier ++ (current ++ new)) n steps carries (current ++ new))
              (ap (flat_map (slot_carries n after)) (sym (through_slot slot on))) made_all;
          stops = ap (option_map (λ s.
              record { cycle = n; slot = s; set = disturbed_channels n after s; active = after.active }))
              (found (halts n after) slot on unhalted_before halted);
          before = at_log (λ p x. stop_of p ≡ None) inside.unstopped;
        }

    cycle_entries : after.entries ≡ current ++ new
    cycle_entries =
        let longer : Log = earlier ++ (current ++ new) in
        let P : Past = cycles_before M longer n in
        let size : length P ≡ n = length-cycles_before M longer n in
        let due : AllZip (IsDue M P after) (carries_done n after (stage_after slot)) (current ++ new) =
        zip_map (λ carry entry. IsMadeBy M P after (steps_of steps carry.from) carry entry) (IsDue M P after)
        (carries_done n after (stage_after slot)) (current ++ new)
        (λ carry entry h. made_is_due M P after (steps_of steps carry.from) carry entry h) made_all in
        let these : list_all (λ (x : EntryValue). x.cycle == n) (current ++ new) ≡ true =
        entries_cycle M P after n (carries_done n after (stage_after slot)) (current ++ new) due
        (all-flat_map (λ (x : Carry). x.cycle == n) (slot_carries n after) (take (suc (slot_index slot)) every_slot)
        (carries_of n after)) in
        let before : AreDue M P earlier = at_log (λ p x. AreDue M p earlier) inside.before in
        entries_now M longer P
        ∙ filter-append (λ (x : EntryValue). x.cycle == length P) earlier (current ++ new)
        ∙ ap (λ es. es ++ entries_of (length P) (current ++ new))
        (entries_of-earlier (length P) earlier (earlier_entries M P earlier before))
        ∙ ap (λ m. entries_of m (current ++ new)) size
        ∙ entries_of-all n (current ++ new) these

    carried_all : AreDueCarries M K n steps (slot_carries n e slot) new
    carried_all = subst (λ carries. AreDueCarries M K n steps carries new)
        (ap (λ k. take k (slot_carries n e slot)) all ∙ take_all (slot_carries n e slot)) carried

    -- what was delivered of each entry of the slot is what its receiver has received
    pub arrives_slot : AllZip (Arrives M after.entries) (slot_carries n e slot) new
    arrives_slot =
        subst (λ entries. AllZip (Arrives M entries) (slot_carries n e slot) new) (sym cycle_entries)
        (arrives M past e steps (slot_carries n e slot) (slot_index slot) current new
        (carries_apart M K n n inside.ranges slot)
        (in_slot n e slot (λ s. nat_le (slot_index slot) (slot_index s))
        (le-leb (slot_index slot) (slot_index slot) (omega arith)))
        (slots_made M past e steps (λ s. nat_lt (slot_index s) (slot_index slot)) (carries_done n e (stage_before slot))
        current (done_before n e slot on) inside.made)
        carried_all)

    -- it is read from the entries of the slot alone
    pub alone : (from to : ℕ) → received_body M after.entries n slot from to ≡ received_body M new n slot from to
    alone from to =
        ap (λ entries. received_body M entries n slot from to) cycle_entries
        ∙ slot_alone M n slot from to current new
        (slots_made M past e steps (λ s. nat_lt (slot_index s) (slot_index slot)) (carries_done n e (stage_before slot))
        current (done_before n e slot on) inside.made)

    -- and nothing else is received in the slot
    pub nothing_else_arrives : (from to : ℕ) → list_any (is_carry_between from to) (slot_carries n e slot) ≡ false →
        received_body M after.entries n slot from to ≡ None
    nothing_else_arrives from to absent =
        ap (λ entries. received_body M entries n slot from to) cycle_entries
        ∙ nothing_else M past e steps n slot from to (slot_carries n e slot) current new absent
        (slots_made M past e steps (λ s. nat_lt (slot_index s) (slot_index slot)) (carries_done n e (stage_before slot))
        current (done_before n e slot on) inside.made)
        carried_all

  -- as far as it was carried, it is a front of the due entries
  pub breaks_slot : IsFront M earlier (current ++ new) n
  breaks_slot =
      at_log (λ p x. AllZip (IsDue M p x) (take (length (current ++ new)) (cycle_carries n x)) (current ++ new))
      (subst (λ carries. AllZip (IsDue M past more) carries (current ++ new)) front due)
    where
      due : AllZip (IsDue M past more) (carries_done n more (stage_before slot) ++ take few (slot_carries n more slot))
          (current ++ new)
      due =
          zip_map (λ carry entry. IsMadeBy M past more (steps_of steps carry.from) carry entry) (IsDue M past more)
          (carries_done n more (stage_before slot) ++ take few (slot_carries n more slot)) (current ++ new)
          (λ carry entry h. made_is_due M past more (steps_of steps carry.from) carry entry h) made

      size : length (current ++ new)
          ≡ length (carries_done n more (stage_before slot)) + length (take few (slot_carries n more slot))
      size = zip_length (IsDue M past more)
          (carries_done n more (stage_before slot) ++ take few (slot_carries n more slot)) (current ++ new) due
          ∙ length-append (carries_done n more (stage_before slot)) (take few (slot_carries n more slot))

      rest : List Carry
      rest = flat_map (slot_carries n more) (drop (suc (slot_index slot)) every_slot)

      whole : cycle_carries n more ≡ carries_done n more (stage_before slot) ++ (slot_carries n more slot ++ rest)
      whole =
          ap (flat_map (slot_carries n more)) (split_at (suc (slot_index slot)) every_slot)
          ∙ flat_map-append (slot_carries n more) (take (suc (slot_index slot)) every_slot)
          (drop (suc (slot_index slot)) every_slot)
          ∙ ap (λ xs. xs ++ rest) (carries_next n more slot on)
          ∙ append_assoc (carries_done n more (stage_before slot)) (slot_carries n more slot) rest

      front : carries_done n more (stage_before slot) ++ take few (slot_carries n more slot)
          ≡ take (length (current ++ new)) (cycle_carries n more)
      front =
          ap (λ xs. carries_done n more (stage_before slot) ++ xs) (sym (front_of few (slot_carries n more slot) rest))
          ∙ sym (front_past (carries_done n more (stage_before slot)) (slot_carries n more slot ++ rest)
          (length (take few (slot_carries n more slot))))
          ∙ ap (λ k. take k (carries_done n more (stage_before slot) ++ (slot_carries n more slot ++ rest))) (sym size)
          ∙ ap (take (length (current ++ new))) (sym whole)

-- ---- once the rounds are carried

pub rounds_carried : (M : MissionValue) (earlier current : Log) (steps : Steps) (slot : Slot) (handed : ℕ)
    (w : WorldValue) → InCycle M earlier current steps slot (stage_before Tasks) handed w →
    DecideAlike M (cycles_before M (earlier ++ current) w.done) (cycle_at M (earlier ++ current) w.done)
rounds_carried M earlier current steps slot handed w inside =
    let n = w.done in
    let past = cycles_before M (earlier ++ current) n in
    let e = next_cycle M (earlier ++ current) past in
    let c = length past in
    let size : c ≡ n = length-cycles_before M (earlier ++ current) n in
    let due : AllZip (IsDue M past e) (carries_through c e Round3) current =
    subst (λ m. AllZip (IsDue M past e) (carries_through m e Round3) current) (sym size)
    (zip_map (λ carry entry. IsMadeBy M past e (steps_of steps carry.from) carry entry) (IsDue M past e)
    (carries_done n e (stage_before Tasks)) current
    (λ carry entry h. made_is_due M past e (steps_of steps carry.from) carry entry h) inside.made) in
    let these : list_all (λ (x : EntryValue). x.cycle == c) current ≡ true =
    entries_cycle M past e c (carries_through c e Round3) current due (all_through c e Round3) in
    let entries : e.entries ≡ current ++ [] =
    entries_now M (earlier ++ current) past
    ∙ filter-append (λ (x : EntryValue). x.cycle == c) earlier current
    ∙ ap (λ es. es ++ entries_of c current)
    (entries_of-earlier c earlier (earlier_entries M past earlier inside.before))
    ∙ entries_of-all c current these
    ∙ sym (append-nil current) in
    decides_under_way M (earlier ++ current) n Round3 inside.ranges inside.below refl
    (record {
      now = current;
      rest = [];
      entries = entries;
      due = due;
      unstopped = subst (λ m. halts m e Round3 ≡ false) (sym size) (inside.unhalted Round3 (omega arith));
    })

-- the entries of a cycle all of whose slots are carried
pub all_carried : (M : MissionValue) (earlier current : Log) (steps : Steps) (slot : Slot) (handed : ℕ)
    (w : WorldValue) → InCycle M earlier current steps slot (stage_after Switch) handed w →
    (cycle_at M (earlier ++ current) w.done).entries ≡ current
all_carried M earlier current steps slot handed w inside =
    let n = w.done in
    let past = cycles_before M (earlier ++ current) n in
    let e = next_cycle M (earlier ++ current) past in
    let c = length past in
    let size : c ≡ n = length-cycles_before M (earlier ++ current) n in
    let due : AllZip (IsDue M past e) (carries_through c e Switch) current =
    subst (λ m. AllZip (IsDue M past e) (carries_through m e Switch) current) (sym size)
    (zip_map (λ carry entry. IsMadeBy M past e (steps_of steps carry.from) carry entry) (IsDue M past e)
    (carries_done n e (stage_after Switch)) current
    (λ carry entry h. made_is_due M past e (steps_of steps carry.from) carry entry h) inside.made) in
    let these : list_all (λ (x : EntryValue). x.cycle == c) current ≡ true =
    entries_cycle M past e c (carries_through c e Switch) current due (all_through c e Switch) in
    entries_now M (earlier ++ current) past
    ∙ filter-append (λ (x : EntryValue). x.cycle == c) earlier current
    ∙ ap (λ es. es ++ entries_of c current)
    (entries_of-earlier c earlier (earlier_entries M past earlier inside.before))
    ∙ entries_of-all c current these
