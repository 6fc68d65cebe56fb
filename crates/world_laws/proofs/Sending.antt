-- What the nodes send in a slot are the carries of the slot, with the bytes that are due on them.
use Rattle.std.proofs.Common.{◌≡◌, ℕ, zero, suc, ◌+◌, ◌≤◌, ◌<◌, ◌==◌, Bool, true, false, cond, not, ◌&&◌, List, [], ◌∷◌, ◌++◌, length, map, Option, None, Some, All, refl, sym, ap, subst, ◌∙◌, eq-eqb, arith}
use Rattle.std.specs.Prelude.{filter, filter_map, flat_map, take, nat_lt, option_map}
use Rattle.std.specs.List.{AllZip, list_all, cons_option, range_with_len}
use Rattle.std.proofs.lemmas.Bool.{leb-true, ltb-true, eqb-true}
use Rattle.std.proofs.lemmas.List.Elements.{All-nil, All-cons}
use Rattle.guards_model.specs.declared.Slot.{Slot}
use Rattle.guards_model.specs.declared.Slot.TheVariants.{Request, Round1, Round2, Round3, Tasks, Vote, Sweep, Final, Switch, Output}
use Rattle.guards_model.specs.Slots.{slot_index, every_slot, same_slot, stage_before}
use Rattle.guards_model.specs.Channels.{Channel, ChannelSet, has, without, channels_where, every_channel}
use Rattle.guards_model.specs.Missions.{MissionValue, IsMission, channels_of}
use Rattle.guards_model.specs.Frames.{BodyValue, is_channel, in_range}
use Rattle.guards_model.specs.Modes.{is_up, is_joining}
use Rattle.guards_model.specs.Network.{EntryValue, Log, switchboard}
use Rattle.guards_model.specs.Rounds.{Steps, IsFull, steps_of, writes_before}
use Rattle.guards_model.proofs.AscendingLists.{set_parts}
use Rattle.guards_model.proofs.BoolTests.{both, and_true, clear, or_true}
use Rattle.guards_model.proofs.Counting.{has-head}
use Rattle.guards_model.proofs.ListTests.{all-filter, all-flat_map, all-map, all-take, weaken}
use Rattle.guards_model.proofs.Replay.{places_of_full}
use Rattle.guards_model.proofs.Tables.{has-filter}
use Rattle.guards_runs.specs.Cycles.{Past, Cycle, cycles_before, cycle_at, mode_in}
use Rattle.guards_runs.specs.Due.{Carry, IsMadeBy, slot_carries, carries_frames, receivers, is_sender, owed, due_bytes, frame_on, due_origin, targets_of}
use Rattle.guards_runs.specs.Promises.{HasRun}
use Rattle.guards_runs.specs.SlotFacts.{Counts}
use Rattle.guards_laws.proofs.CycleParts.{active-is, up_in_slot}
use Rattle.guards_laws.proofs.DueCount.{due_frames_count}
use Rattle.guards_laws.proofs.DueEntries.{carries_of, from_now}
use Rattle.guards_laws.proofs.LogGrows.{length-cycles_before}
use Rattle.guards_laws.proofs.RunRestores.{run_owns}
use Rattle.guards_laws.proofs.StayActive.{three_active}
use Rattle.guards_laws.proofs.WithinChannels.{active_is_set, active_within, channels_few}
use Rattle.guards_nodes.specs.NodeStates.{NodeValue}
use Rattle.guards_world.specs.NodeFacts.{received_through}
use Rattle.guards_world.specs.OwedFrames.{body_of, body_due, is_target}
use Rattle.guards_world.specs.InCycle.{InCycle, carries_done, node_in}
use Rattle.guards_world.specs.Worlds.{WorldValue}
use Rattle.guards_world.specs.WorldCycle.{AreFull}
use Rattle.node_laws.proofs.Holding.{all_of_flat}
use Rattle.node_laws.proofs.Opening.{active_in}
use Rattle.node_laws.proofs.Owing.{owes, stands}
use Rattle.world_laws.proofs.SlotCarriedLemmas.{one_place}
use Rattle.guards_world.specs.NodeLists.{AllReceived, StandsForReceived}
use Rattle.guards_world.specs.SlotSends.{SendValue, MaySend, IsEntryOf, frame_by, send_by, send_to, sends_of, all_sends}
use Rattle.world_laws.proofs.OutsideIsDown.{is_down_in}

-- ---- lists

each_is_there : (xs : List ℕ) → list_all (has xs) xs ≡ true
each_is_there [] = refl
each_is_there (x ∷ xs) = and_true (has (x ∷ xs) x) (list_all (has (x ∷ xs)) xs) (has-head x xs)
    (weaken (has xs) (has (x ∷ xs)) xs (λ y h. or_true (x == y) (has xs y) h) (each_is_there xs))

filtered : {B : Type 0} (P : ℕ → Bool) (f : ℕ → Option B) (g : ℕ → B) (b : Bool) (xs : List ℕ) → list_all P xs ≡ true →
    ((x : ℕ) → P x ≡ true → f x ≡ cond b (Some (g x)) None) →
    filter_map f xs ≡ cond b (map g xs) []
filtered P f g true [] h is = refl
filtered P f g false [] h is = refl
filtered P f g true (x ∷ xs) h is =
    let parts = both (P x) (list_all P xs) h in
    ap (λ o. cons_option o (filter_map f xs)) (is x parts.0) ∙ ap (λ ys. g x ∷ ys) (filtered P f g true xs parts.1 is)
filtered P f g false (x ∷ xs) h is =
    let parts = both (P x) (list_all P xs) h in
    ap (λ o. cons_option o (filter_map f xs)) (is x parts.0) ∙ filtered P f g false xs parts.1 is

map_map : {A B C : Type 0} (f : B → C) (g : A → B) (xs : List A) → map (λ x. f (g x)) xs ≡ map f (map g xs)
map_map f g [] = refl
map_map f g (x ∷ xs) = ap (λ ys. f (g x) ∷ ys) (map_map f g xs)

map_append : {A B : Type 0} (f : A → B) (xs ys : List A) → map f xs ++ map f ys ≡ map f (xs ++ ys)
map_append f [] ys = refl
map_append f (x ∷ xs) ys = ap (λ zs. f x ∷ zs) (map_append f xs ys)

take_map : {A B : Type 0} (f : A → B) (few : ℕ) (xs : List A) → take few (map f xs) ≡ map f (take few xs)
take_map f zero xs = refl
take_map f (suc few) [] = refl
take_map f (suc few) (x ∷ xs) = ap (λ ys. f x ∷ ys) (take_map f few xs)

flat_map_map : {A B C : Type 0} (f : B → List C) (g : A → B) (P : A → Bool) (h : A → List C) (xs : List A) →
    list_all P xs ≡ true → ((x : A) → P x ≡ true → f (g x) ≡ h x) →
    flat_map f (map g xs) ≡ flat_map h xs
flat_map_map f g P h [] all is = refl
flat_map_map f g P h (x ∷ xs) all is =
    let parts = both (P x) (list_all P xs) all in
    ap (λ ys. ys ++ flat_map f (map g xs)) (is x parts.0) ∙ ap (λ ys. h x ++ ys) (flat_map_map f g P h xs parts.1 is)

-- what is nothing from some number on is all told before it
none_from : {B : Type 0} (h : ℕ → List B) (a m : ℕ) → ((q : ℕ) → a ≤ q → q < a + m → h q ≡ []) →
    flat_map h (range_with_len a m) ≡ []
none_from h a zero none = refl
none_from h a (suc m) none =
    ap (λ ys. ys ++ flat_map h (range_with_len (a + 1) m)) (none a (omega arith) (omega arith))
    ∙ none_from h (a + 1) m (λ q low high. none q (omega (arith, low)) (omega (arith, high)))

range_more : {B : Type 0} (h : ℕ → List B) (a n m : ℕ) → n ≤ m → ((q : ℕ) → a + n ≤ q → q < a + m → h q ≡ []) →
    flat_map h (range_with_len a n) ≡ flat_map h (range_with_len a m)
range_more h a zero m few none = sym (none_from h a m (λ q low high. none q (omega (arith, low)) high))
range_more h a (suc n) zero few none = absurd (omega (arith, few))
range_more h a (suc n) (suc m) few none =
    ap (λ ys. h a ++ ys) (range_more h (a + 1) n m (omega (arith, few))
    (λ q low high. none q (omega (arith, low)) (omega (arith, high))))

collected : (b : Bool) (S : ℕ → Bool) (row : ℕ → List Carry) (f : Carry → SendValue) (xs : List ℕ) →
    flat_map (λ q. cond (b && S q) (map f (row q)) []) xs ≡ map f (cond b (flat_map row (filter S xs)) [])
collected true S row f [] = refl
collected true S row f (x ∷ xs) = by_test (S x) (collected true S row f xs)
  where
    by_test : (s : Bool) → flat_map (λ q. cond (true && S q) (map f (row q)) []) xs
        ≡ map f (flat_map row (filter S xs)) →
        cond (true && s) (map f (row x)) [] ++ flat_map (λ q. cond (true && S q) (map f (row q)) []) xs
        ≡ map f (flat_map row (cond s (x ∷ filter S xs) (filter S xs)))
    by_test true rest = ap (λ ys. map f (row x) ++ ys) rest ∙ map_append f (row x) (flat_map row (filter S xs))
    by_test false rest = rest
collected false S row f [] = refl
collected false S row f (x ∷ xs) = collected false S row f xs

targeted : {B : Type 0} (c s t : Bool) (x : B) → t ≡ true →
    cond (c && (s && t)) (Some x) None ≡ cond (c && s) (Some x) None
targeted true true t x h = ap (λ b. cond b (Some x) None) h
targeted true false t x h = refl
targeted false s t x h = refl

-- what is owed, if anything
told : {B : Type 0} (c s t : Bool) (x y : B) → cond (c && (s && t)) (Some x) None ≡ Some y →
    (c ≡ true) × (s ≡ true) × (t ≡ true) × (x ≡ y)
told true true true x y h = (refl, refl, refl, cc)
told true true false x y h = absurd cc
told true false t x y h = absurd cc
told false s t x y h = absurd cc

some_member : (xs : List ℕ) → 1 ≤ length xs → (r : ℕ) × (has xs r ≡ true)
some_member [] h = absurd (omega (arith, h))
some_member (x ∷ xs) h = (x, has-head x xs)

-- ---- who receives

any_passes : (xs : List ℕ) → list_all (λ to. true) xs ≡ true
any_passes [] = refl
any_passes (x ∷ xs) = any_passes xs

all_targets : (e : Cycle) (slot : Slot) → list_all (is_target e slot) (receivers e slot) ≡ true
all_targets e Sweep = each_is_there (targets_of e.transfer)
all_targets e Final = each_is_there e.joined
all_targets e Request = any_passes e.active
all_targets e Round1 = any_passes e.active
all_targets e Round2 = any_passes e.active
all_targets e Round3 = any_passes e.active
all_targets e Tasks = any_passes e.active
all_targets e Vote = any_passes e.active
all_targets e Switch = refl
all_targets e Output = refl

-- a receiver of the slot to whom the same is owed
record IsOwedTo (M : MissionValue) (past : Past) (e : Cycle) (slot : Slot) (q : Channel) (to : ℕ) : Type 0 where
  other : ℕ
  receives : has (receivers e slot) other ≡ true
  same : (places : List ℕ) → owed M past e slot q to places ≡ owed M past e slot q other places

owed_to : (M : MissionValue) (past : Past) (e : Cycle) (slot : Slot) (q : Channel) (to : ℕ) → 1 ≤ length e.active →
    carries_frames e slot ≡ true → is_target e slot to ≡ true → IsOwedTo M past e slot q to
owed_to M past e Sweep q to some frames target = record { other = to; receives = target; same = λ places. refl }
owed_to M past e Final q to some frames target = record { other = to; receives = target; same = λ places. refl }
owed_to M past e Request q to some frames target = let r = some_member e.active some in
    record { other = r.0; receives = r.1; same = λ places. refl }
owed_to M past e Round1 q to some frames target = let r = some_member e.active some in
    record { other = r.0; receives = r.1; same = λ places. refl }
owed_to M past e Round2 q to some frames target = let r = some_member e.active some in
    record { other = r.0; receives = r.1; same = λ places. refl }
owed_to M past e Round3 q to some frames target = let r = some_member e.active some in
    record { other = r.0; receives = r.1; same = λ places. refl }
owed_to M past e Vote q to some frames target = let r = some_member e.active some in
    record { other = r.0; receives = r.1; same = λ places. refl }
owed_to M past e Switch q to some frames target = record { other = switchboard; receives = refl; same = λ places. refl }
owed_to M past e Tasks q to some frames target = absurd cc
owed_to M past e Output q to some frames target = absurd cc

-- ---- the entries of the cycle so far

of_cycle : (M : MissionValue) (past : Past) (e : Cycle) (steps : Steps) (n : ℕ) (carries : List Carry) (entries : Log) →
    list_all (λ (carry : Carry). carry.cycle == n) carries ≡ true →
    AllZip (λ carry entry. IsMadeBy M past e (steps_of steps carry.from) carry entry) carries entries →
    list_all (λ (y : EntryValue). y.cycle == n) entries ≡ true
of_cycle M past e steps n [] [] h z = refl
of_cycle M past e steps n [] (y ∷ entries) h z = absurd z
of_cycle M past e steps n (x ∷ carries) [] h z = absurd z
of_cycle M past e steps n (x ∷ carries) (y ∷ entries) h z =
    let parts = both (x.cycle == n) (list_all (λ (carry : Carry). carry.cycle == n) carries) h in
    and_true (y.cycle == n) (list_all (λ (v : EntryValue). v.cycle == n) entries)
    (subst (λ c. (c == n) ≡ true) (sym z.0.cycle) parts.0) (of_cycle M past e steps n carries entries parts.1 z.1)

-- ---- the nodes

all_of : (P : NodeValue → Type 0) (a : Channel → NodeValue) → ((q : Channel) → q < 7 → P (a q)) → (qs : ChannelSet) →
    list_all is_channel qs ≡ true → All P (map a qs)
all_of P a here [] low = All-nil P
all_of P a here (q ∷ qs) low =
    let parts = both (is_channel q) (list_all is_channel qs) low in
    All-cons P (a q) (map a qs) (here q (leb-true (suc q) 7 parts.0)) (all_of P a here qs parts.1)

channels_low : (M : MissionValue) → IsMission M → list_all is_channel (channels_of M) ≡ true
channels_low M mission = (set_parts (channels_of M) (active_is_set M [] mission)).0

-- each carry that passes a test is made by the entry that was sent on it
zip_sent : (R : Carry → EntryValue → Type 0) (f : Carry → SendValue) (P : Carry → Bool) (xs : List Carry) (ys : Log) →
    list_all P xs ≡ true →
    ((x : Carry) (y : EntryValue) → P x ≡ true → IsEntryOf (f x) y → R x y) → AllZip IsEntryOf (map f xs) ys →
    AllZip R xs ys
zip_sent R f P [] [] h is z = tt
zip_sent R f P [] (y ∷ ys) h is z = absurd z
zip_sent R f P (x ∷ xs) [] h is z = absurd z
zip_sent R f P (x ∷ xs) (y ∷ ys) h is z =
    let parts = both (P x) (list_all P xs) h in
    (is x y parts.0 z.0, zip_sent R f P xs ys parts.1 is z.1)

module _ (M : MissionValue) (earlier current : Log) (steps : Steps) (slot : Slot) (w : WorldValue)
    (inside : InCycle M earlier current steps slot (stage_before slot) (stage_before slot) w) where
  abbrev n : ℕ
  n = w.done

  abbrev K : Log
  K = earlier ++ current

  abbrev past : Past
  past = cycles_before M K n

  abbrev e : Cycle
  e = cycle_at M K n

  abbrev received : AllReceived
  received q = received_through M past e (stage_before slot) q

  abbrev node : Channel → NodeValue
  node q = node_in M K n steps slot (stage_before slot) q

  few : M.rules.channels ≤ 7
  few = channels_few M inside.ranges

  run : HasRun M K n
  run =
      record {
        before = earlier;
        later = current;
        entries = refl;
        after = from_now n current
            (of_cycle M past e steps n (carries_done n e (stage_before slot)) current
            (all-flat_map (λ (carry : Carry). carry.cycle == n) (slot_carries n e) (take (slot_index slot) every_slot)
            (carries_of n e)) inside.made);
        due = inside.before;
        unstopped = inside.unstopped;
      }

  owes_due : (q : Channel) (to : ℕ) → q < 7 →
      body_of M (received q) slot to (node q).state ≡ body_due M past e steps slot q to
  owes_due q to low = owes M past e steps q (λ s is. active_in M K n inside.ranges q low s is)
      (run_owns M K n inside.ranges (omega (arith, inside.below)) run q) slot to

  all_stand : All (StandsForReceived received) w.nodes
  all_stand = subst (λ (nodes : List NodeValue). All (StandsForReceived received) nodes) (sym inside.nodes)
      (all_of (StandsForReceived received) node
      (λ q low. record { stands = stands M past e steps slot (slot_index slot) q }) (channels_of M)
      (channels_low M inside.ranges))

  -- ---- what is sent

  abbrev due_send : Carry → SendValue
  due_send carry = record {
    carry = carry;
    bytes = due_bytes M past e carry (writes_before (steps_of steps carry.from));
  }

  abbrev row : Channel → List Carry
  row q = map (λ to. record { cycle = n; slot = slot; from = q; to = to }) (without (receivers e slot) (q ∷ []))

  abbrev due_row : Channel → List SendValue
  due_row q = cond (carries_frames e slot && is_sender e slot q) (map due_send (row q)) []

  node_sends : (q : Channel) → q < 7 → sends_of M n slot (receivers e slot) (received q) (node q) ≡ due_row q
  node_sends q low =
      let others : List ℕ = without (receivers e slot) (q ∷ []) in
      let sends : ℕ → SendValue = λ to. due_send (record { cycle = n; slot = slot; from = q; to = to }) in
      filtered (is_target e slot) (send_to M n slot (received q) (node q)) sends
      (carries_frames e slot && is_sender e slot q) others
      (all-filter (is_target e slot) (λ x. not (has (q ∷ []) x)) (receivers e slot) (all_targets e slot))
      (λ to target. ap (option_map (send_by n slot (node q) to))
      (owes_due q to low ∙ targeted (carries_frames e slot) (is_sender e slot q) (is_target e slot to)
      (owed M past e slot q to (writes_before (steps_of steps q))) target)
      ∙ sent_if (carries_frames e slot && is_sender e slot q) (send_by n slot (node q) to)
      (owed M past e slot q to (writes_before (steps_of steps q))))
      ∙ ap (λ xs. cond (carries_frames e slot && is_sender e slot q) xs [])
      (map_map due_send (λ to. record { cycle = n; slot = slot; from = q; to = to }) others)
    where
      sent_if : (b : Bool) (f : BodyValue → SendValue) (x : BodyValue) →
          option_map f (cond b (Some x) None) ≡ cond b (Some (f x)) None
      sent_if true f x = refl
      sent_if false f x = refl

  -- a channel that the mission does not have sends nothing
  no_sender : (q : Channel) → M.rules.channels ≤ q → q < 7 → is_sender e slot q ≡ false
  no_sender q far low = in_slot slot
    where
      outside : nat_lt q M.rules.channels ≡ false
      outside = clear (nat_lt q M.rules.channels) (λ h. absurd (omega (arith, ltb-true q M.rules.channels h, far)))

      passive : has e.active q ≡ false
      passive = clear (has e.active q)
          (λ there. absurd (omega (
            arith,
            active_within M K n q (sym (ap (λ (s : ChannelSet). has s q) (active-is M K past)) ∙ there),
            far,
          )))

      not_running : (s : Slot) → (has e.active q && is_up (mode_in e q s)) ≡ false
      not_running s = ap (λ b. b && is_up (mode_in e q s)) passive

      in_slot : (s : Slot) → is_sender e s q ≡ false
      in_slot Request = ap is_joining (is_down_in M K inside.ranges q low outside n Request refl)
      in_slot Round1 = not_running Round1
      in_slot Round2 = not_running Round2
      in_slot Round3 = not_running Round3
      in_slot Tasks = not_running Tasks
      in_slot Vote = not_running Vote
      in_slot Sweep = not_running Sweep
      in_slot Final = not_running Final
      in_slot Switch = not_running Switch
      in_slot Output = refl

  none_outside : (q : Channel) → M.rules.channels ≤ q → q < 7 → due_row q ≡ []
  none_outside q far low = ap (λ s. cond (carries_frames e slot && s) (map due_send (row q)) []) (no_sender q far low)
      ∙ nothing (carries_frames e slot)
    where
      nothing : (b : Bool) → cond (b && false) (map due_send (row q)) [] ≡ []
      nothing true = refl
      nothing false = refl

  sends_are : all_sends M n slot (receivers e slot) received w.nodes ≡ map due_send (slot_carries n e slot)
  unfolding channels_where
  sends_are =
      ap (λ (nodes : List NodeValue). all_sends M n slot (receivers e slot) received nodes) inside.nodes
      ∙ flat_map_map (λ (x : NodeValue). sends_of M n slot (receivers e slot) (received x.channel) x) node is_channel
      due_row (channels_of M) (channels_low M inside.ranges)
      (λ q low. node_sends q (leb-true (suc q) 7 low))
      ∙ range_more due_row 0 M.rules.channels 7 few
      (λ q far low. none_outside q (omega (arith, far)) (omega (arith, low)))
      ∙ collected (carries_frames e slot) (is_sender e slot) row due_send every_channel

  module _ (full : slot ≡ Sweep → AreFull M past e steps) where
    -- who sends in the sweep slot has worked
    sender_full : (q : Channel) → q < 7 → is_sender e slot q ≡ true → slot ≡ Sweep →
        IsFull (due_origin M past e q) (steps_of steps q)
    sender_full q low sends is =
        let runs = both (has e.active q) (is_up (mode_in e q Sweep))
        (subst (λ (s : Slot). is_sender e s q ≡ true) is sends) in
        let worked : is_up (mode_in e q Tasks) ≡ true = up_in_slot M K past q Tasks Sweep low refl runs.1 in
        full is q (has-filter (λ p. is_up (mode_in e p Tasks)) e.active q
        ∙ and_true (is_up (mode_in e q Tasks)) (has e.active q) worked runs.0)

    -- ---- spellings

    frame_fits : (q : Channel) (to : ℕ) → q < 7 → carries_frames e slot ≡ true → is_sender e slot q ≡ true →
        is_target e slot to ≡ true →
        in_range (frame_by n (node q) (owed M past e slot q to (writes_before (steps_of steps q)))) ≡ true
    frame_fits q to low frames sends target =
        let places : List ℕ = writes_before (steps_of steps q) in
        let some : 1 ≤ length e.active =
        subst (λ (s : ChannelSet). 1 ≤ length s) (sym (active-is M K past))
        (omega (arith, three_active M K inside.ranges n)) in
        let same = owed_to M past e slot q to some frames target in
        let counts : Counts M past e slot q same.other places =
        due_frames_count M K n slot q same.other places inside.ranges inside.below
        (record {
          carries = frames;
          sender = low;
          sends = sends;
          receives = same.receives;
          in_order = λ is. places_of_full (due_origin M past e q) (steps_of steps q) (sender_full q low sends is);
        }) in
        subst (λ c. in_range (frame_on M (record { cycle = c; slot = slot; from = q; to = to })
        (owed M past e slot q to places)) ≡ true) (length-cycles_before M K n)
        (subst (λ (b : BodyValue).
        in_range (frame_on M (record { cycle = length past; slot = slot; from = q; to = to }) b) ≡ true)
        (sym (same.same places)) counts.spelled)

    may_send : (q : Channel) → q < 7 → MaySend M n slot received (node q)
    may_send q low =
        record {
          rules = refl;
          fits = λ to body is.
              let owes_it = told (carries_frames e slot) (is_sender e slot q) (is_target e slot to)
              (owed M past e slot q to (writes_before (steps_of steps q))) body (sym (owes_due q to low) ∙ is) in
              subst (λ (b : BodyValue). in_range (frame_by n (node q) b) ≡ true) owes_it.3
              (frame_fits q to low owes_it.0 owes_it.1 owes_it.2);
        }

    all_may_send : All (MaySend M n slot received) w.nodes
    all_may_send = subst (λ (nodes : List NodeValue). All (MaySend M n slot received) nodes) (sym inside.nodes)
        (all_of (MaySend M n slot received) node may_send (channels_of M) (channels_low M inside.ranges))

    -- ---- entries

    abbrev is_here : Carry → Bool
    is_here carry = same_slot carry.slot slot && (is_channel carry.from && is_sender e slot carry.from)

    abbrev is_sending : Channel → Bool
    is_sending q = is_channel q && is_sender e slot q

    senders : (xs : List ℕ) → list_all is_channel xs ≡ true → list_all is_sending (filter (is_sender e slot) xs) ≡ true
    senders [] h = refl
    senders (x ∷ xs) h =
        let parts = both (is_channel x) (list_all is_channel xs) h in
        by_test (is_sender e slot x) refl parts.0 (senders xs parts.1)
      where
        by_test : (b : Bool) → is_sender e slot x ≡ b → is_channel x ≡ true →
            list_all is_sending (filter (is_sender e slot) xs) ≡ true →
            list_all is_sending (cond b (x ∷ filter (is_sender e slot) xs) (filter (is_sender e slot) xs)) ≡ true
        by_test true is low rest =
            and_true (is_sending x) (list_all is_sending (filter (is_sender e slot) xs))
            (and_true (is_channel x) (is_sender e slot x) low is) rest
        by_test false is low rest = rest

    carries_here : list_all is_here (slot_carries n e slot) ≡ true
    unfolding channels_where
    carries_here = by_frames (carries_frames e slot)
      where
        by_frames : (b : Bool) → list_all is_here (cond b (flat_map row (filter (is_sender e slot) every_channel)) [])
            ≡ true
        by_frames true =
            all_of_flat is_here is_sending row (filter (is_sender e slot) every_channel) (senders every_channel refl)
            (λ q sends. all-map is_here (λ to. record { cycle = n; slot = slot; from = q; to = to })
            (without (receivers e slot) (q ∷ []))
            (λ to. and_true (same_slot slot slot) (is_sending q) (eq-eqb (slot_index slot) (slot_index slot) refl)
            sends))
        by_frames false = refl

    made : (carry : Carry) (entry : EntryValue) → is_here carry ≡ true → IsEntryOf (due_send carry) entry →
        IsMadeBy M past e (steps_of steps carry.from) carry entry
    made carry entry here sent =
        let parts = both (same_slot carry.slot slot) (is_sending carry.from) here in
        let sends = both (is_channel carry.from) (is_sender e slot carry.from) parts.1 in
        let same : carry.slot ≡ slot =
        one_place carry.slot slot (eqb-true (slot_index carry.slot) (slot_index slot) parts.0) in
        record {
          cycle = sent.cycle_is;
          slot = sent.slot_is;
          from = sent.from_is;
          to = sent.to_is;
          full = λ is. sender_full carry.from (leb-true (suc carry.from) 7 sends.0) sends.1 (sym same ∙ is);
          sent = sent.sent_is;
        }

    few_made : (number : ℕ) (new : Log) →
        AllZip IsEntryOf (take number (all_sends M n slot (receivers e slot) received w.nodes)) new →
        AllZip (λ carry entry. IsMadeBy M past e (steps_of steps carry.from) carry entry)
        (take number (slot_carries n e slot)) new
    few_made number new sent =
        zip_sent (λ carry entry. IsMadeBy M past e (steps_of steps carry.from) carry entry) due_send is_here
        (take number (slot_carries n e slot)) new
        (all-take is_here number (slot_carries n e slot) carries_here) made
        (subst (λ sends. AllZip IsEntryOf sends new)
        (ap (take number) sends_are ∙ take_map due_send number (slot_carries n e slot)) sent)

    all_made : (new : Log) → AllZip IsEntryOf (all_sends M n slot (receivers e slot) received w.nodes) new →
        AllZip (λ carry entry. IsMadeBy M past e (steps_of steps carry.from) carry entry) (slot_carries n e slot) new
    all_made new sent =
        zip_sent (λ carry entry. IsMadeBy M past e (steps_of steps carry.from) carry entry) due_send is_here
        (slot_carries n e slot) new carries_here made
        (subst (λ sends. AllZip IsEntryOf sends new) sends_are sent)

-- ---- as the law has them

pub nodes_stand : (M : MissionValue) (earlier current : Log) (steps : Steps) (slot : Slot) (w : WorldValue) →
    InCycle M earlier current steps slot (stage_before slot) (stage_before slot) w →
    All (StandsForReceived (λ q.
    received_through M (cycles_before M (earlier ++ current) w.done) (cycle_at M (earlier ++ current) w.done)
    (stage_before slot) q)) w.nodes
nodes_stand M earlier current steps slot w inside = all_stand M earlier current steps slot w inside

pub nodes_may_send : (M : MissionValue) (earlier current : Log) (steps : Steps) (slot : Slot) (w : WorldValue) →
    InCycle M earlier current steps slot (stage_before slot) (stage_before slot) w →
    (slot ≡ Sweep → AreFull M (cycles_before M (earlier ++ current) w.done) (cycle_at M (earlier ++ current) w.done)
    steps) →
    All (MaySend M w.done slot
    (λ q. received_through M (cycles_before M (earlier ++ current) w.done) (cycle_at M (earlier ++ current) w.done)
    (stage_before slot) q)) w.nodes
nodes_may_send M earlier current steps slot w inside full = all_may_send M earlier current steps slot w inside full

pub sent_whole : (M : MissionValue) (earlier current new : Log) (steps : Steps) (slot : Slot) (to : List ℕ)
    (w : WorldValue) → InCycle M earlier current steps slot (stage_before slot) (stage_before slot) w →
    (slot ≡ Sweep → AreFull M (cycles_before M (earlier ++ current) w.done) (cycle_at M (earlier ++ current) w.done)
    steps) → receivers (cycle_at M (earlier ++ current) w.done) slot ≡ to →
    AllZip IsEntryOf (all_sends M w.done slot to
    (λ q. received_through M (cycles_before M (earlier ++ current) w.done) (cycle_at M (earlier ++ current) w.done)
    (stage_before slot) q) w.nodes) new →
    AllZip (λ carry entry. IsMadeBy M (cycles_before M (earlier ++ current) w.done)
    (cycle_at M (earlier ++ current) w.done) (steps_of steps carry.from) carry entry)
    (slot_carries w.done (cycle_at M (earlier ++ current) w.done) slot) new
sent_whole M earlier current new steps slot to w inside full same sent =
    all_made M earlier current steps slot w inside full new
    (subst (λ xs. AllZip IsEntryOf
    (all_sends M w.done slot xs
    (λ q. received_through M (cycles_before M (earlier ++ current) w.done) (cycle_at M (earlier ++ current) w.done)
    (stage_before slot) q) w.nodes) new) (sym same) sent)

pub sent_few : (M : MissionValue) (earlier current new : Log) (steps : Steps) (slot : Slot) (to : List ℕ) (number : ℕ)
    (w : WorldValue) → InCycle M earlier current steps slot (stage_before slot) (stage_before slot) w →
    (slot ≡ Sweep → AreFull M (cycles_before M (earlier ++ current) w.done) (cycle_at M (earlier ++ current) w.done)
    steps) → receivers (cycle_at M (earlier ++ current) w.done) slot ≡ to →
    AllZip IsEntryOf (take number
    (all_sends M w.done slot to
    (λ q. received_through M (cycles_before M (earlier ++ current) w.done) (cycle_at M (earlier ++ current) w.done)
    (stage_before slot) q) w.nodes)) new →
    AllZip (λ carry entry. IsMadeBy M (cycles_before M (earlier ++ current) w.done)
    (cycle_at M (earlier ++ current) w.done) (steps_of steps carry.from) carry entry)
    (take number (slot_carries w.done (cycle_at M (earlier ++ current) w.done) slot)) new
sent_few M earlier current new steps slot to number w inside full same sent =
    few_made M earlier current steps slot w inside full number new
    (subst (λ xs. AllZip IsEntryOf
    (take number (all_sends M w.done slot xs
    (λ q. received_through M (cycles_before M (earlier ++ current) w.done) (cycle_at M (earlier ++ current) w.done)
    (stage_before slot) q) w.nodes)) new) (sym same) sent)
