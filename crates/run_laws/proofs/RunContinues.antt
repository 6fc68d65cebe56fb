-- A cycle of a world goes on with the run, stops it, or breaks it off.
use Rattle.std.proofs.Common.{◌≡◌, ◌≤◌, ◌<◌, ◌-◌, ◌==◌, ℕ, zero, suc, Bool, true, false, cond, not, List, [], ◌∷◌, ◌++◌, length, Option, Some, None, refl, sym, ap, subst, ◌∙◌, arith}
use Rattle.std.specs.Prelude.{take, drop, filter, find, flat_map, nat_lt, option_map}
use Rattle.std.specs.List.{AllZip, AllByRecursion, list_all}
use Rattle.std.proofs.lemmas.Bool.{ltb-true}
use Rattle.std.proofs.lemmas.List.{length-append}
use Rattle.std.proofs.lemmas.Grind.{flat_map-append}
use Rattle.std.proofs.Math.Seq.{take-append_seam, drop-append_seam}
use Rattle.guards_model.specs.declared.Slot.{Slot}
use Rattle.guards_model.specs.declared.Slot.TheVariants.{Request, Round1, Round2, Round3, Tasks, Vote, Sweep, Final, Switch, Output}
use Rattle.guards_model.specs.Slots.{slot_index, every_slot, up_to, on_bus}
use Rattle.guards_model.proofs.BoolTests.{both, and_true}
use Rattle.guards_model.specs.Missions.{MissionValue, IsMission}
use Rattle.guards_model.specs.Network.{EntryValue, Log, AreFrom}
use Rattle.guards_model.specs.Rounds.{Steps, Histories, steps_of}
use Rattle.guards_model.specs.Texts.{StopValue}
use Rattle.guards_runs.specs.Cycles.{Cycle, Past, cycles_before, cycle_at}
use Rattle.guards_runs.specs.Disturbed.{stop_in, stop_of, halts, disturbed_channels}
use Rattle.guards_runs.specs.Due.{Carry, IsDue, IsMadeBy, AreMadeBy, AreDue, AreDueSoFar, cycle_carries, carries_through, slot_carries}
use Rattle.guards_runs.specs.Soundness.{IsSound}
use Rattle.guards_runs.specs.Report.{earlier_steps, latest_steps}
use Rattle.guards_laws.proofs.LogGrows.{length-cycles_before, cycles_before-append}
use Rattle.guards_laws.proofs.MadeEntries.{made_is_due, made_are_due}
use Rattle.guards_laws.proofs.DueEntries.{all_of_cycle, all_through, entries_cycle, from_now}
use Rattle.guards_laws.proofs.Agreement.{broken_run}
use Rattle.guards_laws.proofs.RunIsSound.{main_theorem}
use Rattle.guards_world.specs.WorldCycle.{AreFull}
use Rattle.world_laws.proofs.SlotCarriedLemmas.{earlier_slots}
use Rattle.world_laws.specs.Fronts.{IsUpToStop}
use Rattle.world_laws.proofs.RunFronts.{later_through}
use Rattle.run_laws.specs.Runs.{AreDueBy, HasRunToStop, HasRunPart}

-- ---- lists

-- the last entries are those that a log grew by
last_are : (log L : Log) (n : ℕ) → length L ≡ n → drop (length (log ++ L) - n) (log ++ L) ≡ L
last_are log L n size =
    let count : length (log ++ L) - n ≡ length log = omega (arith, length-append log L, size) in
    ap (λ k. drop k (log ++ L)) count ∙ drop-append_seam log L

pub all_append : (P : EntryValue → Type 0) (xs ys : Log) → AllByRecursion P xs → AllByRecursion P ys →
    AllByRecursion P (xs ++ ys)
all_append P [] ys h k = k
all_append P (x ∷ xs) ys h k = (h.0, all_append P xs ys h.1 k)

zip_length : {A B : Type 0} (R : A → B → Type 0) (xs : List A) (ys : List B) → AllZip R xs ys → length ys ≡ length xs
zip_length R [] [] h = refl
zip_length R [] (y ∷ ys) h = absurd h
zip_length R (x ∷ xs) [] h = absurd h
zip_length R (x ∷ xs) (y ∷ ys) h = ap suc (zip_length R xs ys h.1)

-- ---- entries

pub each_due : (M : MissionValue) (past : Past) (e : Cycle) (steps : Steps) (carries : List Carry) (now : Log) →
    AllZip (λ carry entry. IsMadeBy M past e (steps_of steps carry.from) carry entry) carries now →
    AllZip (IsDue M past e) carries now
each_due M past e steps [] [] made = tt
each_due M past e steps [] (y ∷ now) made = absurd made
each_due M past e steps (k ∷ carries) [] made = absurd made
each_due M past e steps (k ∷ carries) (y ∷ now) made =
    (made_is_due M past e (steps_of steps k.from) k y made.0, each_due M past e steps carries now made.1)

-- entries that are due by some histories are due
pub due_by : (M : MissionValue) (histories : Histories) (past : Past) (L : Log) → AreDueBy M histories past L →
    AreDue M past L
due_by M histories [] L due = due
due_by M histories (e ∷ past) L due = (
  due.0,
  due.1,
  due.2,
  due_by M (earlier_steps histories) past due.0 due.3,
  made_are_due M (latest_steps histories) past e due.1 due.4,
)

-- the due entries of a cycle are of it
from_made : (M : MissionValue) (past : Past) (e : Cycle) (steps : Steps) (now : Log) → AreMadeBy M steps past e now →
    AreFrom (length past) now
from_made M past e steps now made =
    from_now (length past) now
    (entries_cycle M past e (length past) (cycle_carries (length past) e) now (made_are_due M steps past e now made)
    (all_of_cycle (length past) e))

pub from_through : (M : MissionValue) (past : Past) (e : Cycle) (c : ℕ) (slot : Slot) (now : Log) →
    AllZip (IsDue M past e) (carries_through c e slot) now → AreFrom c now
from_through M past e c slot now due =
    from_now c now (entries_cycle M past e c (carries_through c e slot) now due (all_through c e slot))

taken : (P : Carry → Bool) (few : ℕ) (xs : List Carry) → list_all P xs ≡ true → list_all P (take few xs) ≡ true
taken P zero xs h = refl
taken P (suc few) [] h = refl
taken P (suc few) (x ∷ xs) h =
    let parts = both (P x) (list_all P xs) h in
    and_true (P x) (list_all P (take few xs)) parts.0 (taken P few xs parts.1)

pub from_few : (M : MissionValue) (past : Past) (e : Cycle) (c few : ℕ) (now : Log) →
    AllZip (IsDue M past e) (take few (cycle_carries c e)) now → AreFrom c now
from_few M past e c few now due =
    from_now c now (entries_cycle M past e c (take few (cycle_carries c e)) now due
    (taken (λ x. x.cycle == c) few (cycle_carries c e) (all_of_cycle c e)))

-- the carries up to a slot are the first of a cycle's
through : (c : ℕ) (e : Cycle) (slot : Slot) →
    (rest : List Carry) × (cycle_carries c e ≡ carries_through c e slot ++ rest)
through c e slot = (flat_map (slot_carries c e) (after slot), parts slot)
  where
    after : Slot → List Slot
    after slot = filter (λ s. not (up_to s slot)) every_slot

    split : (slot : Slot) → every_slot ≡ filter (λ s. up_to s slot) every_slot ++ after slot
    split Request = refl
    split Round1 = refl
    split Round2 = refl
    split Round3 = refl
    split Tasks = refl
    split Vote = refl
    split Sweep = refl
    split Final = refl
    split Switch = refl
    split Output = refl

    parts : (slot : Slot) → cycle_carries c e ≡ carries_through c e slot ++ flat_map (slot_carries c e) (after slot)
    parts slot = ap (flat_map (slot_carries c e)) (split slot)
        ∙ flat_map-append (slot_carries c e) (filter (λ s. up_to s slot) every_slot) (after slot)

-- ---- one more cycle

module _ (M : MissionValue) (earlier current : Log) (n : ℕ) (histories : Histories) where
  -- entries of this cycle or later ones leave what was due before
  pub due_stays : AreFrom n current → AreDueBy M histories (cycles_before M earlier n) earlier →
      AreDueBy M histories (cycles_before M (earlier ++ current) n) earlier
  due_stays from due = subst (λ past. AreDueBy M histories past earlier)
      (sym (cycles_before-append M earlier current n from)) due

  pub unstopped_stays : AreFrom n current → stop_of (cycles_before M earlier n) ≡ None →
      stop_of (cycles_before M (earlier ++ current) n) ≡ None
  unstopped_stays from h = ap stop_of (cycles_before-append M earlier current n from) ∙ h

  pub made_of_cycle : (steps : Steps) →
      AreMadeBy M steps (cycles_before M (earlier ++ current) n) (cycle_at M (earlier ++ current) n) current →
      AreFrom n current
  made_of_cycle steps made =
      subst (λ c. AreFrom c current) (length-cycles_before M (earlier ++ current) n)
      (from_made M (cycles_before M (earlier ++ current) n) (cycle_at M (earlier ++ current) n) steps current made)

  -- so far the run is sound
  sound_part : (few : ℕ) → IsMission M → n ≤ M.cycles → AreFrom n current →
      AreDueBy M histories (cycles_before M earlier n) earlier → stop_of (cycles_before M earlier n) ≡ None →
      AllZip (IsDue M (cycles_before M (earlier ++ current) n) (cycle_at M (earlier ++ current) n))
      (take few (cycle_carries n (cycle_at M (earlier ++ current) n))) current → IsSound M (earlier ++ current) n
  sound_part few mission within from due unstopped last =
      let past = cycles_before M (earlier ++ current) n in
      let e = cycle_at M (earlier ++ current) n in
      let front : AreDueSoFar M past e few (earlier ++ current) = (
        earlier,
        current,
        refl,
        due_by M histories past earlier (due_stays from due),
        subst (λ c. AllZip (IsDue M past e) (take few (cycle_carries c e)) current)
            (sym (length-cycles_before M (earlier ++ current) n)) last,
      ) in
      main_theorem M (earlier ++ current) n mission within
      (broken_run M (earlier ++ current) n few front (unstopped_stays from unstopped))

  pub ran_part : length histories ≡ n → IsMission M → n ≤ M.cycles → (0 < length current → n < M.cycles) →
      AreDueBy M histories (cycles_before M earlier n) earlier → stop_of (cycles_before M earlier n) ≡ None →
      AllZip (IsDue M (cycles_before M (earlier ++ current) n) (cycle_at M (earlier ++ current) n))
      (take (length current) (cycle_carries n (cycle_at M (earlier ++ current) n))) current →
      IsUpToStop M earlier current n →
      HasRunPart M n (earlier ++ current) histories
  ran_part beside mission within left due unstopped last up_to_stop =
      let from = from_few M (cycles_before M (earlier ++ current) n) (cycle_at M (earlier ++ current) n) n
      (length current) current last in
      record {
        within = within;
        beside = beside;
        before = earlier;
        now = current;
        entries = refl;
        due = due_stays from due;
        due_now = last;
        left = left;
        up_to_stop = up_to_stop;
        unstopped = unstopped_stays from unstopped;
        sound = sound_part (length current) mission within from due unstopped last;
      }

  -- the carries up to a slot, as a number of the cycle's carries
  as_few : (slot : Slot) → AllZip (IsDue M (cycles_before M (earlier ++ current) n) (cycle_at M (earlier ++ current) n))
      (carries_through n (cycle_at M (earlier ++ current) n) slot) current →
      AllZip (IsDue M (cycles_before M (earlier ++ current) n) (cycle_at M (earlier ++ current) n))
      (take (length current) (cycle_carries n (cycle_at M (earlier ++ current) n))) current
  as_few slot due =
      let past = cycles_before M (earlier ++ current) n in
      let e = cycle_at M (earlier ++ current) n in
      let (rest, whole) = through n e slot in
      let these : take (length current) (cycle_carries n e) ≡ carries_through n e slot =
      ap (take (length current)) whole
      ∙ ap (λ k. take k (carries_through n e slot ++ rest))
      (zip_length (IsDue M past e) (carries_through n e slot) current due)
      ∙ take-append_seam (carries_through n e slot) rest in
      subst (λ carries. AllZip (IsDue M past e) carries current) (sym these) due

  pub ran_to_stop : (stop : StopValue) (steps : Steps) → length histories ≡ n → IsMission M → n < M.cycles →
      AreDueBy M histories (cycles_before M earlier n) earlier → stop_of (cycles_before M earlier n) ≡ None →
      AllZip (λ carry entry. IsMadeBy M (cycles_before M (earlier ++ current) n) (cycle_at M (earlier ++ current) n)
      (steps_of steps carry.from) carry entry) (carries_through n (cycle_at M (earlier ++ current) n) stop.slot)
      current →
      (slot_index Tasks < slot_index stop.slot →
      AreFull M (cycles_before M (earlier ++ current) n) (cycle_at M (earlier ++ current) n) steps) →
      stop_in n (cycle_at M (earlier ++ current) n) ≡ Some stop →
      HasRunToStop M n stop (earlier ++ current) histories
  ran_to_stop stop steps beside mission below due unstopped made full stops =
      let past = cycles_before M (earlier ++ current) n in
      let e = cycle_at M (earlier ++ current) n in
      let last = each_due M past e steps (carries_through n e stop.slot) current made in
      let from = from_through M past e n stop.slot current last in
      record {
        within = below;
        beside = beside;
        before = earlier;
        now = current;
        entries = refl;
        due = due_stays from due;
        steps = steps;
        due_now = made;
        full = full;
        unstopped = unstopped_stays from unstopped;
        stopped = stops;
        sound = sound_part (length current) mission (omega (arith, below)) from due unstopped (as_few stop.slot last);
      }

-- ---- the first stop

-- the slots before and after a slot of the bus
around : (slot : Slot) → on_bus slot ≡ true →
    every_slot ≡ take (slot_index slot) every_slot ++ slot ∷ drop (suc (slot_index slot)) every_slot
around Request on = refl
around Round1 on = refl
around Round2 on = refl
around Round3 on = refl
around Tasks on = refl
around Vote on = refl
around Sweep on = refl
around Final on = refl
around Switch on = refl
around Output on = absurd cc

-- of earlier slots, a slot that passes, and others, the first that passes is not later than it
first_by : (p : Slot → Bool) (earlier rest : List Slot) (first slot : Slot) →
    list_all (λ s. nat_lt (slot_index s) (slot_index slot)) earlier ≡ true → p slot ≡ true →
    find p (earlier ++ slot ∷ rest) ≡ Some first → slot_index first ≤ slot_index slot
first_by p [] rest first slot low passes found =
    let same : Some slot ≡ Some first = sym (ap (λ b. cond b (Some slot) (find p rest)) passes) ∙ found in
    let one : slot ≡ first = cc in
    omega (arith, ap slot_index one)
first_by p (s ∷ earlier) rest first slot low passes found =
    let parts = both (nat_lt (slot_index s) (slot_index slot))
    (list_all (λ t. nat_lt (slot_index t) (slot_index slot)) earlier) low in
    by_test (p s) parts.0 (λ h. first_by p earlier rest first slot parts.1 passes h) found
  where
    by_test : (b : Bool) → nat_lt (slot_index s) (slot_index slot) ≡ true →
        (find p (earlier ++ slot ∷ rest) ≡ Some first → slot_index first ≤ slot_index slot) →
        cond b (Some s) (find p (earlier ++ slot ∷ rest)) ≡ Some first → slot_index first ≤ slot_index slot
    by_test true early more h =
        let one : s ≡ first = cc in
        omega (arith, ltb-true (slot_index s) (slot_index slot) early, ap slot_index one)
    by_test false early more h = more h

last_index : (slot : Slot) → slot_index slot ≤ 9
last_index Request = omega arith
last_index Round1 = omega arith
last_index Round2 = omega arith
last_index Round3 = omega arith
last_index Tasks = omega arith
last_index Vote = omega arith
last_index Sweep = omega arith
last_index Final = omega arith
last_index Switch = omega arith
last_index Output = omega arith

-- the first slot that passes is not later than another that does
first_found : (p : Slot → Bool) (first slot : Slot) → find p every_slot ≡ Some first → p slot ≡ true →
    slot_index first ≤ slot_index slot
first_found p first slot found passes = by_bus (on_bus slot) refl
  where
    by_bus : (b : Bool) → on_bus slot ≡ b → slot_index first ≤ slot_index slot
    by_bus true on =
        first_by p (take (slot_index slot) every_slot) (drop (suc (slot_index slot)) every_slot) first slot
        (earlier_slots slot on) passes
        (ap (find p) (sym (around slot on)) ∙ found)
    by_bus false off = omega (arith, last_index first, at_end slot off)
      where
        at_end : (s : Slot) → on_bus s ≡ false → slot_index s ≡ 9
        at_end Output h = refl
        at_end Request h = absurd cc
        at_end Round1 h = absurd cc
        at_end Round2 h = absurd cc
        at_end Round3 h = absurd cc
        at_end Tasks h = absurd cc
        at_end Vote h = absurd cc
        at_end Sweep h = absurd cc
        at_end Final h = absurd cc
        at_end Switch h = absurd cc

-- the slot of a stop is the first that stops the run
first_stop : (n : ℕ) (e : Cycle) (stop : StopValue) → stop_in n e ≡ Some stop → (slot : Slot) → halts n e slot ≡ true →
    slot_index stop.slot ≤ slot_index slot
first_stop n e stop told slot stops = by (find (halts n e) every_slot) refl told
  where
    of_slot : Slot → StopValue
    of_slot s = record { cycle = n; slot = s; set = disturbed_channels n e s; active = e.active }

    by : (found : Option Slot) → find (halts n e) every_slot ≡ found → option_map of_slot found ≡ Some stop →
        slot_index stop.slot ≤ slot_index slot
    by None is h = absurd cc
    by (Some first) is h =
        let same : of_slot first ≡ stop = cc in
        subst (λ (s : StopValue). slot_index s.slot ≤ slot_index slot) same
        (first_found (halts n e) first slot is stops)

-- a run that stopped is one that broke off
pub stop_breaks_off : (M : MissionValue) (n : ℕ) (stop : StopValue) (L : Log) (histories : Histories) →
    HasRunToStop M n stop L histories → HasRunPart M n L histories
stop_breaks_off M n stop L histories ran =
    let past = cycles_before M L n in
    let e = cycle_at M L n in
    let whole = ran.entries in
    let last : AllZip (IsDue M past e) (carries_through n e stop.slot) ran.now =
    each_due M past e ran.steps (carries_through n e stop.slot) ran.now ran.due_now in
    let size : length ran.now ≡ length (carries_through n e stop.slot) =
    zip_length (IsDue M past e) (carries_through n e stop.slot) ran.now last in
    let (rest, all) = through n e stop.slot in
    let these : take (length ran.now) (cycle_carries n e) ≡ carries_through n e stop.slot =
    ap (take (length ran.now)) all ∙ ap (λ k. take k (carries_through n e stop.slot ++ rest)) size
    ∙ take-append_seam (carries_through n e stop.slot) rest in
    record {
      within = omega (arith, ran.within);
      beside = ran.beside;
      before = ran.before;
      now = ran.now;
      entries = ran.entries;
      due = ran.due;
      due_now = subst (λ carries. AllZip (IsDue M past e) carries ran.now) (sym these) last;
      left = λ some. ran.within;
      up_to_stop =
          subst (λ (X : Log). (slot : Slot) → halts n (cycle_at M X n) slot ≡ true →
          length ran.now ≤ length (carries_through n (cycle_at M X n) slot)) whole
          (λ slot stops. omega (
            arith,
            size,
            later_through n e stop.slot slot (first_stop n e stop ran.stopped slot stops),
          ));
      unstopped = ran.unstopped;
      sound = ran.sound;
    }

-- the cycle of a stop
pub stop_cycle : (n : ℕ) (e : Cycle) (stop : StopValue) → stop_in n e ≡ Some stop → stop.cycle ≡ n
stop_cycle n e stop h = by (find (halts n e) every_slot) h
  where
    told : Slot → StopValue
    told slot = record { cycle = n; slot = slot; set = disturbed_channels n e slot; active = e.active }

    by : (found : Option Slot) → option_map told found ≡ Some stop → stop.cycle ≡ n
    by None h = absurd cc
    by (Some slot) h =
        let same : told slot ≡ stop = cc in
        sym (ap (λ (s : StopValue). s.cycle) same)
