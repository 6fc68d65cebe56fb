-- SendsSlot one after the other, and what they come to.
use Rattle.std.proofs.Common.{◌≡◌, ℕ, zero, suc, ◌+◌, ◌<◌, List, [], ◌∷◌, ◌++◌, length, map, take, drop, get_or, Some, refl, sym, ap, subst, ◌∙◌, arith}
use Rattle.std.specs.List.{AllZip, AllByRecursion, flat_map}
use Rattle.std.proofs.lemmas.List.{append-nil, take_more, take-append-drop}
use Rattle.std.proofs.lemmas.Grind.{flat_map-append}
use Rattle.guards_model.specs.declared.Slot.{Slot}
use Rattle.guards_model.specs.BusRules.{RuleValue}
use Rattle.guards_model.specs.Frames.{FrameValue, spelling}
use Rattle.guards_model.specs.Network.{EntryValue, Log, TrafficValue}
use Rattle.guards_model.specs.Channels.{without}
use Rattle.guards_runs.specs.Due.{Carry, IsCarryOf}
use Rattle.slot_traffic.specs.Sending as pieces
use Rattle.guards_world.specs.SlotSends.{SendValue, IsEntryOf, SendsSlot, SendsFirstOfSlot, sends_by}

-- ---- a frame

abbrev carry_to : ℕ → Slot → FrameValue → ℕ → Carry
carry_to c slot frame to = record { cycle = c; slot = slot; from = frame.sender; to = to }

abbrev send_to_one : ℕ → Slot → FrameValue → ℕ → SendValue
send_to_one c slot frame to = record { carry = carry_to c slot frame to; bytes = spelling frame }

as_sends : (c : ℕ) (slot : Slot) (frame : FrameValue) (xs : List ℕ) (now : Log) →
    AllZip (IsCarryOf (spelling frame)) (map (carry_to c slot frame) xs) now →
    AllZip IsEntryOf (map (send_to_one c slot frame) xs) now
as_sends c slot frame [] [] z = tt
as_sends c slot frame [] (y ∷ ys) z = absurd z
as_sends c slot frame (x ∷ xs) [] z = absurd z
as_sends c slot frame (x ∷ xs) (y ∷ ys) z = (z.0, as_sends c slot frame xs ys z.1)

as_few_sends : (c : ℕ) (slot : Slot) (frame : FrameValue) (few : ℕ) (xs : List ℕ) (now : Log) →
    AllZip (IsCarryOf (spelling frame)) (take few (map (carry_to c slot frame) xs)) now →
    AllZip IsEntryOf (take few (map (send_to_one c slot frame) xs)) now
as_few_sends c slot frame zero xs [] z = tt
as_few_sends c slot frame zero xs (y ∷ ys) z = absurd z
as_few_sends c slot frame (suc few) [] [] z = tt
as_few_sends c slot frame (suc few) [] (y ∷ ys) z = absurd z
as_few_sends c slot frame (suc few) (x ∷ xs) [] z = absurd z
as_few_sends c slot frame (suc few) (x ∷ xs) (y ∷ ys) z = (z.0, as_few_sends c slot frame few xs ys z.1)

pub frame_sends : (may : List RuleValue → EntryValue → Type 0) (script : List RuleValue) (old new : Log)
    (frame : FrameValue) (receivers : List ℕ) (before after : TrafficValue) →
    pieces.SendsFrame may script old new (spelling frame)
    (pieces.carries_from before.cycle before.slot frame.sender receivers) before after →
    SendsSlot may script old new (sends_by before.cycle before.slot receivers (Some frame)) before after
frame_sends may script old new frame receivers before after s = record {
  now = s.now;
  sent = record {
    grew = s.carried.grew;
    each = as_sends before.cycle before.slot frame (without receivers (frame.sender ∷ [])) s.now s.carried.each;
    allowed = s.carried.allowed;
  };
  traffic = s.traffic;
}

pub frame_sends_some : (may : List RuleValue → EntryValue → Type 0) (script : List RuleValue) (old new : Log)
    (frame : FrameValue) (receivers : List ℕ) (before after : TrafficValue) →
    pieces.SendsFirstOfFrame may script old new (spelling frame)
    (pieces.carries_from before.cycle before.slot frame.sender receivers) before after →
    SendsFirstOfSlot may script old new (sends_by before.cycle before.slot receivers (Some frame)) before after
frame_sends_some may script old new frame receivers before after s = record {
  few = length s.now;
  sends_few = record {
    now = s.now;
    sent = record {
      grew = s.carried.grew;
      each = as_few_sends before.cycle before.slot frame (length s.now) (without receivers (frame.sender ∷ [])) s.now
          s.carried.each;
      allowed = s.carried.allowed;
    };
    traffic = s.traffic;
  };
}

-- ---- one after the other

nothing_traffic : (t : TrafficValue) → t ≡ record { cycle = t.cycle; slot = t.slot; entries = t.entries ++ [] }
nothing_traffic t = ap (λ (es : Log). record { cycle = t.cycle; slot = t.slot; entries = es })
    (sym (append-nil t.entries))

-- nothing is sent
pub sends_none : (may : List RuleValue → EntryValue → Type 0) (script : List RuleValue) (log : Log) (t : TrafficValue) →
    SendsSlot may script log log [] t t
sends_none may script log t = record {
  now = [];
  sent = record { grew = sym (append-nil log); each = tt; allowed = tt };
  traffic = nothing_traffic t;
}

pub sends_none_of : (may : List RuleValue → EntryValue → Type 0) (script : List RuleValue) (log : Log)
    (sends : List SendValue) (t : TrafficValue) → SendsFirstOfSlot may script log log sends t t
sends_none_of may script log sends t = record { few = 0; sends_few = sends_none may script log t }

zip_append : {A B : Type 0} (R : A → B → Type 0) (xs xs' : List A) (ys ys' : List B) → AllZip R xs ys →
    AllZip R xs' ys' → AllZip R (xs ++ xs') (ys ++ ys')
zip_append R [] xs' [] ys' h k = k
zip_append R [] xs' (y ∷ ys) ys' h k = absurd h
zip_append R (x ∷ xs) xs' [] ys' h k = absurd h
zip_append R (x ∷ xs) xs' (y ∷ ys) ys' h k = (h.0, zip_append R xs xs' ys ys' h.1 k)

all_append : {A : Type 0} (P : A → Type 0) (xs ys : List A) → AllByRecursion P xs → AllByRecursion P ys →
    AllByRecursion P (xs ++ ys)
all_append P [] ys h k = k
all_append P (x ∷ xs) ys h k = (h.0, all_append P xs ys h.1 k)

append_three : {A : Type 0} (xs ys zs : List A) → (xs ++ ys) ++ zs ≡ xs ++ (ys ++ zs)
append_three [] ys zs = refl
append_three (x ∷ xs) ys zs = ap (λ l. x ∷ l) (append_three xs ys zs)

pub sends_more : (may : List RuleValue → EntryValue → Type 0) (script later : List RuleValue) (old mid new : Log)
    (first rest : List SendValue) (before between after : TrafficValue) →
    later ≡ script → SendsSlot may script old mid first before between →
    SendsSlot may later mid new rest between after →
    SendsSlot may script old new (first ++ rest) before after
sends_more may script later old mid new first rest before between after same s t = record {
  now = s.now ++ t.now;
  sent = record {
    grew = t.sent.grew ∙ ap (λ (l : Log). l ++ t.now) s.sent.grew ∙ append_three old s.now t.now;
    each = zip_append IsEntryOf first rest s.now t.now s.sent.each t.sent.each;
    allowed = all_append (may script) s.now t.now s.sent.allowed
        (subst (λ (r : List RuleValue). AllByRecursion (may r) t.now) same t.sent.allowed);
  };
  traffic =
      t.traffic
      ∙ ap (λ (u : TrafficValue). record { cycle = u.cycle; slot = u.slot; entries = u.entries ++ t.now }) s.traffic
      ∙ ap (λ (es : Log). record { cycle = before.cycle; slot = before.slot; entries = es })
      (append_three before.entries s.now t.now);
}

front : {A : Type 0} (few : ℕ) (xs ys : List A) → take few xs ≡ take (length (take few xs)) (xs ++ ys)
front zero xs ys = refl
front (suc few) [] ys = refl
front (suc few) (x ∷ xs) ys = ap (λ l. x ∷ l) (front few xs ys)

past : {A : Type 0} (few : ℕ) (xs ys : List A) → xs ++ take few ys ≡ take (length xs + few) (xs ++ ys)
past few [] ys = ap (λ n. take n ys) (zero_plus few)
  where
    zero_plus : (n : ℕ) → n ≡ 0 + n
    zero_plus n = omega arith
past few (x ∷ xs) ys =
    ap (λ l. x ∷ l) (past few xs ys) ∙ ap (λ n. take n (x ∷ (xs ++ ys))) (one_more (length xs) few)
  where
    one_more : (m n : ℕ) → suc (m + n) ≡ suc m + n
    one_more m n = omega arith

-- memory ran out in the first part
pub some_first : (may : List RuleValue → EntryValue → Type 0) (script : List RuleValue) (old new : Log)
    (first rest : List SendValue) (before after : TrafficValue) →
    SendsFirstOfSlot may script old new first before after →
    SendsFirstOfSlot may script old new (first ++ rest) before after
some_first may script old new first rest before after s = record {
  few = length (take s.few first);
  sends_few = subst (λ (l : List SendValue). SendsSlot may script old new l before after) (front s.few first rest)
      s.sends_few;
}

-- or in the second one
pub some_later : (may : List RuleValue → EntryValue → Type 0) (script later : List RuleValue) (old mid new : Log)
    (first rest : List SendValue) (before between after : TrafficValue) →
    later ≡ script → SendsSlot may script old mid first before between →
    SendsFirstOfSlot may later mid new rest between after →
    SendsFirstOfSlot may script old new (first ++ rest) before after
some_later may script later old mid new first rest before between after same s t = record {
  few = length first + t.few;
  sends_few =
      subst (λ (l : List SendValue). SendsSlot may script old new l before after) (past t.few first rest)
      (sends_more may script later old mid new first (take t.few rest) before between after same s t.sends_few);
}

-- ---- the slot stays

-- what holds of a node and a slot holds when something was sent in it
pub on_same : (may : List RuleValue → EntryValue → Type 0) (script : List RuleValue) (old new : Log)
    (sends : List SendValue) (before after : TrafficValue) (P : ℕ → Slot → Type 0) →
    SendsSlot may script old new sends before after → P before.cycle before.slot → P after.cycle after.slot
on_same may script old new sends before after P s held =
    subst (λ (c : ℕ). P c after.slot) (sym (ap (λ (t : TrafficValue). t.cycle) s.traffic))
    (subst (λ (k : Slot). P before.cycle k) (sym (ap (λ (t : TrafficValue). t.slot) s.traffic)) held)

same_rest : (rest : ℕ → Slot → List SendValue) (before between : TrafficValue) (now : Log) →
    between ≡ record { cycle = before.cycle; slot = before.slot; entries = before.entries ++ now } →
    rest between.cycle between.slot ≡ rest before.cycle before.slot
same_rest rest before between now h = ap (λ (t : TrafficValue). rest t.cycle t.slot) h

-- the same as above, where the rest is what is sent in the slot
pub sent_on : (may : List RuleValue → EntryValue → Type 0) (script later : List RuleValue) (old mid new : Log)
    (first : List SendValue) (rest : ℕ → Slot → List SendValue) (before between after : TrafficValue) →
    later ≡ script → SendsSlot may script old mid first before between →
    SendsSlot may later mid new (rest between.cycle between.slot) between after →
    SendsSlot may script old new (first ++ rest before.cycle before.slot) before after
sent_on may script later old mid new first rest before between after same s t =
    sends_more may script later old mid new first (rest before.cycle before.slot) before between after same s
    (subst (λ (l : List SendValue). SendsSlot may later mid new l between after)
    (same_rest rest before between s.now s.traffic) t)

pub some_on : (may : List RuleValue → EntryValue → Type 0) (script later : List RuleValue) (old mid new : Log)
    (first : List SendValue) (rest : ℕ → Slot → List SendValue) (before between after : TrafficValue) →
    later ≡ script → SendsSlot may script old mid first before between →
    SendsFirstOfSlot may later mid new (rest between.cycle between.slot) between after →
    SendsFirstOfSlot may script old new (first ++ rest before.cycle before.slot) before after
some_on may script later old mid new first rest before between after same s t =
    some_later may script later old mid new first (rest before.cycle before.slot) before between after same s
    (subst (λ (l : List SendValue). SendsFirstOfSlot may later mid new l between after)
    (same_rest rest before between s.now s.traffic) t)

-- ---- a list, element by element

-- what the first ones and the next one come to
pub one_more : {X A : Type 0} (f : X → List A) (xs : List X) (i : ℕ) (x : X) → i < length xs → x ≡ get_or xs i x →
    flat_map f (take i xs) ++ f x ≡ flat_map f (take (i + 1) xs)
one_more f xs i x below is =
    ap (λ l. flat_map f (take i xs) ++ l) (sym (append-nil (f x)))
    ∙ sym (flat_map-append f (take i xs) (x ∷ []))
    ∙ ap (λ y. flat_map f (take i xs ++ y ∷ [])) is
    ∙ ap (λ l. flat_map f l) (sym (take_more xs i x below))

-- the first ones, the next one and those after it
pub with_later : {X A : Type 0} (f : X → List A) (xs : List X) (i : ℕ) (x : X) → i < length xs → x ≡ get_or xs i x →
    (flat_map f (take i xs) ++ f x) ++ flat_map f (drop (i + 1) xs) ≡ flat_map f xs
with_later f xs i x below is =
    ap (λ l. l ++ flat_map f (drop (i + 1) xs)) (one_more f xs i x below is)
    ∙ sym (flat_map-append f (take (i + 1) xs) (drop (i + 1) xs))
    ∙ ap (λ l. flat_map f l) (take-append-drop (i + 1) xs)
