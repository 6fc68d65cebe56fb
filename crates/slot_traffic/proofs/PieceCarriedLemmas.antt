-- Carries one after the other, and what they come to.
use Rattle.std.proofs.Common.{◌≡◌, ℕ, suc, zero, ◌+◌, List, [], ◌∷◌, ◌++◌, length, map, take, drop, get_or, refl, sym, ap, ◌∙◌, subst, arith}
use Rattle.std.specs.List.{AllZip}
use Rattle.std.specs.Prelude.{sum_by}
use Rattle.std.proofs.lemmas.List.{append-nil, length-append, length-map}
use Rattle.std.proofs.lemmas.List.Sums.{sum_by-cons}
use Rattle.std.proofs.Math.Seq.{take-nil}
use Rattle.std.proofs.lemmas.Grind.{flat_map-append}
use Rattle.guards_model.specs.declared.Slot.{Slot}
use Rattle.guards_model.specs.BusRules.{RuleValue}
use Rattle.guards_model.specs.Channels.{Channel, without}
use Rattle.guards_model.specs.Network.{EntryValue, Log}
use Rattle.guards_model.specs.Frames.{FrameValue, spelling}
use Rattle.guards_runs.specs.Due.{Carry, IsCarryOf}
use Rattle.slot_traffic.specs.Pieces.{PieceValue, ParcelValue, entry_by, entries_of_parcel, entries_of_all}
use Rattle.slot_traffic.specs.declared.piece.Piece.{Piece}
use Rattle.slot_traffic.specs.Arrivals.{piece_value}
use Rattle.slot_traffic.specs.Carried.{AreDelivered, AreSomeDelivered}
use Rattle.slot_traffic.specs.Sending.{AreCarried, carries_from}

abbrev carry_to : ℕ → Slot → Channel → ℕ → Carry
carry_to c slot from to = record { cycle = c; slot = slot; from = from; to = to }

is_carry_to : (c : ℕ) (slot : Slot) (from : Channel) (sent : List ℕ) (to : ℕ) (p : PieceValue) → p.to ≡ to →
    IsCarryOf sent (carry_to c slot from to) (entry_by c slot from sent p)
is_carry_to c slot from sent to p same =
    record { cycle_is = refl; slot_is = refl; from_is = refl; to_is = same; sent_is = refl }

first_is : {A : Type 0} (x y : A) (xs ys : List A) → x ∷ xs ≡ y ∷ ys → x ≡ y
first_is x y xs ys h = ap (λ l. get_or l 0 x) h

rest_is : {A : Type 0} (x y : A) (xs ys : List A) → x ∷ xs ≡ y ∷ ys → xs ≡ ys
rest_is x y xs ys h = ap (drop 1) h

nothing_more : {A B : Type 0} (x : A) (xs : List A) → x ∷ xs ≡ [] → B
nothing_more x xs h = absurd (omega (arith, ap length h))

-- one piece for each receiver makes one entry for each carry
pub each_carried : (c : ℕ) (slot : Slot) (from : Channel) (sent : List ℕ) (receivers : List ℕ)
    (pieces : List PieceValue) →
    map (λ (p : PieceValue). p.to) pieces ≡ receivers →
    AllZip (IsCarryOf sent) (map (carry_to c slot from) receivers) (map (entry_by c slot from sent) pieces)
each_carried c slot from sent [] [] h = tt
each_carried c slot from sent [] (p ∷ ps) h = nothing_more p.to (map (λ (p : PieceValue). p.to) ps) h
each_carried c slot from sent (r ∷ rs) [] h = nothing_more r rs (sym h)
each_carried c slot from sent (r ∷ rs) (p ∷ ps) h = (
  is_carry_to c slot from sent r p (first_is p.to r _ rs h),
  each_carried c slot from sent rs ps (rest_is p.to r _ rs h),
)

-- the same for the first few
pub few_carried : (c : ℕ) (slot : Slot) (from : Channel) (sent : List ℕ) (receivers : List ℕ) (few : ℕ)
    (pieces : List PieceValue) →
    map (λ (p : PieceValue). p.to) pieces ≡ take few receivers →
    AllZip (IsCarryOf sent) (take (length (map (entry_by c slot from sent) pieces))
    (map (carry_to c slot from) receivers)) (map (entry_by c slot from sent) pieces)
few_carried c slot from sent receivers few [] h = tt
few_carried c slot from sent [] few (p ∷ ps) h =
    nothing_more p.to (map (λ (p : PieceValue). p.to) ps) (h ∙ take-nil few)
few_carried c slot from sent (r ∷ rs) zero (p ∷ ps) h = nothing_more p.to (map (λ (p : PieceValue). p.to) ps) h
few_carried c slot from sent (r ∷ rs) (suc few) (p ∷ ps) h = (
  is_carry_to c slot from sent r p (first_is p.to r _ (take few rs) h),
  few_carried c slot from sent rs few ps (rest_is p.to r _ (take few rs) h),
)

pub all_sent : (may : List RuleValue → EntryValue → Type 0) (script : List RuleValue) (old new : Log) (c : ℕ)
    (slot : Slot)
    (from : Channel) (receivers : List ℕ) (sent : List ℕ) (pieces : List PieceValue) →
    AreDelivered may script old new c slot from (without receivers (from ∷ [])) sent pieces →
    AreCarried may script old new sent (carries_from c slot from receivers) (map (entry_by c slot from sent) pieces)
all_sent may script old new c slot from receivers sent pieces d = record {
  grew = d.grew;
  each = each_carried c slot from sent (without receivers (from ∷ [])) pieces d.each;
  allowed = d.allowed;
}

pub some_sent : (may : List RuleValue → EntryValue → Type 0) (script : List RuleValue) (old new : Log) (c : ℕ)
    (slot : Slot)
    (from : Channel) (receivers : List ℕ) (sent : List ℕ) (pieces : List PieceValue) →
    AreSomeDelivered may script old new c slot from (without receivers (from ∷ [])) sent pieces →
    AreCarried may script old new sent
    (take (length (map (entry_by c slot from sent) pieces)) (carries_from c slot from receivers))
    (map (entry_by c slot from sent) pieces)
some_sent may script old new c slot from receivers sent pieces some = record {
  grew = some.delivered.grew;
  each = few_carried c slot from sent (without receivers (from ∷ [])) some.few pieces some.delivered.each;
  allowed = some.delivered.allowed;
}

-- the entries of a frame's pieces
abbrev pub entries_by : ℕ → Slot → FrameValue → List Piece → Log
entries_by c slot frame pieces =
    map (entry_by c slot frame.sender (spelling frame)) (map (piece_value (spelling frame)) pieces)

-- the same for a frame by its sender and its spelling
pub frame_sent : (may : List RuleValue → EntryValue → Type 0) (script : List RuleValue) (old new : Log) (c : ℕ)
    (slot : Slot)
    (from : Channel) (numbers receivers : List ℕ) (sent : List ℕ) (pieces : List Piece) (frame : FrameValue) →
    from ≡ frame.sender → numbers ≡ without receivers (from ∷ []) → sent ≡ spelling frame →
    AreDelivered may script old new c slot from numbers sent (map (piece_value sent) pieces) →
    AreCarried may script old new (spelling frame) (carries_from c slot frame.sender receivers)
    (entries_by c slot frame pieces)
frame_sent may script old new c slot from numbers receivers sent pieces frame sender are is d =
    rw (← is, ← sender) (all_sent may script old new c slot from receivers sent (map (piece_value sent) pieces)
    (subst (λ ns. AreDelivered may script old new c slot from ns sent (map (piece_value sent) pieces)) are d))

pub few_sent : (may : List RuleValue → EntryValue → Type 0) (script : List RuleValue) (old new : Log) (c : ℕ)
    (slot : Slot)
    (from : Channel) (numbers receivers : List ℕ) (sent : List ℕ) (pieces : List Piece) (frame : FrameValue) →
    from ≡ frame.sender → numbers ≡ without receivers (from ∷ []) → sent ≡ spelling frame →
    AreSomeDelivered may script old new c slot from numbers sent (map (piece_value sent) pieces) →
    AreCarried may script old new (spelling frame)
    (take (length (entries_by c slot frame pieces)) (carries_from c slot frame.sender receivers))
    (entries_by c slot frame pieces)
few_sent may script old new c slot from numbers receivers sent pieces frame sender are is d =
    rw (← is, ← sender) (some_sent may script old new c slot from receivers sent (map (piece_value sent) pieces)
    (subst (λ ns. AreSomeDelivered may script old new c slot from ns sent (map (piece_value sent) pieces)) are d))

-- a parcel more
pub one_more : (c : ℕ) (slot : Slot) (parcels : List ParcelValue) (parcel : ParcelValue) →
    entries_of_all c slot (parcels ++ parcel ∷ []) ≡ entries_of_all c slot parcels ++ entries_of_parcel c slot parcel
one_more c slot parcels parcel =
    flat_map-append (entries_of_parcel c slot) parcels (parcel ∷ [])
    ∙ ap (λ l. entries_of_all c slot parcels ++ l) (append-nil (entries_of_parcel c slot parcel))

-- each piece is one entry
pub pieces_counted : (c : ℕ) (slot : Slot) (parcels : List ParcelValue) →
    sum_by (λ (p : ParcelValue). length p.pieces) parcels ≡ length (entries_of_all c slot parcels)
pieces_counted c slot [] = refl
pieces_counted c slot (p ∷ ps) =
    sum_by-cons (λ (p : ParcelValue). length p.pieces) p ps
    ∙ ap (λ n. length p.pieces + n) (pieces_counted c slot ps)
    ∙ ap (λ n. n + length (entries_of_all c slot ps))
    (sym (length-map p.pieces (entry_by c slot p.frame.sender (spelling p.frame))))
    ∙ sym (length-append (entries_of_parcel c slot p) (entries_of_all c slot ps))
