-- The entry between two channels, found parcel by parcel.
use Rattle.std.proofs.Common.{◌≡◌, ℕ, ◌==◌, Bool, true, false, cond, ◌&&◌, ◌||◌, List, [], ◌∷◌, map, Option, Some, None, refl, sym, ap, ◌∙◌}
use Rattle.std.specs.Prelude.{find, option_and_then, option_map}
use Rattle.std.specs.Option.{option_or}
use Rattle.std.specs.List.{list_any}
use Rattle.std.proofs.lemmas.Bool.{eq-eqb, eqb-true}
use Rattle.std.proofs.lemmas.List.Folds.{find-append}
use Rattle.guards_model.proofs.BoolTests.{both, differ}
use Rattle.guards_model.specs.declared.Slot.{Slot}
use Rattle.guards_model.specs.Slots.{slot_index, same_slot}
use Rattle.guards_model.specs.Channels.{Channel}
use Rattle.guards_model.specs.Frames.{FrameValue, spelling}
use Rattle.guards_model.specs.Fields.{frame_in}
use Rattle.guards_model.specs.Network.{EntryValue, is_carry}
use Rattle.slot_traffic.specs.Pieces.{PieceValue, ParcelValue, entry_by, entries_of_parcel, entries_of_all, spelled_by}

all_same : (c : ℕ) (slot : Slot) (from : Channel) → (((c == c) && same_slot slot slot) && (from == from)) ≡ true
all_same c slot from = rw (eq-eqb c c refl, eq-eqb (slot_index slot) (slot_index slot) refl, eq-eqb from from refl) refl

this_slot : (c : ℕ) (slot : Slot) → (c == c && same_slot slot slot) ≡ true
this_slot c slot = rw (eq-eqb c c refl, eq-eqb (slot_index slot) (slot_index slot) refl) refl

-- of the entries that a frame stands for, the carry to a receiver is that of its first piece
pub own_entry : (c : ℕ) (slot : Slot) (from : Channel) (to : ℕ) (sent : List ℕ) (pieces : List PieceValue) →
    find (is_carry c slot from to) (map (entry_by c slot from sent) pieces)
    ≡ option_map (entry_by c slot from sent) (find (λ (p : PieceValue). p.to == to) pieces)
own_entry c slot from to sent [] = refl
own_entry c slot from to sent (p ∷ ps) =
    ap (λ b. cond (b && (p.to == to)) (Some (entry_by c slot from sent p))
    (find (is_carry c slot from to) (map (entry_by c slot from sent) ps)))
    (all_same c slot from) ∙ by (p.to == to) (own_entry c slot from to sent ps)
  where
    by : (b : Bool) → find (is_carry c slot from to) (map (entry_by c slot from sent) ps)
        ≡ option_map (entry_by c slot from sent) (find (λ (p : PieceValue). p.to == to) ps) →
        cond (true && b) (Some (entry_by c slot from sent p))
        (find (is_carry c slot from to) (map (entry_by c slot from sent) ps))
        ≡ option_map (entry_by c slot from sent) (cond b (Some p) (find (λ (p : PieceValue). p.to == to) ps))
    by true rest = refl
    by false rest = rest

-- a frame of another sender has no such entry
pub other_entry : (c : ℕ) (slot : Slot) (from other : Channel) (to : ℕ) (sent : List ℕ) (pieces : List PieceValue) →
    (other == from) ≡ false →
    find (is_carry c slot from to) (map (entry_by c slot other sent) pieces) ≡ None
other_entry c slot from other to sent [] differ = refl
other_entry c slot from other to sent (p ∷ ps) differ =
    ap (λ b. cond ((((c == c) && same_slot slot slot) && b) && (p.to == to)) (Some (entry_by c slot other sent p))
    (find (is_carry c slot from to) (map (entry_by c slot other sent) ps))) differ
    ∙ ap (λ b. cond ((b && false) && (p.to == to)) (Some (entry_by c slot other sent p))
    (find (is_carry c slot from to) (map (entry_by c slot other sent) ps))) (this_slot c slot)
    ∙ other_entry c slot from other to sent ps differ

-- where no piece goes to the receiver, none is found
pub none_found : (to : ℕ) (pieces : List PieceValue) → list_any (λ (p : PieceValue). p.to == to) pieces ≡ false →
    find (λ (p : PieceValue). p.to == to) pieces ≡ None
none_found to [] h = refl
none_found to (p ∷ ps) h = by (p.to == to) (none_found to ps) h
  where
    by : (b : Bool) → (list_any (λ (p : PieceValue). p.to == to) ps ≡ false →
        find (λ (p : PieceValue). p.to == to) ps ≡ None) → (b || list_any (λ (p : PieceValue). p.to == to) ps) ≡ false →
        cond b (Some p) (find (λ (p : PieceValue). p.to == to) ps) ≡ None
    by true rest h = differ h
    by false rest h = rest h

pub some_found : (to : ℕ) (pieces : List PieceValue) → list_any (λ (p : PieceValue). p.to == to) pieces ≡ true →
    (p : PieceValue) × (find (λ (p : PieceValue). p.to == to) pieces ≡ Some p)
some_found to [] h = differ (sym h)
some_found to (p ∷ ps) h = by (p.to == to) (some_found to ps) h
  where
    by : (b : Bool) → (list_any (λ (p : PieceValue). p.to == to) ps ≡ true →
        (q : PieceValue) × (find (λ (p : PieceValue). p.to == to) ps ≡ Some q)) →
        (b || list_any (λ (p : PieceValue). p.to == to) ps) ≡ true →
        (q : PieceValue) × (cond b (Some p) (find (λ (p : PieceValue). p.to == to) ps) ≡ Some q)
    by true rest h = (p, refl)
    by false rest h = rest h

-- what is read of the first entry between two, among the entries of some parcels
abbrev pub frame_found : ℕ → Slot → Channel → ℕ → List ParcelValue → Option FrameValue
frame_found c slot from to parcels =
    option_and_then frame_in (option_and_then (λ (e : EntryValue). e.delivered)
    (find (is_carry c slot from to) (entries_of_all c slot parcels)))

read_of_entry : (c : ℕ) (slot : Slot) (from : Channel) (sent : List ℕ) (p : Option PieceValue) →
    option_and_then frame_in (option_and_then (λ (e : EntryValue). e.delivered)
    (option_map (entry_by c slot from sent) p)) ≡ option_and_then spelled_by p
read_of_entry c slot from sent None = refl
read_of_entry c slot from sent (Some p) = refl

-- it is in the first parcel, where this has one
pub found_here : (c : ℕ) (slot : Slot) (from : Channel) (to : ℕ) (parcel : ParcelValue) (rest : List ParcelValue) →
    ((parcel.frame.sender == from) && list_any (λ (p : PieceValue). p.to == to) parcel.pieces) ≡ true →
    option_and_then spelled_by (find (λ (p : PieceValue). p.to == to) parcel.pieces)
    ≡ frame_found c slot from to (parcel ∷ rest)
found_here c slot from to parcel rest is =
    let parts = both (parcel.frame.sender == from) (list_any (λ (p : PieceValue). p.to == to) parcel.pieces) is in
    let sender : parcel.frame.sender ≡ from = eqb-true parcel.frame.sender from parts.0 in
    let some = some_found to parcel.pieces parts.1 in
    let own : find (is_carry c slot from to) (entries_of_parcel c slot parcel)
    ≡ Some (entry_by c slot parcel.frame.sender (spelling parcel.frame) some.0) =
    ap (λ q. find (is_carry c slot q to) (entries_of_parcel c slot parcel)) (sym sender)
    ∙ own_entry c slot parcel.frame.sender to (spelling parcel.frame) parcel.pieces
    ∙ ap (option_map (entry_by c slot parcel.frame.sender (spelling parcel.frame))) some.1 in
    let all : find (is_carry c slot from to) (entries_of_all c slot (parcel ∷ rest))
    ≡ Some (entry_by c slot parcel.frame.sender (spelling parcel.frame) some.0) =
    find-append (is_carry c slot from to) (entries_of_parcel c slot parcel) (entries_of_all c slot rest)
    ∙ ap (λ o. option_or o (find (is_carry c slot from to) (entries_of_all c slot rest))) own in
    ap (option_and_then spelled_by) some.1
    ∙ sym (ap (λ o. option_and_then frame_in (option_and_then (λ (e : EntryValue). e.delivered) o)) all)

passed : (c : ℕ) (slot : Slot) (from : Channel) (to : ℕ) (parcel : ParcelValue) (rest : List ParcelValue) →
    find (is_carry c slot from to) (entries_of_parcel c slot parcel) ≡ None →
    frame_found c slot from to rest ≡ frame_found c slot from to (parcel ∷ rest)
passed c slot from to parcel rest none =
    sym (ap (λ o. option_and_then frame_in (option_and_then (λ (e : EntryValue). e.delivered) o))
    (find-append (is_carry c slot from to) (entries_of_parcel c slot parcel) (entries_of_all c slot rest)
    ∙ ap (λ o. option_or o (find (is_carry c slot from to) (entries_of_all c slot rest))) none))

-- and else in a later one
pub found_later : (c : ℕ) (slot : Slot) (from : Channel) (to : ℕ) (parcel : ParcelValue) (rest : List ParcelValue) →
    ((parcel.frame.sender == from) && list_any (λ (p : PieceValue). p.to == to) parcel.pieces) ≡ false →
    frame_found c slot from to rest ≡ frame_found c slot from to (parcel ∷ rest)
found_later c slot from to parcel rest is = by (parcel.frame.sender == from) refl is
  where
    by : (b : Bool) → (parcel.frame.sender == from) ≡ b →
        (b && list_any (λ (p : PieceValue). p.to == to) parcel.pieces) ≡ false →
        frame_found c slot from to rest ≡ frame_found c slot from to (parcel ∷ rest)
    by true same none =
        let sender : parcel.frame.sender ≡ from = eqb-true parcel.frame.sender from same in
        passed c slot from to parcel rest
        (ap (λ q. find (is_carry c slot q to) (entries_of_parcel c slot parcel)) (sym sender)
        ∙ own_entry c slot parcel.frame.sender to (spelling parcel.frame) parcel.pieces
        ∙ ap (option_map (entry_by c slot parcel.frame.sender (spelling parcel.frame)))
        (none_found to parcel.pieces none))
    by false other none = passed c slot from to parcel rest
        (other_entry c slot from parcel.frame.sender to (spelling parcel.frame) parcel.pieces other)
