-- Whom the entries of parcels charge.
use Rattle.std.proofs.Common.{◌≡◌, ℕ, ◌==◌, Bool, true, false, ◌&&◌, ◌||◌, List, [], ◌∷◌, map, refl, sym, ap, ◌∙◌}
use Rattle.std.specs.List.{AllByRecursion, list_any}
use Rattle.std.proofs.lemmas.Bool.{eq-eqb, le-leb}
use Rattle.std.proofs.Math.Nat.{le_refl}
use Rattle.std.proofs.lemmas.List.Folds.{list_any-append}
use Rattle.guards_model.specs.declared.Slot.{Slot}
use Rattle.guards_model.specs.Slots.{slot_index, up_to}
use Rattle.guards_model.specs.Channels.{Channel, has, union, channels_where}
use Rattle.guards_model.specs.Frames.{spelling}
use Rattle.guards_model.proofs.BoolTests.{differ}
use Rattle.guards_model.proofs.Tables.{has-channels_where}
use Rattle.guards_runs.specs.Disturbed.{differs_from, is_charge}
use Rattle.guards_base.proofs.EachChannel.{sets_alike}
use Rattle.slot_traffic.specs.declared.piece.Piece.{Piece}
use Rattle.slot_traffic.specs.Pieces.{PieceValue, ParcelValue, entry_by, entries_of_parcel, entries_of_all}
use Rattle.slot_traffic.specs.Arrivals.{IsMarked, is_changed, piece_value}

-- the pieces that are kept as changed are those that differ
pub marked_any : (sent : List ℕ) (pieces : List Piece) → AllByRecursion (IsMarked sent) pieces →
    list_any (λ p. is_changed p.arrival) pieces
    ≡ list_any (λ (p : PieceValue). differs_from sent p.delivered) (map (piece_value sent) pieces)
marked_any sent [] m = refl
marked_any sent (p ∷ ps) m = rw (m.0, marked_any sent ps m.1) refl

this_slot : (c : ℕ) (slot : Slot) → (c == c && up_to slot slot) ≡ true
this_slot c slot = rw (eq-eqb c c refl, le-leb (slot_index slot) (slot_index slot) (le_refl (slot_index slot))) refl

first_or_later : (b d r : Bool) → (((true && b) && d) || (b && r)) ≡ (b && (d || r))
first_or_later true d r = refl
first_or_later false d r = refl

and_none : (b : Bool) → false ≡ (b && false)
and_none true = refl
and_none false = refl

-- the entries of a frame charge its sender, where one of its pieces differs
pub one_sender : (c : ℕ) (slot : Slot) (q from : Channel) (sent : List ℕ) (pieces : List PieceValue) →
    list_any (is_charge c slot q) (map (entry_by c slot from sent) pieces)
    ≡ ((from == q) && list_any (λ (p : PieceValue). differs_from sent p.delivered) pieces)
one_sender c slot q from sent [] = and_none (from == q)
one_sender c slot q from sent (p ∷ ps) =
    let rest = list_any (λ (p : PieceValue). differs_from sent p.delivered) ps in
    ap (λ b. ((b && (from == q)) && differs_from sent p.delivered)
    || list_any (is_charge c slot q) (map (entry_by c slot from sent) ps)) (this_slot c slot)
    ∙ ap (λ b. ((true && (from == q)) && differs_from sent p.delivered) || b) (one_sender c slot q from sent ps)
    ∙ first_or_later (from == q) (differs_from sent p.delivered) rest

-- whether the entries of some parcels charge a channel
abbrev pub charges : ℕ → Slot → List ParcelValue → Channel → Bool
charges c slot parcels q = list_any (is_charge c slot q) (entries_of_all c slot parcels)

none_then : (b d r : Bool) → d ≡ false → ((b && d) || r) ≡ r
none_then true false r h = refl
none_then true true r h = differ h
none_then false d r h = refl

some_then : (b d r : Bool) → d ≡ true → (r || (b || false)) ≡ ((b && d) || r)
some_then true true true h = refl
some_then true true false h = refl
some_then false true true h = refl
some_then false true false h = refl
some_then b false r h = differ (sym h)

one_more : (c : ℕ) (slot : Slot) (q : Channel) (parcel : ParcelValue) (rest : List ParcelValue) →
    charges c slot (parcel ∷ rest) q
    ≡ (((parcel.frame.sender == q)
    && list_any (λ (p : PieceValue). differs_from (spelling parcel.frame) p.delivered) parcel.pieces)
    || charges c slot rest q)
one_more c slot q parcel rest =
    list_any-append (is_charge c slot q) (entries_of_parcel c slot parcel) (entries_of_all c slot rest)
    ∙ ap (λ b. b || charges c slot rest q)
    (one_sender c slot q parcel.frame.sender (spelling parcel.frame) parcel.pieces)

-- a parcel whose pieces all arrived as sent charges nobody
pub none_charged : (c : ℕ) (slot : Slot) (parcel : ParcelValue) (rest : List ParcelValue) →
    list_any (λ (p : PieceValue). differs_from (spelling parcel.frame) p.delivered) parcel.pieces ≡ false →
    channels_where (charges c slot rest) ≡ channels_where (charges c slot (parcel ∷ rest))
none_charged c slot parcel rest same =
    sets_alike (charges c slot rest) (charges c slot (parcel ∷ rest))
    (λ q low. sym (one_more c slot q parcel rest ∙ none_then (parcel.frame.sender == q) _ (charges c slot rest q) same))

-- and another one its sender
pub one_charged : (c : ℕ) (slot : Slot) (parcel : ParcelValue) (rest : List ParcelValue) →
    list_any (λ (p : PieceValue). differs_from (spelling parcel.frame) p.delivered) parcel.pieces ≡ true →
    union (channels_where (charges c slot rest)) (parcel.frame.sender ∷ [])
    ≡ channels_where (charges c slot (parcel ∷ rest))
one_charged c slot parcel rest differs =
    sets_alike (λ q. has (channels_where (charges c slot rest)) q || has (parcel.frame.sender ∷ []) q)
    (charges c slot (parcel ∷ rest))
    (λ q low. ap (λ b. b || ((parcel.frame.sender == q) || false)) (has-channels_where (charges c slot rest) q low)
    ∙ some_then (parcel.frame.sender == q) _ (charges c slot rest q) differs ∙ sym (one_more c slot q parcel rest))

pub nobody : (c : ℕ) (slot : Slot) → [] ≡ channels_where (charges c slot [])
unfolding channels_where
nobody c slot = refl
