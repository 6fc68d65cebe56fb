-- What counts is in range: its frame was read.
use Rattle.std.proofs.Common.{◌≡◌, ℕ, ◌==◌, Bool, true, false, cond, ◌&&◌, List, [], ◌∷◌, map, Option, Some, None, refl, subst}
use Rattle.std.specs.Prelude.{find, option_and_then, IsTrue, IfSome}
use Rattle.std.specs.List.{AllByRecursion}
use Rattle.std.proofs.lemmas.Bool.{eqb-true}
use Rattle.guards_model.proofs.BoolTests.{both}
use Rattle.guards_model.proofs.Membership.{All-append}
use Rattle.guards_model.specs.declared.Slot.{Slot}
use Rattle.guards_model.specs.Channels.{Channel}
use Rattle.guards_model.specs.Missions.{FormatValue}
use Rattle.guards_model.specs.Frames.{FrameValue, BodyValue, spelling, between, is_channel, fits_u32, body_in_range, in_range}
use Rattle.guards_model.specs.Fields.{frame_in}
use Rattle.guards_model.specs.Network.{EntryValue, Log, is_carry, counting, counted_body, suits}
use Rattle.slot_traffic.specs.declared.piece.Reading.{Reading}
use Rattle.slot_traffic.specs.declared.piece.Reading.TheVariants.{Own, Other}
use Rattle.slot_traffic.specs.Pieces.{PieceValue, ParcelValue, entry_by, entries_of_parcel, entries_of_all, spelled_by}
use Rattle.slot_traffic.specs.Arrivals.{IsReadingInRange, SpellInRange, reading_value}

abbrev InRange : FrameValue → Type 0
InRange frame = IsTrue (in_range frame)

read_in_range : (own : FrameValue) (r : Reading) → InRange own → IsReadingInRange r →
    IfSome (reading_value own r) InRange
read_in_range own Own h k = h
read_in_range own (Other None) h k = tt
read_in_range own (Other (Some frame)) h k = k

pub pieces_spell : (own : FrameValue) (readings : List Reading) (pieces : List PieceValue) → InRange own →
    AllByRecursion IsReadingInRange readings →
    map (reading_value own) readings ≡ map spelled_by pieces →
    AllByRecursion (λ p. IfSome (spelled_by p) InRange) pieces
pieces_spell own [] [] h all same = tt
pieces_spell own [] (p ∷ pieces) h all same = absurd cc
pieces_spell own (r ∷ readings) [] h all same = absurd cc
pieces_spell own (r ∷ readings) (p ∷ pieces) h all same =
    let first : reading_value own r ≡ spelled_by p = cc in
    let rest : map (reading_value own) readings ≡ map spelled_by pieces = cc in
    (subst (λ o. IfSome o InRange) first (read_in_range own r h all.0), pieces_spell own readings pieces h all.1 rest)

-- ---- the entries

abbrev SpellsInRange : EntryValue → Type 0
SpellsInRange y = IfSome (option_and_then frame_in y.delivered) InRange

entries_spell : (c : ℕ) (slot : Slot) (from : Channel) (sent : List ℕ) (pieces : List PieceValue) →
    AllByRecursion (λ p. IfSome (spelled_by p) InRange) pieces →
    AllByRecursion SpellsInRange (map (entry_by c slot from sent) pieces)
entries_spell c slot from sent [] h = tt
entries_spell c slot from sent (p ∷ pieces) h = (h.0, entries_spell c slot from sent pieces h.1)

all_spell : (c : ℕ) (slot : Slot) (parcels : List ParcelValue) → AllByRecursion SpellInRange parcels →
    AllByRecursion SpellsInRange (entries_of_all c slot parcels)
all_spell c slot [] h = tt
all_spell c slot (parcel ∷ parcels) h =
    All-append SpellsInRange (entries_of_parcel c slot parcel) (entries_of_all c slot parcels)
    (entries_spell c slot parcel.frame.sender (spelling parcel.frame) parcel.pieces h.0) (all_spell c slot parcels h.1)

found_spells : (p : EntryValue → Bool) (entries : Log) → AllByRecursion SpellsInRange entries →
    IfSome (option_and_then frame_in (option_and_then (λ (y : EntryValue). y.delivered) (find p entries))) InRange
found_spells p [] h = tt
found_spells p (y ∷ entries) h = by_test (p y) (found_spells p entries h.1)
  where
    by_test : (b : Bool) → IfSome
        (option_and_then frame_in (option_and_then (λ (y : EntryValue). y.delivered) (find p entries))) InRange →
        IfSome (option_and_then frame_in
        (option_and_then (λ (y : EntryValue). y.delivered) (cond b (Some y) (find p entries)))) InRange
    by_test true rest = h.0
    by_test false rest = rest

counts_in_range : (format : FormatValue) (c : ℕ) (slot : Slot) (from to : ℕ) (frame : Option FrameValue)
    (body : BodyValue) → IfSome frame InRange →
    option_and_then (counting format c slot from to) frame ≡ Some body → body_in_range format.version from body ≡ true
counts_in_range format c slot from to None body h is = absurd cc
counts_in_range format c slot from to (Some f) body h is =
    by_test ((f.version == format.version && (f.sender == from && f.cycle == c)) && suits format slot to f.body) refl is
  where
    by_test : (b : Bool) → ((f.version == format.version && (f.sender == from && f.cycle == c))
        && suits format slot to f.body) ≡ b → cond b (Some f.body) None ≡ Some body →
        body_in_range format.version from body ≡ true
    by_test true test k =
        let same : f.body ≡ body = cc in
        let first = both (f.version == format.version && (f.sender == from && f.cycle == c))
        (suits format slot to f.body) test in
        let version = both (f.version == format.version) (f.sender == from && f.cycle == c) first.0 in
        let sender = both (f.sender == from) (f.cycle == c) version.1 in
        let range = both (between 1 2 f.version)
        (is_channel f.sender && (fits_u32 f.cycle && body_in_range f.version f.sender f.body)) h in
        let known = both (is_channel f.sender) (fits_u32 f.cycle && body_in_range f.version f.sender f.body) range.1 in
        let fits = both (fits_u32 f.cycle) (body_in_range f.version f.sender f.body) known.1 in
        subst (λ v. body_in_range v from body ≡ true) (eqb-true f.version format.version version.0)
        (subst (λ s. body_in_range f.version s body ≡ true) (eqb-true f.sender from sender.0)
        (subst (λ b. body_in_range f.version f.sender b ≡ true) same fits.1))
    by_test false test k = absurd cc

pub counted_fits : (format : FormatValue) (c : ℕ) (slot : Slot) (parcels : List ParcelValue) →
    AllByRecursion SpellInRange parcels → (from to : ℕ) (body : BodyValue) →
    counted_body format (entries_of_all c slot parcels) c slot from to ≡ Some body →
    body_in_range format.version from body ≡ true
counted_fits format c slot parcels all from to body is =
    counts_in_range format c slot from to
    (option_and_then frame_in
    (option_and_then (λ (y : EntryValue). y.delivered)
    (find (is_carry c slot from to) (entries_of_all c slot parcels)))) body
    (found_spells (is_carry c slot from to) (entries_of_all c slot parcels) (all_spell c slot parcels all)) is
