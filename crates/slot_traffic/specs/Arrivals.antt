-- How pieces are kept: a piece that arrived as it was sent is kept without its bytes.
use Rattle.std.specs.Prelude.{◌≡◌, ⊤, ℕ, Bool, true, false, IsTrue, IfSome, List, map, Option, Some, None}
use Rattle.std.specs.List.{AllByRecursion}
use Rattle.guards_model.specs.Frames.{FrameValue, in_range, spelling}
use Rattle.guards_runs.specs.Disturbed.{differs_from}
use Rattle.slot_traffic.specs.declared.piece.Arrival.{Arrival}
use Rattle.slot_traffic.specs.declared.piece.Arrival.TheVariants.{AsSent, Lost, Changed}
use Rattle.slot_traffic.specs.declared.piece.Piece.{Piece}
use Rattle.slot_traffic.specs.declared.piece.Reading.{Reading}
use Rattle.slot_traffic.specs.declared.piece.Reading.TheVariants.{Own, Other}
use Rattle.slot_traffic.specs.Pieces.{PieceValue, ParcelValue, spelled_by}

-- what was delivered of these bytes
abbrev pub delivered_of : List ℕ → Arrival → Option (List ℕ)
delivered_of sent AsSent = Some sent
delivered_of sent Lost = None
delivered_of sent (Changed piece) = Some piece.items

abbrev pub is_changed : Arrival → Bool
is_changed AsSent = false
is_changed Lost = true
is_changed (Changed piece) = true

abbrev pub piece_value : List ℕ → Piece → PieceValue
piece_value sent p = record { to = p.to; delivered = delivered_of sent p.arrival }

-- it is kept as changed just where what was delivered is not what was sent
abbrev pub IsMarked : List ℕ → Piece → Type 0
IsMarked sent p = is_changed p.arrival ≡ differs_from sent (delivered_of sent p.arrival)

pub record IsParcel (frame : FrameValue) (pieces : List Piece) : Type 0 where
  pub range : IsTrue (in_range frame)
  pub marked : AllByRecursion (IsMarked (spelling frame)) pieces

-- the frame that was read of a piece: the sender's own, where it arrived as sent
abbrev pub reading_value : FrameValue → Reading → Option FrameValue
reading_value frame Own = Some frame
reading_value frame (Other found) = found

-- a frame that was read has a spelling
abbrev pub IsReadingInRange : Reading → Type 0
IsReadingInRange Own = ⊤
IsReadingInRange (Other None) = ⊤
IsReadingInRange (Other (Some frame)) = IsTrue (in_range frame)

-- what each of the pieces spells, if anything, is a frame in range
abbrev pub SpellInRange : ParcelValue → Type 0
SpellInRange parcel = AllByRecursion (λ p. IfSome (spelled_by p) (λ frame. IsTrue (in_range frame))) parcel.pieces

-- a frame was read of each piece, if it spells one
pub record AreRead (parcel : ParcelValue) (readings : List Reading) : Type 0 where
  pub same : map (reading_value parcel.frame) readings ≡ map spelled_by parcel.pieces
  pub range : AllByRecursion IsReadingInRange readings
  pub spelled : SpellInRange parcel
