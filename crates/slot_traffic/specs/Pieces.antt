-- The frame of a sender with the pieces that were delivered of it, and the entries that they stand for. This project's
-- own.
use Rattle.std.specs.Prelude.{ℕ, List, map, flat_map, Option, option_and_then}
use Rattle.guards_model.specs.declared.Slot.{Slot}
use Rattle.guards_model.specs.Channels.{Channel}
use Rattle.guards_model.specs.Missions.{FormatValue}
use Rattle.guards_model.specs.Frames.{FrameValue, spelling}
use Rattle.guards_model.specs.Fields.{frame_in}
use Rattle.guards_model.specs.Network.{EntryValue, Log, TrafficValue}

-- what was delivered to a receiver
pub record PieceValue : Type 0 where
  pub to : ℕ
  pub delivered : Option (List ℕ)

-- a frame, and what was delivered of it to each receiver
pub record ParcelValue : Type 0 where
  pub frame : FrameValue
  pub pieces : List PieceValue

-- the entry of these bytes from a sender
abbrev pub entry_by : ℕ → Slot → Channel → List ℕ → PieceValue → EntryValue
entry_by c slot from sent p =
    record { cycle = c; slot = slot; from = from; to = p.to; sent = sent; delivered = p.delivered }

abbrev pub entries_of_parcel : ℕ → Slot → ParcelValue → Log
entries_of_parcel c slot parcel = map (entry_by c slot parcel.frame.sender (spelling parcel.frame)) parcel.pieces

abbrev pub entries_of_all : ℕ → Slot → List ParcelValue → Log
entries_of_all c slot parcels = flat_map (entries_of_parcel c slot) parcels

-- the frame that a piece spells
abbrev pub spelled_by : PieceValue → Option FrameValue
spelled_by p = option_and_then frame_in p.delivered

-- the traffic of a slot that was read by this format
pub record ArrivedValue : Type 0 where
  pub format : FormatValue
  pub traffic : TrafficValue
