-- The marks of a picture: the longest spans of cycles in which a lane shows the same.
use Rattle.std.specs.Prelude.{ℕ, suc, Option, List, [], ◌∷◌, ◌++◌, map, filter, flat_map, if◌then◌else◌}
use Rattle.guards_model.specs.Channels.{Channel, numbers_below}
use Rattle.picture_marks.specs.declared.facts.CycleFacts.{CycleFacts}
use Rattle.picture_marks.specs.declared.facts.Limits.{Limits}
use Rattle.picture_marks.specs.declared.shown.Lane.{Lane}
use Rattle.picture_marks.specs.declared.shown.Lane.TheVariants as lane
use Rattle.picture_marks.specs.declared.shown.Shown.{Shown}
use Rattle.picture_marks.specs.declared.shown.Mark.{Mark}
use Rattle.picture_marks.specs.Shown.{lane_shown_in, same, is_drawn}

-- the mark goes on for a cycle
abbrev pub longer_span : Mark → Mark
longer_span m = record m { past = suc m.past }

-- the mark of the cycle after it, which shows something else
abbrev pub next_mark : Mark → Shown → Mark
next_mark m v = record { lane = m.lane; shown = v; first = m.past; past = suc m.past }

-- the spans from a mark on, by what the cycles after it show: it goes on as long as the same is shown
abbrev pub spans_on : Mark → List Shown → List Mark
spans_on m [] = m ∷ []
spans_on m (v ∷ vs) = if same m.shown v then spans_on (longer_span m) vs else m ∷ spans_on (next_mark m v) vs

-- a lane's mark of the first cycle
abbrev pub first_mark : Lane → Shown → Mark
first_mark lane v = record { lane = lane; shown = v; first = 0; past = 1 }

abbrev pub spans_of : Lane → List Shown → List Mark
spans_of lane [] = []
spans_of lane (v ∷ vs) = spans_on (first_mark lane v) vs

-- those that show something
abbrev pub marks_drawn : List Mark → List Mark
marks_drawn ms = filter (λ m. is_drawn m.shown) ms

-- the spans of a lane, and those of them that are drawn
abbrev pub spans_in : Option Limits → Lane → List CycleFacts → List Mark
spans_in limits lane told = spans_of lane (map (lane_shown_in limits lane) told)

abbrev pub marks_in : Option Limits → Lane → List CycleFacts → List Mark
marks_in limits lane told = marks_drawn (spans_in limits lane told)

-- the lanes of a channel
abbrev pub channel_lanes : Channel → List Lane
channel_lanes q =
    lane.State q ∷ lane.Judged q ∷ lane.Count q ∷ lane.Threshold q ∷ lane.Removed q ∷ lane.Joined q ∷ lane.Dropped q
    ∷ []

-- the lanes of a picture, by how many channels and outputs there are
abbrev pub lanes_of : ℕ → ℕ → List Lane
lanes_of channels outputs =
    flat_map channel_lanes (numbers_below channels)
    ++ lane.Remaining ∷ lane.Final ∷ map (λ k. lane.Output k) (numbers_below outputs)

-- the marks of a picture, with the limits of the mission where that is known
abbrev pub marks_of : Option Limits → ℕ → ℕ → List CycleFacts → List Mark
marks_of limits channels outputs told = flat_map (λ lane. marks_in limits lane told) (lanes_of channels outputs)
