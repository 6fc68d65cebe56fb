-- What the marks of a picture tell, read from them alone.
use Rattle.std.specs.Prelude.{◌≡◌, ◌<◌, ℕ, Bool, false, ◌&&◌, nat_le, nat_lt, List, [], ◌∷◌, map, get_or, Option, if◌then◌else◌}
use Rattle.std.specs.List.{list_any}
use Rattle.picture_marks.specs.declared.facts.CycleFacts.{CycleFacts}
use Rattle.picture_marks.specs.declared.facts.Limits.{Limits}
use Rattle.picture_marks.specs.declared.shown.Lane.{Lane}
use Rattle.picture_marks.specs.declared.shown.Shown.{Shown}
use Rattle.picture_marks.specs.declared.shown.Shown.TheVariants as shown
use Rattle.picture_marks.specs.declared.shown.Mark.{Mark}
use Rattle.picture_marks.specs.Shown.{lane_shown_in, same, same_lane}
use Rattle.picture_marks.specs.Marks.{lanes_of}

-- whether a mark is of this lane and of this cycle
abbrev pub covers : Lane → ℕ → Mark → Bool
covers lane c m = same_lane m.lane lane && (nat_le m.first c && nat_lt c m.past)

-- what the marks show of a lane in a cycle: nothing where there is no mark
abbrev pub shown_at : List Mark → Lane → ℕ → Shown
shown_at [] lane c = shown.Nothing
shown_at (m ∷ ms) lane c = if covers lane c m then m.shown else shown_at ms lane c

-- what was told of a lane in a cycle, by the report or with the mission: nothing where the picture has no such lane, or
-- the cycle was not told
abbrev pub told_at : Option Limits → ℕ → ℕ → List CycleFacts → Lane → ℕ → Shown
told_at limits channels outputs told lane c =
    if list_any (λ l. same_lane l lane) (lanes_of channels outputs)
    then get_or (map (lane_shown_in limits lane) told) c shown.Nothing
    else shown.Nothing

-- Spans follow on one another from a cycle on, each has a cycle, and no two neighbours show the same.
abbrev pub AreMaximal : ℕ → List Mark → Type 0
AreMaximal c [] = Unit {0}
AreMaximal c (m ∷ []) = (m.first ≡ c) × (c < m.past)
AreMaximal c (m ∷ n ∷ ms) =
    (m.first ≡ c) × (c < m.past) × (same m.shown n.shown ≡ false) × AreMaximal m.past (n ∷ ms)
