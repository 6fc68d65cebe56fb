-- What a mark looks like, where it stands, and what it says.
use Rattle.std.specs.Prelude.{ℕ, ◌+◌, ◌-◌, ◌*◌, ◌==◌, nat_lt, Bool, true, false, List, [], ◌++◌, get_or, codes, Option, None, if◌then◌else◌}
use Rattle.std.specs.Fmt.{decimal, signed_decimal}
use Rattle.guards_model.specs.Texts.{TextValue}
use Rattle.svg_text.specs.Pieces.{rect_text, svg_sign_text}
use Rattle.svg_text.specs.declared.pieces.Corner.{Corner}
use Rattle.svg_text.specs.declared.pieces.Side.{Side}
use Rattle.picture_marks.specs.declared.shown.Lane.{Lane}
use Rattle.picture_marks.specs.declared.shown.Lane.TheVariants as lane
use Rattle.picture_marks.specs.declared.shown.Shown.{Shown}
use Rattle.picture_marks.specs.declared.shown.Shown.TheVariants as shown
use Rattle.picture_marks.specs.declared.shown.Mark.{Mark}
use Rattle.picture_svg.specs.declared.sheet.Scale.{Scale}
use Rattle.picture_svg.specs.declared.sheet.Sheet.{Sheet}
use Rattle.picture_svg.specs.Sheet.{cycle_x, lane_y, scaled, word_height}

abbrev pub class_of : Shown → TextValue
class_of shown.Nothing = codes "none"
class_of shown.Runs = codes "runs"
class_of shown.Silent = codes "silent"
class_of shown.Off = codes "off"
class_of shown.Judged = codes "judged"
class_of (shown.Restored start) = codes "restored"
class_of (shown.Removed cycle) = codes "removed"
class_of (shown.Joined cycle) = codes "joined"
class_of (shown.Dropped cycle) = codes "dropped"
class_of (shown.Count count) = codes "count"
class_of (shown.Threshold count) = codes "limit"
class_of (shown.Blocks left) = codes "left"
class_of (shown.Final blocks) = codes "limit"
class_of (shown.Vote word) = codes "vote"

-- ---- what it says

unfoldable pub subject_text : Lane → TextValue
subject_text (lane.State q) = codes "channel " ++ decimal q
subject_text (lane.Judged q) = codes "channel " ++ decimal q
subject_text (lane.Count q) = codes "channel " ++ decimal q
subject_text (lane.Threshold q) = codes "channel " ++ decimal q
subject_text (lane.Removed q) = codes "channel " ++ decimal q
subject_text (lane.Joined q) = codes "channel " ++ decimal q
subject_text (lane.Dropped q) = codes "channel " ++ decimal q
subject_text lane.Remaining = codes "the transfer"
subject_text lane.Final = codes "the transfer"
subject_text (lane.Output k) = codes "output " ++ decimal k

unfoldable pub mark_words : Shown → TextValue
mark_words shown.Nothing = codes "shows nothing"
mark_words shown.Runs = codes "runs"
mark_words shown.Silent = codes "is active and has no line"
mark_words shown.Off = codes "is switched off"
mark_words shown.Judged = codes "is judged errant"
mark_words (shown.Restored start) = codes "is being restored since cycle " ++ decimal start
mark_words (shown.Removed cycle) = codes "is removed at the end of cycle " ++ decimal cycle
mark_words (shown.Joined cycle) = codes "joins at the end of cycle " ++ decimal cycle
mark_words (shown.Dropped cycle) = codes "is dropped from the transfer before cycle " ++ decimal cycle
mark_words (shown.Count count) = codes "has a count of " ++ decimal count ++ codes "/65536"
mark_words (shown.Threshold count) = codes "has a threshold of " ++ decimal count ++ codes "/65536"
mark_words (shown.Blocks left) = codes "has " ++ decimal left ++ codes " blocks left"
mark_words (shown.Final blocks) = codes "has room for " ++ decimal blocks ++ codes " blocks in a final frame"
mark_words (shown.Vote word) = codes "is " ++ signed_decimal word

unfoldable pub when_text : ℕ → ℕ → TextValue
when_text first past =
    if past == first + 1
    then codes "cycle " ++ decimal first
    else codes "cycles " ++ decimal first ++ codes " to " ++ decimal (past - 1)

unfoldable pub title_of : Mark → TextValue
title_of m = subject_text m.lane ++ codes " " ++ mark_words m.shown ++ codes ", " ++ when_text m.first m.past

-- ---- where it stands: the foot of its bar in its row, and the bar's height. A limit stands across its row, in the
-- middle as high as a bar of its number is.

abbrev pub foot_of : Sheet → Shown → ℕ
foot_of s shown.Nothing = 0
foot_of s shown.Runs = 1500
foot_of s shown.Silent = 1500
foot_of s shown.Off = 850
foot_of s shown.Judged = 1500
foot_of s (shown.Restored start) = 1500
foot_of s (shown.Removed cycle) = 750
foot_of s (shown.Joined cycle) = 750
foot_of s (shown.Dropped cycle) = 750
foot_of s (shown.Count count) = 3500
foot_of s (shown.Threshold count) = 3550 - scaled count s.most_counted 1600
foot_of s (shown.Blocks left) = 3200
foot_of s (shown.Final blocks) = 3250 - scaled blocks s.most_left 3000
foot_of s (shown.Vote word) = 3000

abbrev pub output_of : Lane → ℕ
output_of (lane.Output k) = k
output_of _ = 0

abbrev pub height_of : Sheet → List (Option Scale) → Lane → Shown → ℕ
height_of s scales lane shown.Nothing = 0
height_of s scales lane shown.Runs = 1500
height_of s scales lane shown.Silent = 1500
height_of s scales lane shown.Off = 200
height_of s scales lane shown.Judged = 400
height_of s scales lane (shown.Restored start) = 1500
height_of s scales lane (shown.Removed cycle) = 0
height_of s scales lane (shown.Joined cycle) = 0
height_of s scales lane (shown.Dropped cycle) = 0
height_of s scales lane (shown.Count count) = scaled count s.most_counted 1600
height_of s scales lane (shown.Threshold count) = 100
height_of s scales lane (shown.Blocks left) = scaled left s.most_left 3000
height_of s scales lane (shown.Final blocks) = 100
height_of s scales lane (shown.Vote word) = word_height (get_or scales (output_of lane) None) word + 200

-- a removal and a join are signs at the end of their cycle, and that a target was dropped is one where its cycle
-- begins; all else is a bar over its cycles
abbrev pub is_sign : Shown → Bool
is_sign (shown.Removed cycle) = true
is_sign (shown.Joined cycle) = true
is_sign (shown.Dropped cycle) = true
is_sign _ = false

abbrev pub sign_cycle : Shown → Mark → ℕ
sign_cycle (shown.Dropped cycle) m = m.first
sign_cycle _ m = m.past

abbrev pub sign_corner : Sheet → Mark → Corner
sign_corner s m =
    record { x = cycle_x s.width (sign_cycle m.shown m); y = lane_y s.channels m.lane + foot_of s m.shown }

abbrev pub bar_corner : Sheet → List (Option Scale) → Mark → Corner
bar_corner s scales m =
    record {
      x = cycle_x s.width m.first;
      y = lane_y s.channels m.lane + (foot_of s m.shown - height_of s scales m.lane m.shown);
    }

abbrev pub bar_side : Sheet → List (Option Scale) → Mark → Side
bar_side s scales m =
    record { width = (m.past - m.first) * s.width; height = height_of s scales m.lane m.shown }

-- a threshold above the highest bar is left out
abbrev pub is_above : Sheet → Shown → Bool
is_above s (shown.Threshold count) = nat_lt s.most_counted count
is_above s _ = false

-- the text of a mark
unfoldable pub mark_text : Sheet → List (Option Scale) → Mark → TextValue
mark_text s scales m =
    if is_sign m.shown
    then svg_sign_text (class_of m.shown) (sign_corner s m) (title_of m)
    else (if is_above s m.shown then [] else
    rect_text (class_of m.shown) (bar_corner s scales m) (bar_side s scales m) (title_of m))
