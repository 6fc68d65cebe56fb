-- Where on the sheet things stand, in hundredths of a pixel, and how high bars are.
use Rattle.std.specs.Prelude.{ℕ, ◌+◌, ◌-◌, ◌*◌, ◌/◌, min, max, ◌==◌, nat_le, ℤ, ◌-ℤ◌, unsigned_abs, Bool, false, List, map, fold, Option, Some, None, if◌then◌else◌}
use Rattle.std.specs.Int.{int_max, int_min}
use Rattle.guards_model.specs.Channels.{numbers_below}
use Rattle.picture_marks.specs.declared.shown.Lane.{Lane}
use Rattle.picture_marks.specs.declared.shown.Lane.TheVariants as lane
use Rattle.picture_marks.specs.declared.shown.Shown.{Shown}
use Rattle.picture_marks.specs.declared.shown.Shown.TheVariants as shown
use Rattle.picture_marks.specs.declared.shown.Mark.{Mark}
use Rattle.picture_svg.specs.declared.sheet.Scale.{Scale}
use Rattle.picture_svg.specs.declared.sheet.Measure.{Measure}
use Rattle.picture_svg.specs.declared.sheet.Measure.TheVariants as measure
use Rattle.picture_svg.specs.declared.sheet.Sheet.{Sheet}

-- how wide a cycle is: the cycles share the width of the plot, and each has some of it
abbrev pub cycle_width : ℕ → ℕ
cycle_width cycles = max 1 (101600 / max 1 cycles)

-- where a cycle begins, to the right of the names
abbrev pub cycle_x : ℕ → ℕ → ℕ
cycle_x width c = 12800 + c * width

-- the upper edges of a channel's rows, of the row of the transfer, and of an output's row
abbrev pub channel_y : ℕ → ℕ
channel_y q = 8600 + q * 4400

abbrev pub transfer_y : ℕ → ℕ
transfer_y channels = channel_y channels + 400

abbrev pub output_y : ℕ → ℕ → ℕ
output_y channels k = transfer_y channels + 4400 + k * 4000

abbrev pub axis_y : ℕ → ℕ → ℕ
axis_y channels outputs = output_y channels outputs + 200

-- the upper edge of a lane's row
abbrev pub lane_y : ℕ → Lane → ℕ
lane_y channels (lane.State q) = channel_y q
lane_y channels (lane.Judged q) = channel_y q
lane_y channels (lane.Count q) = channel_y q
lane_y channels (lane.Threshold q) = channel_y q
lane_y channels (lane.Removed q) = channel_y q
lane_y channels (lane.Joined q) = channel_y q
lane_y channels (lane.Dropped q) = channel_y q
lane_y channels lane.Remaining = transfer_y channels
lane_y channels lane.Final = transfer_y channels
lane_y channels (lane.Output k) = output_y channels k

-- ---- the height of bars: in proportion to the greatest value that is shown

abbrev pub scaled : ℕ → ℕ → ℕ → ℕ
scaled value highest tall = min tall (value * tall / max 1 highest)

abbrev pub measured : Measure → Shown → ℕ
measured measure.Counts (shown.Count count) = count
measured measure.Thresholds (shown.Threshold count) = count
measured measure.Blocks (shown.Blocks left) = left
measured measure.Blocks (shown.Final blocks) = blocks
measured _ _ = 0

abbrev pub highest : Measure → List Mark → ℕ
highest m marks = fold (λ most mark. max most (measured m mark.shown)) 0 marks

-- what the highest bar of a count stands for: the greatest count, or the threshold where that is greater, but no more
-- than four times as great
abbrev pub top_count : ℕ → ℕ → ℕ
top_count counted threshold = if nat_le threshold (4 * counted) then max counted threshold else counted

-- the scale of an output: from its least word to its greatest
abbrev pub widened : Option Scale → ℤ → Scale
widened None w = record { low = w; high = w }
widened (Some s) w = record { low = int_min s.low w; high = int_max s.high w }

abbrev pub with_sheet_word : Option Scale → Shown → Option Scale
with_sheet_word scale (shown.Vote w) = Some (widened scale w)
with_sheet_word scale _ = scale

abbrev pub is_output : ℕ → Lane → Bool
is_output k (lane.Output place) = place == k
is_output k _ = false

abbrev pub with_mark : ℕ → Option Scale → Mark → Option Scale
with_mark k scale mark = if is_output k mark.lane then with_sheet_word scale mark.shown else scale

abbrev pub scale_of : List Mark → ℕ → Option Scale
scale_of marks k = fold (with_mark k) None marks

abbrev pub word_height : Option Scale → ℤ → ℕ
word_height None w = 0
word_height (Some s) w = scaled (unsigned_abs (w -ℤ s.low)) (unsigned_abs (s.high -ℤ s.low)) 2600

-- the scales of the outputs
abbrev pub scales_of : ℕ → List Mark → List (Option Scale)
scales_of outputs marks = map (scale_of marks) (numbers_below outputs)

-- the sheet of some marks
abbrev pub sheet_of : ℕ → ℕ → ℕ → List Mark → Sheet
sheet_of channels outputs cycles marks =
    record {
      channels = channels;
      outputs = outputs;
      width = cycle_width cycles;
      most_counted = top_count (highest measure.Counts marks) (highest measure.Thresholds marks);
      most_left = highest measure.Blocks marks;
    }
