-- The whole picture.
use Rattle.std.specs.Prelude.{ℕ, ◌+◌, ◌-◌, ◌*◌, ◌/◌, max, ◌==◌, nat_le, nat_lt, Bool, List, [], ◌∷◌, ◌++◌, length, map, flat_map, filter, get_or, codes, Option, None, Some, if◌then◌else◌}
use Rattle.std.specs.Fmt.{decimal, signed_decimal}
use Rattle.guards_model.specs.declared.Slot.{Slot}
use Rattle.guards_model.specs.Channels.{ChannelSet, has, numbers_below}
use Rattle.guards_model.specs.Slots.{slot_text}
use Rattle.guards_model.specs.Texts.{TextValue}
use Rattle.svg_text.specs.Pieces.{open_text, close_text, label_text, svg_line_text, rect_text}
use Rattle.svg_text.specs.declared.pieces.Corner.{Corner}
use Rattle.svg_text.specs.declared.pieces.Side.{Side}
use Rattle.picture_marks.specs.declared.facts.Limits.{Limits}
use Rattle.picture_marks.specs.declared.facts.End.{End}
use Rattle.picture_marks.specs.declared.facts.End.TheVariants as ending
use Rattle.picture_marks.specs.declared.shown.Mark.{Mark}
use Rattle.picture_svg.specs.declared.sheet.Scale.{Scale}
use Rattle.picture_svg.specs.declared.sheet.Sheet.{Sheet}
use Rattle.picture_svg.specs.Sheet.{axis_y, channel_y, cycle_x, output_y, scales_of, sheet_of, transfer_y}
use Rattle.picture_svg.specs.Drawing.{mark_text}
use Rattle.picture_svg.specs.Looks.{ground_style, mark_style, dark_style, signs_text, states_legend, signs_legend, ends_legend}

abbrev pub corner : ℕ → ℕ → Corner
corner x y = record { x = x; y = y }

abbrev pub side : ℕ → ℕ → Side
side width height = record { width = width; height = height }

-- ---- what stands above the plot

unfoldable pub head_words : ℕ → ℕ → TextValue
head_words channels cycles =
    codes "guards: " ++ decimal channels ++ codes " channels, " ++ decimal cycles ++ codes " cycles"

-- a stop in words
unfoldable pub stop_words : ℕ → Slot → ChannelSet → ChannelSet → TextValue
stop_words cycle slot set active =
    codes "stopped in cycle " ++ decimal cycle ++ codes ", slot " ++ slot_text slot ++ codes ": "
    ++ decimal (length set) ++ codes " of " ++ decimal (length active) ++ codes " disturbed"

-- how the report ends, in words
unfoldable pub end_words : ℕ → End → TextValue
end_words whole ending.Done = codes "ran to its end"
end_words whole (ending.Stop cycle slot set active) = stop_words cycle slot set active
end_words whole ending.Cut = codes "the report breaks off after " ++ decimal whole ++ codes " cycles"

abbrev pub end_class : End → TextValue
end_class ending.Done = codes "said"
end_class (ending.Stop cycle slot set active) = codes "alarm"
end_class ending.Cut = codes "alarm"

-- the limits of the mission, where that is known: whether the threshold is higher than the highest bar of a count, and
-- how many blocks a final frame may carry
unfoldable pub limits_words : Limits → ℕ → TextValue
limits_words l most =
    codes "threshold " ++ decimal l.threshold ++ codes "/65536"
    ++ (if nat_lt most l.threshold then codes " (above the bars)" else [])
    ++ codes ", final frame " ++ decimal l.last ++ codes " blocks"

unfoldable pub limits_text : Option Limits → ℕ → TextValue
limits_text None most = []
limits_text (Some l) most = label_text (codes "said") (corner 60000 5400) (limits_words l most)

-- ---- the plot

-- every so many cycles one has its number
abbrev pub tick_step : ℕ → ℕ
tick_step cycles =
    if nat_le cycles 26 then 1 else (if nat_le cycles 130 then 5 else (if nat_le cycles 520 then 20 else 100))

-- the upper edge of the plot
abbrev pub plot_top : ℕ
plot_top = 7800

-- a cycle's number under the axis, and a line from there up
unfoldable pub tick_text : ℕ → ℕ → ℕ → TextValue
tick_text width axis c =
    svg_line_text (codes "grid") (corner (cycle_x width c) plot_top) (corner (cycle_x width c) axis)
    ++ label_text (codes "tick") (corner (cycle_x width c + width / 2) (axis + 1500)) (decimal c)

unfoldable pub ticks_text : ℕ → ℕ → ℕ → TextValue
ticks_text cycles width axis =
    flat_map (λ k. tick_text width axis (k * tick_step cycles))
    (numbers_below ((cycles - 1) / tick_step cycles + 1))

-- the cycles that the report does not tell
unfoldable pub void_text : ℕ → ℕ → ℕ → ℕ → TextValue
void_text cycles whole width axis =
    if nat_lt whole cycles
    then rect_text (codes "void") (corner (cycle_x width whole) plot_top)
    (side ((cycles - whole) * width) (axis - plot_top)) (codes "not in the report")
    else []

-- ---- the names of the rows

unfoldable pub channel_name : ℕ → TextValue
channel_name q = label_text (codes "name") (corner 2000 (channel_y q + 1150)) (codes "channel " ++ decimal q)

unfoldable pub transfer_name : Sheet → TextValue
transfer_name s =
    label_text (codes "name") (corner 2000 (transfer_y s.channels + 1300)) (codes "blocks left")
    ++ label_text (codes "small") (corner 2000 (transfer_y s.channels + 2700)) (codes "up to " ++ decimal s.most_left)

unfoldable pub range_text : Option Scale → TextValue
range_text None = codes "no word"
range_text (Some s) = signed_decimal s.low ++ codes " to " ++ signed_decimal s.high

unfoldable pub output_name : ℕ → List (Option Scale) → ℕ → TextValue
output_name channels scales k =
    label_text (codes "name") (corner 2000 (output_y channels k + 1300)) (codes "output " ++ decimal k)
    ++ label_text (codes "small") (corner 2000 (output_y channels k + 2700)) (range_text (get_or scales k None))

unfoldable pub names_text : Sheet → List (Option Scale) → TextValue
names_text s scales =
    flat_map channel_name (numbers_below s.channels)
    ++ (transfer_name s ++ flat_map (output_name s.channels scales) (numbers_below s.outputs))

-- ---- the stop

-- a channel that was disturbed at the stop, in the cycle that it cut short
unfoldable pub disturbed_text : ℕ → List ℕ → ℕ → TextValue
disturbed_text x set q =
    if has set q
    then rect_text (codes "disturbed") (corner (x + 400) (channel_y q + 150)) (side 1200 1200)
    (codes "channel " ++ decimal q ++ codes " is disturbed at the stop")
    else []

unfoldable pub stopped_text : Sheet → ℕ → List ℕ → TextValue
stopped_text s cycle set =
    svg_line_text (codes "stop") (corner (cycle_x s.width cycle) plot_top)
    (corner (cycle_x s.width cycle) (axis_y s.channels s.outputs))
    ++ flat_map (disturbed_text (cycle_x s.width cycle) set) (numbers_below s.channels)

unfoldable pub stop_mark_text : Sheet → End → TextValue
stop_mark_text s (ending.Stop cycle slot set active) = stopped_text s cycle set
stop_mark_text s ending.Done = []
stop_mark_text s ending.Cut = []

-- ---- all of it

unfoldable pub style_text : TextValue
style_text = ground_style ++ mark_style ++ dark_style ++ signs_text

-- the beginning, the ground and the words above the plot
unfoldable pub front_text : Option Limits → Sheet → ℕ → ℕ → End → TextValue
front_text limits s cycles whole end =
    open_text (side 120000 (axis_y s.channels s.outputs + 9200)) 1200
    (head_words s.channels cycles ++ codes "; " ++ end_words whole end)
    ++ style_text
    ++ rect_text (codes "card") (corner 50 50) (side 119900 (axis_y s.channels s.outputs + 9100))
    (head_words s.channels cycles)
    ++ label_text (codes "head") (corner 2000 3200) (head_words s.channels cycles)
    ++ label_text (end_class end) (corner 2000 5400) (end_words whole end)
    ++ limits_text limits s.most_counted

-- the lines of the plot and the names of its rows
unfoldable pub plot_text : ℕ → ℕ → Sheet → List (Option Scale) → TextValue
plot_text cycles whole s scales =
    ticks_text cycles s.width (axis_y s.channels s.outputs)
    ++ void_text cycles whole s.width (axis_y s.channels s.outputs)
    ++ svg_line_text (codes "axis") (corner 12800 (axis_y s.channels s.outputs))
    (corner (cycle_x s.width cycles) (axis_y s.channels s.outputs))
    ++ label_text (codes "small") (corner 2000 (axis_y s.channels s.outputs + 1500)) (codes "cycle")
    ++ names_text s scales

-- the legend, below the plot, and the end
unfoldable pub foot_text : ℕ → TextValue
foot_text axis =
    codes "<g transform='translate(0 " ++ decimal (axis + 4200) ++ codes ")'>\n"
    ++ states_legend ++ signs_legend ++ ends_legend ++ codes "</g>\n" ++ close_text

-- the text of a picture whose marks, sheet and scales are given
unfoldable pub sheet_text : Option Limits → ℕ → ℕ → End → List Mark → Sheet → List (Option Scale) → TextValue
sheet_text limits cycles whole end marks s scales =
    front_text limits s cycles whole end
    ++ plot_text cycles whole s scales
    ++ flat_map (mark_text s scales) marks
    ++ stop_mark_text s end
    ++ foot_text (axis_y s.channels s.outputs)

-- the picture of some marks, by the limits of the mission where that is known, how many channels, outputs and cycles
-- there are, how many cycles are told, and how the report ends
unfoldable pub svg_of : Option Limits → ℕ → ℕ → ℕ → ℕ → End → List Mark → TextValue
svg_of limits channels outputs cycles whole end marks =
    sheet_text limits cycles whole end marks (sheet_of channels outputs cycles marks) (scales_of outputs marks)
