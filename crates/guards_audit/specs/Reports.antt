-- Whole reports: what they tell, their text, and the reader of it. This project's own.
use Rattle.std.specs.Prelude.{ℕ, ℤ, ◌&&◌, List, [], ◌∷◌, ◌++◌, map, flat_map, filter_map, Option, Some, None, if◌then◌else◌}
use Rattle.std.specs.List.{list_all}
use Rattle.std.specs.Str.{bytes_eq}
use Rattle.guards_model.specs.Texts.{TextValue, RecordValue, StopValue}
use Rattle.guards_audit.specs.Lines.{ReportLine, head_told, cycle_told, channel_told, steps_told, end_told, out_told, done_told, stop_told, opened_record, closed_record, line_spelling, is_form, lines_in}
use Rattle.guards_audit.specs.Reading.{line_read}

-- what a report tells of a cycle: its record, and the words of an actuator after it
pub record CycleTold : Type 0 where
  pub record_told : RecordValue
  pub words : Option (List ℤ)

-- what a report tells: the mission's numbers of channels and cycles, the cycles in their order, and the stop if there
-- was one
pub record ReportValue : Type 0 where
  pub channels : ℕ
  pub cycles : ℕ
  pub told : List CycleTold
  pub stop : Option StopValue

-- ---- its text

abbrev pub words_lines : Option (List ℤ) → List ReportLine
words_lines None = []
words_lines (Some words) = out_told words ∷ []

abbrev pub record_lines : RecordValue → List ReportLine → List ReportLine
record_lines r more =
    cycle_told r.cycle r.active r.transfer
    ∷ (map channel_told r.lines ++ (map steps_told r.traces ++ end_told r.removed r.joined r.remaining ∷ more))

abbrev pub cycle_lines : CycleTold → List ReportLine
cycle_lines t = record_lines t.record_told (words_lines t.words)

abbrev pub last_line_told : ℕ → Option StopValue → ReportLine
last_line_told cycles None = done_told cycles
last_line_told cycles (Some s) = stop_told s

-- the lines of a report
abbrev pub lines_of : ReportValue → List ReportLine
lines_of r = head_told r.channels r.cycles ∷ (flat_map cycle_lines r.told ++ last_line_told r.cycles r.stop ∷ [])

abbrev pub text_of_report : ReportValue → TextValue
text_of_report r = flat_map line_spelling (lines_of r)

-- ---- the reader

-- a cycle of which nothing is told
abbrev pub untold : CycleTold
untold = record { record_told = opened_record 0 [] None; words = None }

-- what a line before tells of the first of these cycles
abbrev pub onto_cycle : (RecordValue → RecordValue) → List CycleTold → List CycleTold
onto_cycle more [] = record untold { record_told = more untold.record_told } ∷ []
onto_cycle more (t ∷ told) = record t { record_told = more t.record_told } ∷ told

-- the cycles that some lines tell: each ends with its end line, or with the words after it
abbrev pub cycles_in : List ReportLine → List CycleTold
cycles_in [] = []
cycles_in (cycle_told c active transfer ∷ lines) =
    onto_cycle (λ r. record r { cycle = c; active = active; transfer = transfer }) (cycles_in lines)
cycles_in (channel_told l ∷ lines) = onto_cycle (λ r. record r { lines = l ∷ r.lines }) (cycles_in lines)
cycles_in (steps_told t ∷ lines) = onto_cycle (λ r. record r { traces = t ∷ r.traces }) (cycles_in lines)
cycles_in (end_told removed joined remaining ∷ out_told words ∷ lines) =
    record { record_told = closed_record (opened_record 0 [] None) removed joined remaining; words = Some words }
    ∷ cycles_in lines
cycles_in (end_told removed joined remaining ∷ lines) =
    record { record_told = closed_record (opened_record 0 [] None) removed joined remaining; words = None }
    ∷ cycles_in lines
cycles_in (_ ∷ lines) = cycles_in lines

-- the stop that some lines tell, if there is one
abbrev pub stop_among : List ReportLine → Option StopValue
stop_among [] = None
stop_among (stop_told s ∷ lines) = Some s
stop_among (_ ∷ lines) = stop_among lines

-- what the lines of a report tell
abbrev pub told_by : List ReportLine → Option ReportValue
told_by (head_told channels cycles ∷ lines) =
    Some (record { channels = channels; cycles = cycles; told = cycles_in lines; stop = stop_among lines })
told_by _ = None

-- the report, where its lines are of their forms and the text is its text
abbrev pub if_its_text : TextValue → Option ReportValue → Option ReportValue
if_its_text text None = None
if_its_text text (Some r) =
    if list_all is_form (lines_of r) && bytes_eq text (text_of_report r) then Some r else None

-- the report that a text is
unfoldable pub report_of : TextValue → Option ReportValue
report_of text = if_its_text text (told_by (filter_map (λ line. line) (map line_read (lines_in text))))
