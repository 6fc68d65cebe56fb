-- What contracts see of a line that was read.
use Rattle.std.specs.Prelude.{◌≡◌, ◌≤◌, false, ◌^◌, ◌==◌, ◌&&◌, Bool, true, nat_lt, List, [], ◌∷◌, length, map, take, option_map, Option, Some, None, codes}
use Rattle.std.specs.List.{join_with_byte}
use Rattle.std.specs.Fmt.{decimal}
use Rattle.guards_model.specs.Missions.{MissionValue}
use Rattle.guards_model.specs.Records.{transfer_of_pair, shown_line}
use Rattle.guards_model.specs.Slots.{slot_text}
use Rattle.guards_model.specs.Texts.{TextValue, set_text, words_text, vote_text, transfer_text, remaining_text, steps_text}
use Rattle.guards_audit.specs.Lines.{ReportLine, head_told, cycle_told, channel_told, steps_told, end_told, out_told, done_told, stop_told, if_there, is_form}
use Rattle.guards_audit.specs.Reading.{line_read}
use Rattle.run_audit.specs.declared.line.Line.{Line}
use Rattle.run_audit.specs.declared.line.Line.TheVariants as line
use Rattle.run_audit.specs.declared.line.Sizes.{Sizes}

-- what a line says, of which as many words, votes and counts are meant as the mission has
abbrev pub line_value : Sizes → Line → ReportLine
line_value s (line.Head channels cycles) = head_told channels cycles
line_value s (line.Cycle cycle active transfer) = cycle_told cycle active (transfer_of_pair transfer)
line_value s (line.Channel l) = channel_told (shown_line s.channels s.width s.outputs l)
line_value s (line.Steps t) = steps_told t
line_value s (line.End removed joined remaining) = end_told removed joined remaining
line_value s (line.Out words) = out_told (take s.outputs words)
line_value s (line.Done cycles) = done_told cycles

-- whether a line has a mission's sizes, and is no stop; no other suits any place
abbrev pub has_sizes : Sizes → ReportLine → Bool
has_sizes s (head_told channels cycles) = nat_lt channels (2 ^ 8)
has_sizes s (cycle_told c active transfer) = true
has_sizes s (channel_told l) = (length l.inputs == s.width && length l.votes == s.outputs)
    && length l.counts == s.channels
has_sizes s (steps_told t) = true
has_sizes s (end_told removed joined remaining) = if_there (λ n. nat_lt n (2 ^ 16)) remaining
has_sizes s (out_told words) = length words == s.outputs
has_sizes s (done_told cycles) = true
has_sizes s (stop_told stop) = false

-- Sizes that a mission may have.
pub record IsInUse (s : Sizes) : Type 0 where
  pub channels : (1 ≤ s.channels) × (s.channels ≤ 7)
  pub width : (1 ≤ s.width) × (s.width ≤ 4)
  pub outputs : (1 ≤ s.outputs) × (s.outputs ≤ 8)

-- the sizes of a mission's lines
abbrev pub sizes_of : MissionValue → Sizes
sizes_of M = record { channels = M.rules.channels; width = M.width; outputs = length M.outputs }

-- the word with which a line begins
abbrev pub first_word : ReportLine → TextValue
first_word (head_told channels cycles) = codes "guards"
first_word (cycle_told c active transfer) = codes "cycle"
first_word (channel_told l) = codes "ch"
first_word (steps_told t) = codes "trace"
first_word (end_told removed joined remaining) = codes "end"
first_word (out_told words) = codes "out"
first_word (done_told cycles) = codes "done"
first_word (stop_told stop) = codes "stop"

-- the fields of a line after its first word
abbrev pub fields : ReportLine → List TextValue
fields (head_told channels cycles) = codes "channels" ∷ decimal channels ∷ codes "cycles" ∷ decimal cycles ∷ []
fields (cycle_told c active transfer) = decimal c ∷ codes "active" ∷ set_text active ∷ codes "transfer"
    ∷ transfer_text transfer ∷ []
fields (channel_told l) =
    decimal l.channel ∷ codes "in" ∷ words_text l.inputs ∷ codes "vote" ∷ join_with_byte 44 (map vote_text l.votes)
    ∷ codes "judged" ∷ set_text l.judged ∷ codes "alpha" ∷ join_with_byte 44 (map decimal l.counts) ∷ []
fields (steps_told t) = decimal t.channel ∷ steps_text t.steps ∷ []
fields (end_told removed joined remaining) =
    codes "removed" ∷ set_text removed ∷ codes "joined" ∷ set_text joined ∷ codes "remaining"
    ∷ remaining_text remaining ∷ []
fields (out_told words) = words_text words ∷ []
fields (done_told cycles) = decimal cycles ∷ []
fields (stop_told stop) =
    codes "cycle" ∷ decimal stop.cycle ∷ codes "slot" ∷ slot_text stop.slot ∷ codes "disturbed"
    ∷ set_text stop.set ∷ codes "active" ∷ set_text stop.active ∷ []

-- A line is read where its fields stand: it is of its form, has these sizes, and the text is its fields at spaces.
abbrev pub IsReadFrom : Sizes → List TextValue → TextValue → ReportLine → Option Line → Type 0
IsReadFrom s pieces text line read =
    is_form line ≡ true → has_sizes s line ≡ true → text ≡ join_with_byte 32 pieces →
    option_map (line_value s) read ≡ Some line

-- what is read of the fields after a first word
abbrev pub IsReadAs : Sizes → TextValue → Option Line → ReportLine → Type 0
IsReadAs s text read line = IsReadFrom s (fields line) text line read

-- what is read is of its form
abbrev pub is_formed : Sizes → Option Line → Bool
is_formed s None = true
is_formed s (Some l) = is_form (line_value s l)

-- What reading a text answers: the line that it spells, or none where it spells none that has these sizes.
abbrev pub Reads : Sizes → TextValue → Option Line → Type 0
Reads s text (Some line) = line_read text ≡ Some (line_value s line)
Reads s text None = (line : ReportLine) → line_read text ≡ Some line → has_sizes s line ≡ false
