-- The lines of a report or a trace, by their forms. This project's own.
use Rattle.std.specs.Prelude.{ℕ, ◌==◌, ◌^◌, ℤ, Bool, true, false, not, ◌&&◌, nat_lt, List, [], ◌∷◌, Option, None, Some, if◌then◌else◌}
use Rattle.std.specs.List.{onto_first, list_all}
use Rattle.guards_model.specs.Words.{is_word}
use Rattle.guards_model.specs.Channels.{ChannelSet}
use Rattle.guards_model.specs.Frames.{is_channel, is_set}
use Rattle.guards_model.specs.Transfers.{TransferValue}
use Rattle.guards_model.specs.Texts.{TextValue, LineValue, TraceValue, RecordValue, StopValue, head_line, cycle_line, channel_line, trace_line, end_line, out_line, done_line, stop_line}

-- The lines of a text, each with its line end. What follows the last line end is a line without one, so it spells none.
abbrev pub lines_in : TextValue → List TextValue
lines_in [] = []
lines_in (letter ∷ text) = if letter == 10 then (10 ∷ []) ∷ lines_in text else onto_first letter (lines_in text)

-- what a line says
pub data ReportLine : Type 0 where
  -- how many channels and cycles
  head_told : ℕ → ℕ → ReportLine
  -- a cycle begins: its number, its active channels, and the transfer that goes on or starts
  cycle_told : ℕ → ChannelSet → Option TransferValue → ReportLine
  channel_told : LineValue → ReportLine
  steps_told : TraceValue → ReportLine
  -- a cycle ends: who was removed and who joined, and how many blocks remain
  end_told : ChannelSet → ChannelSet → Option ℕ → ReportLine
  -- the words of an actuator after a cycle
  out_told : List ℤ → ReportLine
  -- the run came to its end, after so many cycles
  done_told : ℕ → ReportLine
  -- the run stopped
  stop_told : StopValue → ReportLine

-- a cycle of which nothing is told but its first line
abbrev pub opened_record : ℕ → ChannelSet → Option TransferValue → RecordValue
opened_record c active transfer =
    record {
      cycle = c;
      active = active;
      transfer = transfer;
      lines = [];
      traces = [];
      removed = [];
      joined = [];
      remaining = None;
    }

-- a cycle with what its last line tells
abbrev pub closed_record : RecordValue → ChannelSet → ChannelSet → Option ℕ → RecordValue
closed_record r removed joined remaining = record r { removed = removed; joined = joined; remaining = remaining }

-- the one spelling of a line, as the report has it
abbrev pub line_spelling : ReportLine → TextValue
line_spelling (head_told channels cycles) = head_line channels cycles
line_spelling (cycle_told c active transfer) = cycle_line (opened_record c active transfer)
line_spelling (channel_told l) = channel_line l
line_spelling (steps_told t) = trace_line t
line_spelling (end_told removed joined remaining) =
    end_line (closed_record (opened_record 0 [] None) removed joined remaining)
line_spelling (out_told words) = out_line words
line_spelling (done_told cycles) = done_line cycles
line_spelling (stop_told s) = stop_line s

-- ---- the ranges of a line

abbrev pub is_empty : {A : Type 0} → List A → Bool
is_empty [] = true
is_empty (x ∷ xs) = false

-- one or more elements that pass the test
abbrev pub some_that : {A : Type 0} → (A → Bool) → List A → Bool
some_that test xs = not (is_empty xs) && list_all test xs

-- a number of a cycle, count or block
abbrev pub is_small : ℕ → Bool
is_small n = nat_lt n (2 ^ 32)

-- a vote that is a word
abbrev pub is_cast : Option ℤ → Bool
is_cast None = false
is_cast (Some w) = is_word w

abbrev pub if_there : {A : Type 0} → (A → Bool) → Option A → Bool
if_there test None = true
if_there test (Some x) = test x

abbrev pub is_transfer : TransferValue → Bool
is_transfer t = is_set t.targets && is_small t.start

-- whether a line is of its form: its numbers are in range, its words are words, its sets are sets, no list of words or
-- counts is empty, and each vote is a word
abbrev pub is_form : ReportLine → Bool
is_form (head_told channels cycles) = is_small channels && is_small cycles
is_form (cycle_told c active transfer) = is_small c && (is_set active && if_there is_transfer transfer)
is_form (channel_told l) =
    is_channel l.channel
    && ((some_that is_word l.inputs && some_that is_cast l.votes) && (is_set l.judged && some_that is_small l.counts))
is_form (steps_told t) = is_channel t.channel
is_form (end_told removed joined remaining) = is_set removed && (is_set joined && if_there is_small remaining)
is_form (out_told words) = some_that is_word words
is_form (done_told cycles) = is_small cycles
is_form (stop_told s) = is_small s.cycle && (is_set s.set && is_set s.active)
