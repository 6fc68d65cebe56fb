-- The text of a line: how urgent it is, the path of what it is about, and what it says.
use Rattle.std.specs.Prelude.{ℕ, Bool, true, false, nat_le, List, ◌++◌, flat_map, codes}
use Rattle.std.specs.List.{list_any}
use Rattle.std.specs.Fmt.{decimal}
use Rattle.guards_model.specs.Slots.{slot_text}
use Rattle.guards_model.specs.Texts.{TextValue, line_end}
use Rattle.lint_lines.specs.declared.line.LintLine.{LintLine}
use Rattle.lint_lines.specs.declared.line.LintLine.TheVariants.{JoinUnbounded, StaysJudged, TransferTakes, TransferRunsOn, CrowdedCycle, IdleRestart, IdleCrash, IdleDamage, IdleRule, SilentWord, UnwrittenOutput, UnreadSensor, UnwrittenWord, IdleTask}

-- Whether a line warns. Others are notes: the length of a transfer, and that a channel stays which is judged in fewer
-- than half of the cycles.
abbrev pub is_warning : LintLine → Bool
is_warning (JoinUnbounded writes sweep last) = true
is_warning (StaysJudged period) = nat_le period 2
is_warning (TransferTakes row cycles) = false
is_warning (TransferRunsOn row) = true
is_warning (CrowdedCycle cycle count channels) = true
is_warning (IdleRestart channel cycle) = true
is_warning (IdleCrash channel cycle) = true
is_warning (IdleDamage channel cycle) = true
is_warning (IdleRule from cycle slot) = true
is_warning (SilentWord block word) = true
is_warning (UnwrittenOutput place block word) = true
is_warning (UnreadSensor place) = true
is_warning (UnwrittenWord block word) = true
is_warning (IdleTask place) = true

abbrev pub urgency_text : Bool → TextValue
urgency_text true = codes "warning"
urgency_text false = codes "note"

-- the path of what a line is about, as in the refusals of a mission
abbrev pub path_text : LintLine → TextValue
path_text (JoinUnbounded writes sweep last) = codes "core"
path_text (StaysJudged period) = codes "core.keep"
path_text (TransferTakes row cycles) = codes "core.sweep"
path_text (TransferRunsOn row) = codes "core.sweep"
path_text (CrowdedCycle cycle count channels) = codes "fault"
path_text (IdleRestart channel cycle) = codes "fault"
path_text (IdleCrash channel cycle) = codes "fault"
path_text (IdleDamage channel cycle) = codes "fault"
path_text (IdleRule from cycle slot) = codes "fault"
path_text (SilentWord block word) = codes "outputs"
path_text (UnwrittenOutput place block word) = codes "outputs[" ++ decimal place ++ codes "]"
path_text (UnreadSensor place) = codes "sensors"
path_text (UnwrittenWord block word) = codes "task"
path_text (IdleTask place) = codes "task[" ++ decimal place ++ codes "]"

abbrev pub word_name : ℕ → ℕ → TextValue
word_name block word = codes "b" ++ decimal block ++ codes "." ++ decimal word

abbrev pub entry_text : TextValue → ℕ → ℕ → TextValue
entry_text what channel cycle = what ++ decimal channel ++ codes " in cycle " ++ decimal cycle

-- what a line says
abbrev pub body_text : LintLine → TextValue
body_text (JoinUnbounded writes sweep last) =
    codes "no bound of a join is promised: a row writes " ++ decimal writes ++ codes " blocks, sweep is "
    ++ decimal sweep ++ codes " and final is " ++ decimal last
body_text (StaysJudged period) = codes "a channel that is judged errant once in " ++ decimal period
    ++ codes " cycles is never removed for it"
body_text (TransferTakes row cycles) = codes "a transfer that starts in row " ++ decimal row ++ codes " takes "
    ++ decimal cycles ++ codes " cycles"
body_text (TransferRunsOn row) = codes "a transfer that starts in row " ++ decimal row
    ++ codes " does not end in 2000 cycles"
body_text (CrowdedCycle cycle count channels) =
    codes "in cycle " ++ decimal cycle ++ codes " the script names " ++ decimal count ++ codes " of "
    ++ decimal channels ++ codes " channels, a third or more"
body_text (IdleRestart channel cycle) = entry_text (codes "no effect: restart of channel ") channel cycle
    ++ codes ", which is not down"
body_text (IdleCrash channel cycle) = entry_text (codes "no effect: crash of channel ") channel cycle
    ++ codes ", which is down"
body_text (IdleDamage channel cycle) = entry_text (codes "no effect: damage of channel ") channel cycle
    ++ codes ", which is down"
body_text (IdleRule from cycle slot) =
    entry_text (codes "no effect: frames of channel ") from cycle ++ codes ", none such in slot " ++ slot_text slot
body_text (SilentWord block word) = codes "no output depends on " ++ word_name block word
    ++ codes ": damage there shows in no vote"
body_text (UnwrittenOutput place block word) = word_name block word ++ codes " is written by no task of the table"
body_text (UnreadSensor place) = codes "in" ++ decimal place ++ codes " is read by no task of the table"
body_text (UnwrittenWord block word) = word_name block word ++ codes " is read and never written"
body_text (IdleTask place) = codes "stands in no row of the table"

unfoldable pub line_text : LintLine → TextValue
line_text line = urgency_text (is_warning line) ++ codes " " ++ path_text line ++ codes " " ++ body_text line
    ++ line_end

-- the text of lines, and whether one of them warns
unfoldable pub lint_text : List LintLine → TextValue
lint_text lines = flat_map line_text lines

abbrev pub warns : List LintLine → Bool
warns lines = list_any is_warning lines
