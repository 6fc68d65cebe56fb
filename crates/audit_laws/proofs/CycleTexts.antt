-- The text of a report's lines is that of its parts.
use Rattle.std.proofs.Common.{◌≡◌, ℕ, suc, Bool, true, false, cond, ℤ, List, [], ◌∷◌, ◌++◌, length, map, Option, None, Some, refl, sym, ap, ◌∙◌, append_assoc, append-nil}
use Rattle.std.specs.Prelude.{flat_map}
use Rattle.std.proofs.lemmas.List.Concat.{flat_map-append}
use Rattle.guards_model.specs.Missions.{MissionValue, ActuatorValue}
use Rattle.guards_model.specs.Network.{Log}
use Rattle.guards_runs.specs.Outputs.{words_after}
use Rattle.guards_runs.specs.ActedReport.{acted_parts}
use Rattle.guards_model.specs.Rounds.{Histories}
use Rattle.guards_model.specs.Texts.{out_line, TextValue, Part, LineValue, TraceValue, RecordValue, StopValue, channel_line, trace_line, cycle_line, end_line, head_line, last_line, cycle_part, part_text, text_of_parts}
use Rattle.guards_runs.specs.Cycles.{Past}
use Rattle.guards_runs.specs.Report.{cycle_record, cycle_parts, latest_steps, earlier_steps}
use Rattle.guards_audit.specs.Lines.{ReportLine, channel_told, steps_told, end_told, line_spelling}
use Rattle.guards_audit.specs.Reports.{CycleTold, words_lines, cycle_lines, last_line_told, text_of_report}
use Rattle.audit_laws.specs.ToldRuns.{told_record, cycles_as_told, run_told, words_of}

abbrev pub spelled : List ReportLine → TextValue
spelled lines = flat_map line_spelling lines

channels_text : (ls : List LineValue) (rest : List ReportLine) →
    spelled (map channel_told ls ++ rest) ≡ part_text (map channel_line ls) ++ spelled rest
channels_text [] rest = refl
channels_text (l ∷ ls) rest =
    ap (λ t. channel_line l ++ t) (channels_text ls rest)
    ∙ sym (append_assoc (channel_line l) (part_text (map channel_line ls)) (spelled rest))

steps_text : (ts : List TraceValue) (rest : List ReportLine) →
    spelled (map steps_told ts ++ rest) ≡ part_text (map trace_line ts) ++ spelled rest
steps_text [] rest = refl
steps_text (s ∷ ts) rest =
    ap (λ t. trace_line s ++ t) (steps_text ts rest)
    ∙ sym (append_assoc (trace_line s) (part_text (map trace_line ts)) (spelled rest))

traces_text : (trace : Bool) (ts : List TraceValue) (rest : List ReportLine) →
    spelled (map steps_told (cond trace ts []) ++ rest) ≡ part_text (cond trace (map trace_line ts) []) ++ spelled rest
traces_text true ts rest = steps_text ts rest
traces_text false ts rest = refl

-- the lines of a cycle, with those that follow its end line, make the text of its part and of the rest
pub cycle_text : (trace : Bool) (r : RecordValue) (words : Option (List ℤ)) →
    spelled (cycle_lines (record { record_told = told_record trace r; words = words }))
    ≡ part_text (cycle_part trace r) ++ spelled (words_lines words)
cycle_text trace r words =
    let ls : Part = map channel_line r.lines in
    let ts : Part = cond trace (map trace_line r.traces) [] in
    let more : TextValue = spelled (words_lines words) in
    let last : List ReportLine = end_told r.removed r.joined r.remaining ∷ words_lines words in
    let inner : spelled (map channel_told r.lines ++ (map steps_told (cond trace r.traces []) ++ last))
    ≡ part_text ls ++ (part_text ts ++ (end_line r ++ more)) =
    channels_text r.lines (map steps_told (cond trace r.traces []) ++ last)
    ∙ ap (λ t. part_text ls ++ t) (traces_text trace r.traces last) in
    let parts : part_text ((ls ++ ts) ++ end_line r ∷ []) ≡ (part_text ls ++ part_text ts) ++ (end_line r ++ []) =
    flat_map-append (λ (line : TextValue). line) (ls ++ ts) (end_line r ∷ [])
    ∙ ap (λ t. t ++ (end_line r ++ [])) (flat_map-append (λ (line : TextValue). line) ls ts) in
    let outer : (cycle_line r ++ part_text ((ls ++ ts) ++ end_line r ∷ [])) ++ more
    ≡ cycle_line r ++ (part_text ls ++ (part_text ts ++ (end_line r ++ more))) =
    ap (λ t. (cycle_line r ++ t) ++ more)
    (parts ∙ ap (λ t. (part_text ls ++ part_text ts) ++ t) (append-nil (end_line r)))
    ∙ append_assoc (cycle_line r) ((part_text ls ++ part_text ts) ++ end_line r) more
    ∙ ap (λ t. cycle_line r ++ t)
    (append_assoc (part_text ls ++ part_text ts) (end_line r) more
    ∙ append_assoc (part_text ls) (part_text ts) (end_line r ++ more)) in
    ap (λ t. cycle_line r ++ t) inner ∙ sym outer

-- the text of cycles by their parts, where no words follow
pub cycles_text : (trace : Bool) (M : MissionValue) (F : Log) (histories : Histories) (past : Past) →
    spelled (flat_map cycle_lines (cycles_as_told (words_of None M F) trace M histories past))
    ≡ text_of_parts (cycle_parts trace M histories past)
cycles_text trace M F histories [] = refl
cycles_text trace M F histories (e ∷ past) =
    let earlier : Histories = earlier_steps histories in
    let r : RecordValue = cycle_record M (latest_steps histories) (length past) e in
    let told : List CycleTold = cycles_as_told (words_of None M F) trace M earlier past in
    let now : CycleTold = record { record_told = told_record trace r; words = None } in
    ap spelled (flat_map-append cycle_lines told (now ∷ []))
    ∙ flat_map-append line_spelling (flat_map cycle_lines told) (cycle_lines now ++ [])
    ∙ ap (λ t. t ++ spelled (cycle_lines now ++ [])) (cycles_text trace M F earlier past)
    ∙ ap (λ (ls : List ReportLine). text_of_parts (cycle_parts trace M earlier past) ++ spelled ls)
    (append-nil (cycle_lines now))
    ∙ ap (λ t. text_of_parts (cycle_parts trace M earlier past) ++ t) (cycle_text trace r None)
    ∙ sym (flat_map-append part_text (cycle_parts trace M earlier past) (cycle_part trace r ∷ []))

last_spelled : (cycles : ℕ) (stop : Option StopValue) →
    line_spelling (last_line_told cycles stop) ≡ last_line cycles stop
last_spelled cycles None = refl
last_spelled cycles (Some s) = refl

-- the same, where the words of an actuator follow
pub acted_text : (trace : Bool) (M : MissionValue) (a : ActuatorValue) (F : Log) (histories : Histories) (past : Past) →
    spelled (flat_map cycle_lines (cycles_as_told (words_of (Some a) M F) trace M histories past))
    ≡ text_of_parts (acted_parts trace M a F histories past)
acted_text trace M a F histories [] = refl
acted_text trace M a F histories (e ∷ past) =
    let earlier : Histories = earlier_steps histories in
    let r : RecordValue = cycle_record M (latest_steps histories) (length past) e in
    let words : List ℤ = words_after M a F (suc (length past)) in
    let told : List CycleTold = cycles_as_told (words_of (Some a) M F) trace M earlier past in
    let now : CycleTold = record { record_told = told_record trace r; words = Some words } in
    let before : TextValue = text_of_parts (acted_parts trace M a F earlier past) in
    ap spelled (flat_map-append cycle_lines told (now ∷ []))
    ∙ flat_map-append line_spelling (flat_map cycle_lines told) (cycle_lines now ++ [])
    ∙ ap (λ t. t ++ spelled (cycle_lines now ++ [])) (acted_text trace M a F earlier past)
    ∙ ap (λ (ls : List ReportLine). before ++ spelled ls) (append-nil (cycle_lines now))
    ∙ ap (λ t. before ++ t) (cycle_text trace r (Some words)
    ∙ sym (flat_map-append (λ (line : TextValue). line) (cycle_part trace r) (out_line words ∷ [])))
    ∙ ap (λ t. before ++ t) (sym (append-nil (part_text (cycle_part trace r ++ out_line words ∷ []))))
    ∙ sym (flat_map-append part_text (acted_parts trace M a F earlier past)
    ((cycle_part trace r ++ out_line words ∷ []) ∷ []))

-- the whole text, where that of the cycles is known
pub run_text_is : (words : ℕ → Option (List ℤ)) (trace : Bool) (M : MissionValue) (histories : Histories) (past : Past)
    (stop : Option StopValue) (cycles : TextValue) →
    spelled (flat_map cycle_lines (cycles_as_told words trace M histories past)) ≡ cycles →
    text_of_report (run_told words trace M histories past stop)
    ≡ (head_line M.rules.channels M.cycles ++ cycles) ++ last_line M.cycles stop
run_text_is words trace M histories past stop cycles is =
    let head : TextValue = head_line M.rules.channels M.cycles in
    let lines : List ReportLine = flat_map cycle_lines (cycles_as_told words trace M histories past) in
    ap (λ t. head ++ t)
    (flat_map-append line_spelling lines (last_line_told M.cycles stop ∷ [])
    ∙ ap (λ t. t ++ (line_spelling (last_line_told M.cycles stop) ++ [])) is
    ∙ ap (λ t. cycles ++ t) (append-nil (line_spelling (last_line_told M.cycles stop)) ∙ last_spelled M.cycles stop))
    ∙ sym (append_assoc head cycles (last_line M.cycles stop))
