-- A report is read from its text, and from no other.
use Rattle.std.proofs.Common.{◌≡◌, ℕ, Bool, true, false, cond, ◌&&◌, ℤ, List, [], ◌∷◌, ◌++◌, map, Option, None, Some, refl, sym, ap, ◌∙◌, append_assoc}
use Rattle.std.specs.Prelude.{flat_map, filter_map}
use Rattle.std.specs.List.{list_all}
use Rattle.std.specs.Str.{bytes_eq}
use Rattle.std.proofs.lemmas.Slice.Eq.{bytes_eq-Decides}
use Rattle.guards_model.specs.Texts.{TextValue, LineValue, TraceValue, RecordValue, StopValue}
use Rattle.guards_audit.specs.Lines.{ReportLine, head_told, cycle_told, channel_told, steps_told, end_told, out_told, done_told, stop_told, opened_record, closed_record, is_form, lines_in}
use Rattle.guards_audit.specs.Reading.{line_read}
use Rattle.guards_audit.specs.Reports.{CycleTold, ReportValue, words_lines, record_lines, cycle_lines, last_line_told, lines_of, text_of_report, onto_cycle, cycles_in, stop_among, told_by, if_its_text, report_of}
use Rattle.guards_model.proofs.BoolTests.{both, and_true}
use Rattle.guards_model.proofs.ListTests.{all-append, all-map, all-flat_map}
use Rattle.guards_audit.proofs.LinesBack.{text_back}

-- ---- the cycles of a report's lines

-- a cycle of which the lines from some line of a channel's steps on are told
abbrev pub from_steps : CycleTold → List TraceValue → CycleTold
from_steps t traces = record {
  record_told =
      record (closed_record (opened_record 0 [] None) t.record_told.removed t.record_told.joined
      t.record_told.remaining) { traces = traces };
  words = t.words;
}

abbrev pub from_lines : CycleTold → List LineValue → CycleTold
from_lines t lines = record (from_steps t t.record_told.traces) {
  record_told =
      record (from_steps t t.record_told.traces).record_told { lines = lines };
}

-- the lines do not begin with an actuator's words
abbrev pub Begins : List ReportLine → Type 0
Begins (out_told words ∷ lines) = ⊥
Begins _ = Unit {0}

end_back : (t : CycleTold) (more : List ReportLine) → Begins more →
    cycles_in (end_told t.record_told.removed t.record_told.joined t.record_told.remaining
    ∷ (words_lines t.words ++ more)) ≡ from_steps t [] ∷ cycles_in more
end_back t more h = by_words t.words more h
  where
    by_words : (o : Option (List ℤ)) (more : List ReportLine) → Begins more →
        cycles_in (end_told t.record_told.removed t.record_told.joined t.record_told.remaining
        ∷ (words_lines o ++ more))
        ≡ record {
          record_told = closed_record (opened_record 0 [] None) t.record_told.removed t.record_told.joined
              t.record_told.remaining;
          words = o;
        } ∷ cycles_in more
    by_words (Some words) more h = refl
    by_words None [] h = refl
    by_words None (head_told n m ∷ more) h = refl
    by_words None (cycle_told c active transfer ∷ more) h = refl
    by_words None (channel_told l ∷ more) h = refl
    by_words None (steps_told s ∷ more) h = refl
    by_words None (end_told removed joined remaining ∷ more) h = refl
    by_words None (out_told words ∷ more) h = absurd h
    by_words None (done_told n ∷ more) h = refl
    by_words None (stop_told s ∷ more) h = refl

steps_onto : (t : CycleTold) (traces : List TraceValue) (rest : List ReportLine) (more : List CycleTold) →
    cycles_in rest ≡ from_steps t [] ∷ more →
    cycles_in (map steps_told traces ++ rest) ≡ from_steps t traces ∷ more
steps_onto t [] rest more h = h
steps_onto t (s ∷ traces) rest more h =
    ap (onto_cycle (λ r. record r { traces = s ∷ r.traces })) (steps_onto t traces rest more h)

lines_onto : (t : CycleTold) (ls : List LineValue) (rest : List ReportLine) (more : List CycleTold) →
    cycles_in rest ≡ from_steps t t.record_told.traces ∷ more →
    cycles_in (map channel_told ls ++ rest) ≡ from_lines t ls ∷ more
lines_onto t [] rest more h = h
lines_onto t (l ∷ ls) rest more h =
    ap (onto_cycle (λ r. record r { lines = l ∷ r.lines })) (lines_onto t ls rest more h)

one_cycle : (t : CycleTold) (rest : List ReportLine) → Begins rest →
    cycles_in (record_lines t.record_told (words_lines t.words ++ rest)) ≡ t ∷ cycles_in rest
one_cycle t rest h =
    let r : RecordValue = t.record_told in
    let end : List ReportLine = end_told r.removed r.joined r.remaining ∷ (words_lines t.words ++ rest) in
    ap (onto_cycle (λ (x : RecordValue). record x { cycle = r.cycle; active = r.active; transfer = r.transfer }))
    (lines_onto t r.lines (map steps_told r.traces ++ end) (cycles_in rest)
    (steps_onto t r.traces end (cycles_in rest) (end_back t rest h)))

more_lines : (r : RecordValue) (more rest : List ReportLine) →
    record_lines r more ++ rest ≡ record_lines r (more ++ rest)
more_lines r more rest =
    ap (λ ls. cycle_told r.cycle r.active r.transfer ∷ ls)
    (append_assoc (map channel_told r.lines) (map steps_told r.traces ++ end_told r.removed r.joined r.remaining ∷ more)
    rest
    ∙ ap (λ ls. map channel_told r.lines ++ ls)
    (append_assoc (map steps_told r.traces) (end_told r.removed r.joined r.remaining ∷ more) rest))

last_begins : (cycles : ℕ) (stop : Option StopValue) → Begins (last_line_told cycles stop ∷ [])
last_begins cycles None = tt
last_begins cycles (Some s) = tt

cycles_begin : (told : List CycleTold) (cycles : ℕ) (stop : Option StopValue) →
    Begins (flat_map cycle_lines told ++ last_line_told cycles stop ∷ [])
cycles_begin [] cycles stop = last_begins cycles stop
cycles_begin (t ∷ told) cycles stop = tt

last_none : (cycles : ℕ) (stop : Option StopValue) → cycles_in (last_line_told cycles stop ∷ []) ≡ []
last_none cycles None = refl
last_none cycles (Some s) = refl

all_cycles : (told : List CycleTold) (cycles : ℕ) (stop : Option StopValue) →
    cycles_in (flat_map cycle_lines told ++ last_line_told cycles stop ∷ []) ≡ told
all_cycles [] cycles stop = last_none cycles stop
all_cycles (t ∷ told) cycles stop =
    let rest : List ReportLine = flat_map cycle_lines told ++ last_line_told cycles stop ∷ [] in
    ap cycles_in (append_assoc (cycle_lines t) (flat_map cycle_lines told) (last_line_told cycles stop ∷ [])
    ∙ more_lines t.record_told (words_lines t.words) rest)
    ∙ one_cycle t rest (cycles_begin told cycles stop)
    ∙ ap (λ ts. t ∷ ts) (all_cycles told cycles stop)

-- ---- the stop

abbrev pub is_inner : ReportLine → Bool
is_inner (stop_told s) = false
is_inner _ = true

skip : (ls rest : List ReportLine) → list_all is_inner ls ≡ true → stop_among (ls ++ rest) ≡ stop_among rest
skip [] rest h = refl
skip (head_told n m ∷ ls) rest h = skip ls rest h
skip (cycle_told c active transfer ∷ ls) rest h = skip ls rest h
skip (channel_told l ∷ ls) rest h = skip ls rest h
skip (steps_told s ∷ ls) rest h = skip ls rest h
skip (end_told removed joined remaining ∷ ls) rest h = skip ls rest h
skip (out_told words ∷ ls) rest h = skip ls rest h
skip (done_told n ∷ ls) rest h = skip ls rest h
skip (stop_told s ∷ ls) rest h = absurd cc

words_inner : (o : Option (List ℤ)) → list_all is_inner (words_lines o) ≡ true
words_inner None = refl
words_inner (Some words) = refl

cycle_inner : (t : CycleTold) → list_all is_inner (cycle_lines t) ≡ true
cycle_inner t =
    let r : RecordValue = t.record_told in
    all-append is_inner (map channel_told r.lines)
    (map steps_told r.traces ++ end_told r.removed r.joined r.remaining ∷ words_lines t.words)
    (all-map is_inner channel_told r.lines (λ l. refl))
    (all-append is_inner (map steps_told r.traces) (end_told r.removed r.joined r.remaining ∷ words_lines t.words)
    (all-map is_inner steps_told r.traces (λ s. refl)) (words_inner t.words))

last_stop : (cycles : ℕ) (stop : Option StopValue) → stop_among (last_line_told cycles stop ∷ []) ≡ stop
last_stop cycles None = refl
last_stop cycles (Some s) = refl

the_stop : (told : List CycleTold) (cycles : ℕ) (stop : Option StopValue) →
    stop_among (flat_map cycle_lines told ++ last_line_told cycles stop ∷ []) ≡ stop
the_stop told cycles stop =
    skip (flat_map cycle_lines told) (last_line_told cycles stop ∷ [])
    (all-flat_map is_inner cycle_lines told cycle_inner) ∙ last_stop cycles stop

-- ---- the report

told_back : (r : ReportValue) → told_by (lines_of r) ≡ Some r
told_back r =
    let told = all_cycles r.told r.cycles r.stop in
    let stop = the_stop r.told r.cycles r.stop in
    λ i. Some (record { channels = r.channels; cycles = r.cycles; told = told i; stop = stop i })

those_there : (lines : List ReportLine) →
    filter_map (λ (line : Option ReportLine). line) (map (λ line. Some line) lines) ≡ lines
those_there [] = refl
those_there (line ∷ lines) = ap (λ ls. line ∷ ls) (those_there lines)

same_text : (text : TextValue) → bytes_eq text text ≡ true
same_text text = (bytes_eq-Decides text text).1 refl

pub report_back : (r : ReportValue) → list_all is_form (lines_of r) ≡ true → report_of (text_of_report r) ≡ Some r
unfolding report_of
report_back r h =
    ap (λ ls. if_its_text (text_of_report r) (told_by (filter_map (λ line. line) ls))) (text_back (lines_of r) h)
    ∙ ap (λ ls. if_its_text (text_of_report r) (told_by ls)) (those_there (lines_of r))
    ∙ ap (if_its_text (text_of_report r)) (told_back r)
    ∙ ap (λ b. cond b (Some r) None)
    (and_true (list_all is_form (lines_of r)) (bytes_eq (text_of_report r) (text_of_report r)) h
    (same_text (text_of_report r)))

read_by : (text : TextValue) (r got : ReportValue) (b : Bool) →
    (list_all is_form (lines_of r) && bytes_eq text (text_of_report r)) ≡ b → cond b (Some r) None ≡ Some got →
    (text ≡ text_of_report got) × (list_all is_form (lines_of got) ≡ true)
read_by text r got true e h =
    let parts = both (list_all is_form (lines_of r)) (bytes_eq text (text_of_report r)) e in
    let same : r ≡ got = the_same r h in (
      (bytes_eq-Decides text (text_of_report r)).0 parts.1 ∙ ap text_of_report same,
      sym (ap (λ x. list_all is_form (lines_of x)) same) ∙ parts.0,
    )
  where
    the_same : (x : ReportValue) → Some x ≡ Some got → x ≡ got
    the_same x h = cc
read_by text r got false e h = absurd (none h)
  where
    none : None ≡ Some got → ⊥
    none k = cc

found : (text : TextValue) (o : Option ReportValue) (got : ReportValue) → if_its_text text o ≡ Some got →
    (text ≡ text_of_report got) × (list_all is_form (lines_of got) ≡ true)
found text None got h = absurd (none h)
  where
    none : None ≡ Some got → ⊥
    none k = cc
found text (Some r) got h =
    read_by text r got (list_all is_form (lines_of r) && bytes_eq text (text_of_report r)) refl h

pub report_is : (text : TextValue) (r : ReportValue) → report_of text ≡ Some r →
    (text ≡ text_of_report r) × (list_all is_form (lines_of r) ≡ true)
unfolding report_of
report_is text r h = found text (told_by (filter_map (λ line. line) (map line_read (lines_in text)))) r h
