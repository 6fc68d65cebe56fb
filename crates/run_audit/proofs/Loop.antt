-- What comes of the lines that are left, at a place.
use Rattle.std.proofs.Common.{eq-eqb, eqb-true, ◌==◌, ◌^◌, not, map, ℤ, pos, ◌≡◌, ℕ, suc, ◌+◌, ◌≤◌, Bool, true, false, cond, ◌&&◌, List, [], ◌∷◌, length, Option, None, Some, refl, sym, ap, subst, ◌∙◌, arith}
use Rattle.std.specs.Prelude.{int_le, option_and_then, IsTrue, nat_lt, nat_le, slice_get, unwrap_or}
use Rattle.std.specs.Ordering.{int_eq}
use Rattle.std.specs.List.{list_all}
use Rattle.std.specs.Str.{bytes_eq}
use Rattle.std.specs.Cmp.Lexicographic.{pointwise}
use Rattle.std.proofs.lemmas.Bool.{le-leb, leb-true}
use Rattle.std.proofs.lemmas.List.{length-map}
use Rattle.std.proofs.lemmas.List.Sums.{length-filter, count_by-le-length}
use Rattle.std.proofs.lemmas.List.FromFn.{length-range_with_len}
use Rattle.guards_model.specs.Channels.{numbers_below}
use Rattle.guards_model.specs.Decisions.{joined_of}
use Rattle.guards_model.specs.Transfers.{TransferValue, remains}
use Rattle.guards_model.specs.Words.{is_word}
use Rattle.guards_model.proofs.BoolTests.{both, and_true}
use Rattle.guards_model.specs.Missions.{MissionValue, ActuatorValue, IsMission, is_actuator, written_blocks, within, is_law}
use Rattle.guards_model.specs.Texts.{TextValue, LineValue, RecordValue}
use Rattle.guards_audit.specs.Lines.{ReportLine, head_told, cycle_told, channel_told, steps_told, end_told, out_told, done_told, stop_told, is_empty, if_there, lines_in}
use Rattle.guards_audit.specs.Told.{Told, next_cycle_number, blank_line, plan_told, remaining_told, number_remaining, rest_told, swept_told, words_told}
use Rattle.guards_audit.specs.Tests.{are_same_words, same_vote, same_votes, same_number, says_same, first_fits, says_fit, comes_next, all_traced, removed_fits, words_fit}
use Rattle.guards_audit.specs.Consistency.{Place, at_head, between, amid, awaits_out, at_end, suits_place, following_place, IsConsistent, IsFirstBad}
use Rattle.guards_audit.specs.Reading.{line_read}
use Rattle.guards_audit.specs.Verdicts.{place_by, place_after, is_at_end, or_on, first_bad_from, first_bad}
use Rattle.guards_audit.proofs.Judging.{consistent_is, first_bad_is}
use Rattle.told_cycles.specs.declared.auditor.Auditor.{Auditor}
use Rattle.run_audit.specs.declared.line.Sizes.{Sizes}
use Rattle.run_audit.specs.declared.line.Line.{Line}
use Rattle.run_audit.specs.Values.{has_sizes, sizes_of, line_value, Reads}
use Rattle.told_cycles.specs.Standing.{HasSizes, StandsAt, Takes}
use Rattle.told_cycles.proofs.ChannelLemmas.{first_facts}

-- ---- sizes

pub blocks_few : (M : MissionValue) → IsMission M → M.rules.blocks ≤ 256
blocks_few M mission =
    let r = M.rules in
    let outer = both ((within 3 7 r.channels && within 1 256 r.blocks)
    && (within 0 65536 r.keep && within 65536 6553600 r.threshold))
    ((within 1 64 r.sweep && within 0 64 r.last)
    && ((within 1 2 r.version && is_law r.version r.law)
    && (within 0 6553600 r.decrement && within 1 2 r.returning))) mission.rules in
    let inner = both (within 3 7 r.channels && within 1 256 r.blocks)
    (within 0 65536 r.keep && within 65536 6553600 r.threshold) outer.0 in
    let sizes = both (within 3 7 r.channels) (within 1 256 r.blocks) inner.0 in
    leb-true r.blocks 256 (both (nat_le 1 r.blocks) (nat_le r.blocks 256) sizes.1).1

all_sizes : (M : MissionValue) (l : LineValue) → HasSizes M l → has_sizes (sizes_of M) (channel_told l) ≡ true
all_sizes M l h =
    and_true (length l.inputs == M.width && length l.votes == length M.outputs) (length l.counts == M.rules.channels)
    (and_true (length l.inputs == M.width) (length l.votes == length M.outputs)
    (eq-eqb (length l.inputs) M.width h.inputs) (eq-eqb (length l.votes) (length M.outputs) h.votes))
    (eq-eqb (length l.counts) M.rules.channels h.counts)

same_length : {A : Type 0} (same : A → A → Bool) (xs ys : List A) → pointwise same xs ys ≡ true → length xs ≡ length ys
same_length same [] [] h = refl
same_length same [] (y ∷ ys) h = absurd cc
same_length same (x ∷ xs) [] h = absurd cc
same_length same (x ∷ xs) (y ∷ ys) h = ap suc (same_length same xs ys (both (same x y) (pointwise same xs ys) h).1)

later_sizes : (M : MissionValue) (l first : LineValue) → says_same l first ≡ true → HasSizes M first →
    has_sizes (sizes_of M) (channel_told l) ≡ true
later_sizes M l first h s =
    let a = both (are_same_words l.inputs first.inputs && same_votes l.votes first.votes)
    (bytes_eq l.judged first.judged && bytes_eq l.counts first.counts) h in
    let b = both (are_same_words l.inputs first.inputs) (same_votes l.votes first.votes) a.0 in
    let d = both (bytes_eq l.judged first.judged) (bytes_eq l.counts first.counts) a.1 in
    all_sizes M l (record {
      inputs = same_length int_eq l.inputs first.inputs b.0 ∙ s.inputs;
      votes = same_length same_vote l.votes first.votes b.1 ∙ s.votes;
      counts = same_length (λ x y. x == y) l.counts first.counts d.1 ∙ s.counts;
    })

says_sizes : (M : MissionValue) (told : Told) (r : RecordValue) (l : LineValue) (lines : List LineValue) →
    M.rules.channels ≤ 7 →
    ((f : LineValue) → slice_get lines 0 ≡ Some f → HasSizes M f) →
    cond (is_empty lines) (first_fits M told r l) (says_same l (unwrap_or (slice_get lines 0) blank_line)) ≡ true →
    has_sizes (sizes_of M) (channel_told l) ≡ true
says_sizes M told r l [] few sized h = all_sizes M l (first_facts M told r l few h).0
says_sizes M told r l (f ∷ lines) few sized h = later_sizes M l f h (sized f refl)

rest_sizes : (M : MissionValue) (told : Told) (t : Option TransferValue) (n : Option ℕ) → M.rules.blocks ≤ 256 →
    same_number n (number_remaining M told t) ≡ true → if_there (λ k. nat_lt k (2 ^ 16)) n ≡ true
rest_sizes M told t None few h = refl
rest_sizes M told None (Some n) few h = absurd cc
rest_sizes M told (Some t) (Some n) few h =
    le-leb (suc n) (2 ^ 16)
    (omega (
      arith,
      eqb-true n (length (remaining_told M told t)) h,
      length-filter (remains (record {
        planned = plan_told M told (Some t);
        written = written_blocks M (next_cycle_number told);
      } ∷ swept_told M t.start told))
          (numbers_below M.rules.blocks),
      count_by-le-length (remains
          (record { planned = plan_told M told (Some t); written = written_blocks M (next_cycle_number told) }
          ∷ swept_told M t.start told)) (numbers_below M.rules.blocks),
      length-range_with_len 0 M.rules.blocks,
      few,
    ))

-- the words of an actuator are as many as the outputs
words_long : (a : ActuatorValue) (told : Told) → length (words_told a told) ≡ length a.start
words_long a [] = refl
words_long a (r ∷ told) =
    length-map (numbers_below (length (words_told a told))) _ ∙ length-range_with_len 0 (length (words_told a told))
    ∙ words_long a told

out_size : (M : MissionValue) (told : Told) (words : List ℤ) → IsMission M → words_fit M.actuator told words ≡ true →
    length words ≡ length M.outputs
out_size M told words mission k = by_actuator M.actuator mission.actuator k
  where
    by_actuator : (o : Option ActuatorValue) → is_actuator (length M.outputs) o ≡ true → words_fit o told words ≡ true →
        length words ≡ length M.outputs
    by_actuator None h j = absurd cc
    by_actuator (Some a) h j =
        same_length int_eq words (words_told a told) j ∙ words_long a told
        ∙ eqb-true (length a.start) (length M.outputs)
        (both (length a.start == length M.outputs) (list_all is_word a.start)
        (both (length a.steps == length M.outputs && list_all (λ step. is_word step && int_le (pos 0) step) a.steps)
        (length a.start == length M.outputs && list_all is_word a.start) h).1).0

-- a line that suits a place has the mission's sizes
pub sizes_suit : (M : MissionValue) (at : Place) (a : Auditor) (line : ReportLine) → M.rules.channels ≤ 7 →
    IsMission M → StandsAt M at a → suits_place M at line ≡ true → has_sizes (sizes_of M) line ≡ true
sizes_suit M at a (cycle_told c active transfer) few mission h k = refl
sizes_suit M at a (steps_told t) few mission h k = refl
sizes_suit M at a (done_told n) few mission h k = refl
sizes_suit M at_head a (head_told n m) few mission h k =
    le-leb (suc n) (2 ^ 8) (omega
    (arith, eqb-true n M.rules.channels (both (n == M.rules.channels) (m == M.cycles) k).0, few))
sizes_suit M (between told) a (head_told n m) few mission h k = absurd cc
sizes_suit M (amid told r) a (head_told n m) few mission h k = absurd cc
sizes_suit M (awaits_out told) a (head_told n m) few mission h k = absurd cc
sizes_suit M at_end a (head_told n m) few mission h k = absurd cc
sizes_suit M at_head a (channel_told l) few mission h k = absurd cc
sizes_suit M (between told) a (channel_told l) few mission h k = absurd cc
sizes_suit M (amid told r) a (channel_told l) few mission h k =
    says_sizes M told r l r.lines few h.1.part.sized
    (both (is_empty r.traces && comes_next r.active (map (λ (x : LineValue). x.channel) r.lines) l.channel)
    (says_fit M told r l) k).1
sizes_suit M (awaits_out told) a (channel_told l) few mission h k = absurd cc
sizes_suit M at_end a (channel_told l) few mission h k = absurd cc
sizes_suit M at_head a (end_told removed joined n) few mission h k = absurd cc
sizes_suit M (between told) a (end_told removed joined n) few mission h k = absurd cc
sizes_suit M (amid told r) a (end_told removed joined n) few mission h k =
    rest_sizes M told r.transfer n (blocks_few M mission)
    (both (same_number n (number_remaining M told r.transfer))
    (bytes_eq joined (joined_of M.rules.last r.transfer (rest_told M told r.transfer)))
    (both ((not (is_empty r.lines) && all_traced r) && removed_fits M r removed) _ k).1).0
sizes_suit M (awaits_out told) a (end_told removed joined n) few mission h k = absurd cc
sizes_suit M at_end a (end_told removed joined n) few mission h k = absurd cc
sizes_suit M at_head a (out_told words) few mission h k = absurd cc
sizes_suit M (between told) a (out_told words) few mission h k = absurd cc
sizes_suit M (amid told r) a (out_told words) few mission h k = absurd cc
sizes_suit M (awaits_out told) a (out_told words) few mission h k =
    eq-eqb (length words) (length M.outputs) (out_size M told words mission k)
sizes_suit M at_end a (out_told words) few mission h k = absurd cc
sizes_suit M at_head a (stop_told stop) few mission h k = absurd cc
sizes_suit M (between told) a (stop_told stop) few mission h k = absurd cc
sizes_suit M (amid told r) a (stop_told stop) few mission h k = absurd cc
sizes_suit M (awaits_out told) a (stop_told stop) few mission h k = absurd cc
sizes_suit M at_end a (stop_told stop) few mission h k = absurd cc

-- ---- one line

unsuited_by : (M : MissionValue) (at : Place) (line : ReportLine) (b : Bool) → suits_place M at line ≡ b →
    (b ≡ true → ⊥) → cond b (Some (following_place M at line)) None ≡ None
unsuited_by M at line true e h = absurd (h refl)
unsuited_by M at line false e h = refl

none_by : (M : MissionValue) (at : Place) (a : Auditor) (text : TextValue) (o : Option ReportLine) →
    M.rules.channels ≤ 7 → IsMission M → line_read text ≡ o → StandsAt M at a →
    ((line : ReportLine) → line_read text ≡ Some line → has_sizes (sizes_of M) line ≡ false) →
    option_and_then (place_by M at) o ≡ None
none_by M at a text None few mission e stands h = refl
none_by M at a text (Some line) few mission e stands h =
    unsuited_by M at line (suits_place M at line) refl
    (λ k. differ (sym (sizes_suit M at a line few mission stands k) ∙ h line e))
  where
    differ : true ≡ false → ⊥
    differ k = cc

-- a text that is read as no line does not go on
pub unread : (M : MissionValue) (at : Place) (a : Auditor) (text : TextValue) → M.rules.channels ≤ 7 → IsMission M →
    StandsAt M at a → ((line : ReportLine) → line_read text ≡ Some line → has_sizes (sizes_of M) line ≡ false) →
    place_after M at text ≡ None
unfolding place_after
unread M at a text few mission stands h = none_by M at a text (line_read text) few mission refl stands h

-- nor one that does not suit
pub unsuited : (M : MissionValue) (at : Place) (text : TextValue) (line : ReportLine) → line_read text ≡ Some line →
    suits_place M at line ≡ false → place_after M at text ≡ None
unfolding place_after
unsuited M at text line h k =
    ap (option_and_then (place_by M at)) h ∙ ap (λ b. cond b (Some (following_place M at line)) None) k

pub suited : (M : MissionValue) (at : Place) (text : TextValue) (line : ReportLine) → line_read text ≡ Some line →
    suits_place M at line ≡ true → place_after M at text ≡ Some (following_place M at line)
unfolding place_after
suited M at text line h k =
    ap (option_and_then (place_by M at)) h ∙ ap (λ b. cond b (Some (following_place M at line)) None) k

-- ---- the lines

module _ (M : MissionValue) (trace rest : TextValue) (k : ℕ) (at : Place)
    (so_far : first_bad_from M k at (lines_in rest) ≡ first_bad M trace) where
  pub stops_here : (now more : TextValue) → lines_in rest ≡ now ∷ lines_in more → place_after M at now ≡ None →
      IsFirstBad M trace k
  stops_here now more cut h =
      first_bad_is M trace k (sym so_far ∙ ap (first_bad_from M k at) cut
      ∙ ap (λ o. or_on k o (λ next. first_bad_from M (suc k) next (lines_in more))) h)

  pub goes_on : (now more : TextValue) (next : Place) → lines_in rest ≡ now ∷ lines_in more →
      place_after M at now ≡ Some next → first_bad_from M (k + 1) next (lines_in more) ≡ first_bad M trace
  goes_on now more next cut h =
      let e : k + 1 ≡ suc k = omega arith in
      ap (λ j. first_bad_from M j next (lines_in more)) e
      ∙ sym (ap (λ o. or_on k o (λ n. first_bad_from M (suc k) n (lines_in more))) h)
      ∙ sym (ap (first_bad_from M k at) cut) ∙ so_far

  pub over : lines_in rest ≡ [] → is_at_end at ≡ true → IsConsistent M trace
  over none h = consistent_is M trace (sym so_far ∙ ap (first_bad_from M k at) none ∙ ap (λ b. cond b None (Some k)) h)

  pub early : lines_in rest ≡ [] → is_at_end at ≡ false → IsFirstBad M trace k
  early none h = first_bad_is M trace k
      (sym so_far ∙ ap (first_bad_from M k at) none ∙ ap (λ b. cond b None (Some k)) h)

pub begins : (M : MissionValue) (trace : TextValue) → first_bad_from M 1 at_head (lines_in trace) ≡ first_bad M trace
unfolding first_bad
begins M trace = refl

-- ---- what the calls answer

pub reads_none : (s t : Sizes) (text now : TextValue) (o : Option Line) → Reads s now o → o ≡ None → s ≡ t →
    now ≡ text → (line : ReportLine) → line_read text ≡ Some line → has_sizes t line ≡ false
reads_none s t text now None h e same is line k =
    subst (λ (x : Sizes). has_sizes x line ≡ false) same (h line (ap line_read is ∙ k))
reads_none s t text now (Some x) h e same is line k = absurd (other e)
  where
    other : Some x ≡ None → ⊥
    other q = cc

pub reads_some : (s t : Sizes) (text now : TextValue) (o : Option Line) (l : Line) → Reads s now o → o ≡ Some l →
    s ≡ t → now ≡ text → line_read text ≡ Some (line_value t l)
reads_some s t text now None l h e same is = absurd (other e)
  where
    other : None ≡ Some l → ⊥
    other q = cc
reads_some s t text now (Some x) l h e same is =
    let alike : x ≡ l = the_same x e in
    ap line_read (sym is) ∙ h ∙ (λ i. Some (line_value (same i) (alike i)))
  where
    the_same : (y : Line) → Some y ≡ Some l → y ≡ l
    the_same y q = cc

pub not_taken : (M : MissionValue) (at : Place) (line : ReportLine) (a : Auditor) (b : Bool) → Takes M at line a b →
    b ≡ false → suits_place M at line ≡ false
not_taken M at line a false h e = h
not_taken M at line a true h e = absurd (other e)
  where
    other : true ≡ false → ⊥
    other q = cc

pub taken : (M : MissionValue) (at : Place) (line : ReportLine) (a : Auditor) (b : Bool) → Takes M at line a b →
    b ≡ true → IsTrue (suits_place M at line) × StandsAt M (following_place M at line) a
taken M at line a true h e = h
taken M at line a false h e = absurd (other e)
  where
    other : false ≡ true → ⊥
    other q = cc

pub no_lines : (text : TextValue) → length text ≡ 0 → lines_in text ≡ []
no_lines [] h = refl
no_lines (b ∷ text) h = absurd (omega (arith, h))
