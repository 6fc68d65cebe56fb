-- The verdict that is computed line by line is that of the definition.
use Rattle.std.proofs.Common.{◌≡◌, ℕ, suc, ◌+◌, Bool, true, false, cond, List, [], ◌∷◌, ◌++◌, length, Option, None, Some, refl, sym, ap, subst, ◌∙◌, arith}
use Rattle.std.specs.Prelude.{option_and_then, IsTrue}
use Rattle.guards_model.specs.Missions.{MissionValue}
use Rattle.guards_model.specs.Texts.{TextValue}
use Rattle.guards_audit.specs.Lines.{ReportLine, line_spelling, is_form, lines_in}
use Rattle.guards_audit.specs.Consistency.{Place, at_head, between, amid, awaits_out, at_end, suits_place, fits, following_place, IsGood, AreGood, IsConsistent, TraceBreaksOff, IsFirstBad}
use Rattle.guards_audit.specs.Reading.{line_read}
use Rattle.guards_audit.specs.Verdicts.{place_by, place_after, is_at_end, or_on, first_bad_from, first_bad}
use Rattle.guards_model.proofs.BoolTests.{both, and_true}
use Rattle.guards_audit.proofs.LinesBack.{line_back, line_is}

-- ---- one line

-- a line that is good, and the place after it
record GoesTo (M : MissionValue) (place : Place) (text : TextValue) (next : Place) : Type 0 where
  line : ReportLine
  spelled : text ≡ line_spelling line
  fitting : IsTrue (fits M place line)
  goes : following_place M place line ≡ next

suiting : (M : MissionValue) (place next : Place) (text : TextValue) (line : ReportLine) (b : Bool) →
    suits_place M place line ≡ b → (text ≡ line_spelling line) × (is_form line ≡ true) →
    cond b (Some (following_place M place line)) None ≡ Some next → GoesTo M place text next
suiting M place next text line true e is h =
    record {
      line = line;
      spelled = is.0;
      fitting = and_true (is_form line) (suits_place M place line) is.1 e;
      goes = the_same (following_place M place line) h;
    }
  where
    the_same : (p : Place) → Some p ≡ Some next → p ≡ next
    the_same p k = cc
suiting M place next text line false e is h = absurd (none h)
  where
    none : None ≡ Some next → ⊥
    none k = cc

going : (M : MissionValue) (place next : Place) (text : TextValue) (o : Option ReportLine) → line_read text ≡ o →
    option_and_then (place_by M place) o ≡ Some next → GoesTo M place text next
going M place next text None e h = absurd (none h)
  where
    none : None ≡ Some next → ⊥
    none k = cc
going M place next text (Some line) e h =
    suiting M place next text line (suits_place M place line) refl (line_is text line e) h

goes_to : (M : MissionValue) (place next : Place) (text : TextValue) → place_after M place text ≡ Some next →
    GoesTo M place text next
unfolding place_after
goes_to M place next text h = going M place next text (line_read text) refl h

-- a line that is good goes on
good_goes : (M : MissionValue) (place : Place) (text : TextValue) (line : ReportLine) → text ≡ line_spelling line →
    IsTrue (fits M place line) → place_after M place text ≡ Some (following_place M place line)
unfolding place_after
good_goes M place text line h k =
    let parts = both (is_form line) (suits_place M place line) k in
    ap (λ t. option_and_then (place_by M place) (line_read t)) h
    ∙ ap (option_and_then (place_by M place)) (line_back line parts.0)
    ∙ ap (λ b. cond b (Some (following_place M place line)) None) parts.1

not_good : (M : MissionValue) (place : Place) (text : TextValue) → place_after M place text ≡ None →
    IsGood M place text → ⊥
not_good M place text h good = none (sym (good_goes M place text good.0 good.1 good.2) ∙ h)
  where
    none : Some (following_place M place good.0) ≡ None → ⊥
    none k = cc

-- ---- all lines

at_end_is : (place : Place) (k : ℕ) → cond (is_at_end place) None (Some k) ≡ None → place ≡ at_end
at_end_is at_head k h = absurd cc
at_end_is (between told) k h = absurd cc
at_end_is (amid told r) k h = absurd cc
at_end_is (awaits_out told) k h = absurd cc
at_end_is at_end k h = refl

early_is : (place : Place) (k n : ℕ) → cond (is_at_end place) None (Some k) ≡ Some n → (place ≡ at_end → ⊥) × (n ≡ k)
early_is at_head k n h = (λ e. absurd cc, (cc))
early_is (between told) k n h = (λ e. absurd cc, (cc))
early_is (amid told r) k n h = (λ e. absurd cc, (cc))
early_is (awaits_out told) k n h = (λ e. absurd cc, (cc))
early_is at_end k n h = absurd cc

-- where some lines break off
record BreaksAfter (M : MissionValue) (place : Place) (texts : List TextValue) (k n : ℕ) : Type 0 where
  before : List TextValue
  rest : List TextValue
  last : Place
  lines : texts ≡ before ++ rest
  good : AreGood M place before last
  breaks : TraceBreaksOff M last rest
  counted : n ≡ k + length before

module _ (M : MissionValue) where
  none_by : (k : ℕ) (place : Place) (text : TextValue) (texts : List TextValue) (o : Option Place) →
      place_after M place text ≡ o →
      or_on k o (λ next. first_bad_from M (suc k) next texts) ≡ None →
      ((next : Place) → first_bad_from M (suc k) next texts ≡ None → AreGood M next texts at_end) →
      AreGood M place (text ∷ texts) at_end
  none_by k place text texts None e h more = absurd cc
  none_by k place text texts (Some next) e h more =
      let g = goes_to M place next text e in
      (g.line, g.spelled, g.fitting, subst (λ (p : Place). AreGood M p texts at_end) (sym g.goes) (more next h))

  none_good : (texts : List TextValue) (k : ℕ) (place : Place) → first_bad_from M k place texts ≡ None →
      AreGood M place texts at_end
  none_good [] k place h = at_end_is place k h
  none_good (text ∷ texts) k place h =
      none_by k place text texts (place_after M place text) refl h (none_good texts (suc k))

  some_by : (k n : ℕ) (place : Place) (text : TextValue) (texts : List TextValue) (o : Option Place) →
      place_after M place text ≡ o →
      or_on k o (λ next. first_bad_from M (suc k) next texts) ≡ Some n →
      ((next : Place) → first_bad_from M (suc k) next texts ≡ Some n → BreaksAfter M next texts (suc k) n) →
      BreaksAfter M place (text ∷ texts) k n
  some_by k n place text texts None e h more =
      record {
        before = [];
        rest = text ∷ texts;
        last = place;
        lines = refl;
        good = refl;
        breaks = not_good M place text e;
        counted = the_number k h ∙ omega arith;
      }
    where
      the_number : (j : ℕ) → Some j ≡ Some n → n ≡ j
      the_number j k = cc
  some_by k n place text texts (Some next) e h more =
      let g = goes_to M place next text e in
      let b = more next h in
      record {
        before = text ∷ b.before;
        rest = b.rest;
        last = b.last;
        lines = ap (λ ls. text ∷ ls) b.lines;
        good = (g.line, g.spelled, g.fitting, subst (λ (p : Place). AreGood M p b.before b.last) (sym g.goes) b.good);
        breaks = b.breaks;
        counted = b.counted ∙ omega arith;
      }

  some_breaks : (texts : List TextValue) (k n : ℕ) (place : Place) → first_bad_from M k place texts ≡ Some n →
      BreaksAfter M place texts k n
  some_breaks [] k n place h =
      let e = early_is place k n h in
      record {
        before = [];
        rest = [];
        last = place;
        lines = refl;
        good = refl;
        breaks = e.0;
        counted = e.1 ∙ omega arith;
      }
  some_breaks (text ∷ texts) k n place h =
      some_by k n place text texts (place_after M place text) refl h (some_breaks texts (suc k) n)

  good_none : (texts : List TextValue) (k : ℕ) (place : Place) → AreGood M place texts at_end →
      first_bad_from M k place texts ≡ None
  good_none [] k place h = ap (λ (p : Place). cond (is_at_end p) None (Some k)) h
  good_none (text ∷ texts) k place h =
      ap (λ o. or_on k o (λ next. first_bad_from M (suc k) next texts)) (good_goes M place text h.0 h.1 h.2)
      ∙ good_none texts (suc k) (following_place M place h.0) h.3

  not_at_end : (place : Place) (k : ℕ) → (place ≡ at_end → ⊥) → cond (is_at_end place) None (Some k) ≡ Some k
  not_at_end at_head k h = refl
  not_at_end (between told) k h = refl
  not_at_end (amid told r) k h = refl
  not_at_end (awaits_out told) k h = refl
  not_at_end at_end k h = absurd (h refl)

  stops_by : (k : ℕ) (place : Place) (text : TextValue) (texts : List TextValue) (o : Option Place) →
      place_after M place text ≡ o → (IsGood M place text → ⊥) →
      or_on k o (λ next. first_bad_from M (suc k) next texts) ≡ Some k
  stops_by k place text texts None e h = refl
  stops_by k place text texts (Some next) e h = let g = goes_to M place next text e in
      absurd (h (g.line, g.spelled, g.fitting))

  stops : (rest : List TextValue) (k : ℕ) (place : Place) → TraceBreaksOff M place rest →
      first_bad_from M k place rest ≡ Some k
  stops [] k place h = not_at_end place k h
  stops (text ∷ texts) k place h = stops_by k place text texts (place_after M place text) refl h

  breaks_some : (before rest : List TextValue) (k : ℕ) (place last : Place) → AreGood M place before last →
      TraceBreaksOff M last rest → first_bad_from M k place (before ++ rest) ≡ Some (k + length before)
  breaks_some [] rest k place last good breaks =
      stops rest k place (subst (λ (p : Place). TraceBreaksOff M p rest) (sym good) breaks)
      ∙ ap (λ j. Some j) (omega arith)
  breaks_some (text ∷ before) rest k place last good breaks =
      ap (λ o. or_on k o (λ next. first_bad_from M (suc k) next (before ++ rest)))
      (good_goes M place text good.0 good.1 good.2)
      ∙ breaks_some before rest (suc k) (following_place M place good.0) last good.3 breaks
      ∙ ap (λ j. Some j) (omega arith)

  -- ---- the verdict

  pub consistent_is : (trace : TextValue) → first_bad M trace ≡ None → IsConsistent M trace
  unfolding first_bad
  consistent_is trace h = none_good (lines_in trace) 1 at_head h

  pub is_consistent : (trace : TextValue) → IsConsistent M trace → first_bad M trace ≡ None
  unfolding first_bad
  is_consistent trace h = good_none (lines_in trace) 1 at_head h

  pub first_bad_is : (trace : TextValue) (n : ℕ) → first_bad M trace ≡ Some n → IsFirstBad M trace n
  unfolding first_bad
  first_bad_is trace n h =
      let b = some_breaks (lines_in trace) 1 n at_head h in
      record {
        before = b.before;
        rest = b.rest;
        place = b.last;
        lines = b.lines;
        good = b.good;
        breaks = b.breaks;
        counted = b.counted ∙ omega arith;
      }

  pub is_first_bad : (trace : TextValue) (n : ℕ) → IsFirstBad M trace n → first_bad M trace ≡ Some n
  unfolding first_bad
  is_first_bad trace n b =
      ap (first_bad_from M 1 at_head) b.lines ∙ breaks_some b.before b.rest 1 at_head b.place b.good b.breaks
      ∙ ap (λ j. Some j) (omega (arith, b.counted))
