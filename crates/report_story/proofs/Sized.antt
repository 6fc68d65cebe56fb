-- Which lines are not read, with known sizes and with any.
use Rattle.std.proofs.Common.{◌≡◌, ◌≤◌, ◌<◌, ◌⊎◌, inl, inr, suc, ◌+◌, ◌-◌, ◌*◌, ◌/◌, ◌%◌, ◌==◌, ◌^◌, ℕ, Bool, true, false, cond, not, ◌&&◌, ℤ, List, length, Option, Some, None, refl, sym, ap, ◌∙◌, arith, eqb-true, eq-eqb}
use Rattle.std.specs.Prelude.{nat_le, nat_lt}
use Rattle.std.proofs.lemmas.Bool.{leb-true, le-leb}
use Rattle.std.proofs.Math.Nat.{eq-or-lt_of_le}
use Rattle.guards_model.specs.Missions.{within}
use Rattle.guards_model.specs.Texts.{TextValue, LineValue, StopValue}
use Rattle.guards_model.proofs.BoolTests.{both, and_true, clear, differ, second_false}
use Rattle.guards_audit.specs.Lines.{ReportLine, head_told, cycle_told, channel_told, steps_told, end_told, out_told, done_told, stop_told, if_there}
use Rattle.guards_audit.specs.Reading.{line_read}
use Rattle.run_audit.specs.declared.line.Sizes.{Sizes}
use Rattle.run_audit.specs.declared.line.Line.{Line}
use Rattle.run_audit.specs.Values.{IsInUse, has_sizes, Reads}
use Rattle.report_story.specs.Places.{StoryPlace, suits_story, sizes_fit, line_fits, line_comes_next, story_words_fit, is_story_head, is_story_amid, is_story_ended}
use Rattle.report_story.specs.Sizing.{ReadsAny, ReadsSized, story_sizes_at}
use Rattle.report_story.specs.Answers.{IsPlace, OnlyStops}

-- the number of sizes
number_at : ℕ → ℕ → ℕ
number_at w k = (w - 1) * 8 + (k - 1)

small_number : (w k : ℕ) → 1 ≤ w → w ≤ 4 → 1 ≤ k → k ≤ 8 → number_at w k < 32
unfolding number_at
small_number w k a b c d = omega (arith, a, b, c, d)

width_back : (w k : ℕ) → 1 ≤ w → 1 ≤ k → k ≤ 8 → 1 + number_at w k / 8 ≡ w
unfolding number_at
width_back w k a c d = grind (arith, a, c, d)

outputs_back : (w k : ℕ) → 1 ≤ w → 1 ≤ k → k ≤ 8 → 1 + number_at w k % 8 ≡ k
unfolding number_at
outputs_back w k a c d = grind (arith, a, c, d)

-- ---- with known sizes

sized_line : (p : StoryPlace) (s : Sizes) (l : LineValue) → s.channels ≡ p.channels →
    has_sizes s (channel_told l) ≡ false →
    (sizes_fit (Some s) (length l.inputs) (length l.votes) && length l.counts == p.channels) ≡ false
sized_line p s l same no_size =
    sym (ap (λ n. (length l.inputs == s.width && length l.votes == s.outputs) && length l.counts == n) same) ∙ no_size

-- a line of these channels has the sizes of some number
any_line : (channels : ℕ) (l : LineValue) →
    ((n : ℕ) → n < 32 → has_sizes (story_sizes_at channels n) (channel_told l) ≡ false) →
    (sizes_fit None (length l.inputs) (length l.votes) && length l.counts == channels) ≡ false
any_line channels l none =
    clear (sizes_fit None (length l.inputs) (length l.votes) && length l.counts == channels) found
  where
    found : (sizes_fit None (length l.inputs) (length l.votes) && length l.counts == channels) ≡ true → true ≡ false
    found h =
        let parts = both (within 1 4 (length l.inputs) && within 1 8 (length l.votes)) (length l.counts == channels)
        h in
        let sizes = both (within 1 4 (length l.inputs)) (within 1 8 (length l.votes)) parts.0 in
        let wide = both (nat_le 1 (length l.inputs)) (nat_le (length l.inputs) 4) sizes.0 in
        let many = both (nat_le 1 (length l.votes)) (nat_le (length l.votes) 8) sizes.1 in
        let w1 = leb-true 1 (length l.inputs) wide.0 in
        let w4 = leb-true (length l.inputs) 4 wide.1 in
        let k1 = leb-true 1 (length l.votes) many.0 in
        let k8 = leb-true (length l.votes) 8 many.1 in
        let n : ℕ = number_at (length l.inputs) (length l.votes) in
        let same_width = eq-eqb (length l.inputs) (1 + n / 8)
        (sym (width_back (length l.inputs) (length l.votes) w1 k1 k8)) in
        let same_outputs = eq-eqb (length l.votes) (1 + n % 8)
        (sym (outputs_back (length l.inputs) (length l.votes) w1 k1 k8)) in
        let has : has_sizes (story_sizes_at channels n) (channel_told l) ≡ true =
        and_true (length l.inputs == 1 + n / 8 && length l.votes == 1 + n % 8) (length l.counts == channels)
        (and_true (length l.inputs == 1 + n / 8) (length l.votes == 1 + n % 8) same_width same_outputs) parts.1 in
        sym has ∙ none n (small_number (length l.inputs) (length l.votes) w1 w4 k1 k8)

-- the sizes of one number more
pub one_more : (channels number : ℕ) (text : TextValue) (s : Sizes) →
    ((line : ReportLine) (n : ℕ) → line_read text ≡ Some line → n < number →
    has_sizes (story_sizes_at channels n) line ≡ false) →
    s ≡ story_sizes_at channels number → Reads s text None →
    (line : ReportLine) (n : ℕ) → line_read text ≡ Some line → n < number + 1 →
    has_sizes (story_sizes_at channels n) line ≡ false
one_more channels number text s before is none line n spelled low = by_order (eq-or-lt_of_le up)
  where
    up : n ≤ number
    up = omega (arith, low)

    by_order : (n ≡ number) ⊎ (n < number) → has_sizes (story_sizes_at channels n) line ≡ false
    by_order (inl e) = ap (λ k. has_sizes (story_sizes_at channels k) line) e ∙ ap (λ x. has_sizes x line) (sym is)
        ∙ none line spelled
    by_order (inr h) = before line n spelled h

-- ---- what is not read may not come, but for a stop

wide_head : (n : ℕ) → nat_lt n 256 ≡ false → within 3 7 n ≡ false
wide_head n h = clear (within 3 7 n) (λ t. sym (le-leb (suc n) 256 (omega (arith, (few t)))) ∙ h)
  where
    few : within 3 7 n ≡ true → n ≤ 7
    few t = leb-true n 7 (both (nat_le 3 n) (nat_le n 7) t).1

many_left : (o : Option ℕ) → if_there (λ n. nat_lt n 65536) o ≡ false → if_there (λ n. nat_le n 256) o ≡ false
many_left None h = differ h
many_left (Some n) h = clear (nat_le n 256) (λ t. sym (le-leb (suc n) 65536 (omega (arith, leb-true n 256 t))) ∙ h)

no_line_of : (p : StoryPlace) (s : Sizes) (line : ReportLine) → has_sizes s line ≡ false →
    ((l : LineValue) → line ≡ channel_told l → line_fits p l ≡ false) →
    ((ws : List ℤ) → line ≡ out_told ws → story_words_fit p.sizes ws ≡ false) →
    ((t : StopValue) → line ≡ stop_told t → ⊥) → suits_story p line ≡ false
no_line_of p s (head_told n m) h lined spoken stop =
    second_false (is_story_head p.stage) (within 3 7 n && within 1 2000 m)
    (ap (λ b. b && within 1 2000 m) (wide_head n h))
no_line_of p s (cycle_told c active t) h lined spoken stop = differ h
no_line_of p s (channel_told l) h lined spoken stop =
    second_false (is_story_amid p.stage) (line_fits p l) (lined l refl)
no_line_of p s (steps_told t) h lined spoken stop = differ h
no_line_of p s (end_told removed joined remaining) h lined spoken stop =
    second_false (is_story_amid p.stage) (if_there (λ n. nat_le n 256) remaining) (many_left remaining h)
no_line_of p s (out_told ws) h lined spoken stop =
    second_false (is_story_ended p.stage) (story_words_fit p.sizes ws) (spoken ws refl)
no_line_of p s (done_told m) h lined spoken stop = differ h
no_line_of p s (stop_told t) h lined spoken stop = absurd (stop t refl)

pub only_stops : (p : StoryPlace) (text : TextValue) → IsPlace p → ReadsSized p.channels p.sizes text None →
    OnlyStops p text
only_stops p text place read = by_sizes p.sizes refl read
  where
    by_sizes : (o : Option Sizes) → p.sizes ≡ o → ReadsSized p.channels o text None → OnlyStops p text
    by_sizes None is none line spelled stop =
        no_line_of p (story_sizes_at p.channels 0) line (none line 0 spelled (omega arith))
        (λ l e. ap (λ b. b && line_comes_next p.last l.channel)
        (ap (λ o. sizes_fit o (length l.inputs) (length l.votes) && length l.counts == p.channels) is
        ∙ any_line p.channels l (λ n few. ap (has_sizes (story_sizes_at p.channels n)) (sym e)
        ∙ none line n spelled few)))
        (λ ws e. ap (λ o. story_words_fit o ws) is) stop
    by_sizes (Some s) is none line spelled stop =
        no_line_of p s line (none line spelled)
        (λ l e. ap (λ b. b && line_comes_next p.last l.channel)
        (ap (λ o. sizes_fit o (length l.inputs) (length l.votes) && length l.counts == p.channels) is
        ∙ sized_line p s l (place.sized s is).1 (ap (has_sizes s) (sym e) ∙ none line spelled)))
        (λ ws e. ap (λ o. story_words_fit o ws) is ∙ ap (has_sizes s) (sym e) ∙ none line spelled) stop
