-- Fewer bytes stand before the first mark than there are exactly where there is one; and after it no more.
use Rattle.std.proofs.Common.{◌≡◌, ◌≤◌, ◌<◌, ℕ, zero, suc, ◌+◌, Bool, true, false, cond, ◌||◌, List, [], ◌∷◌, ◌++◌, length, refl, sym, ap, ◌∙◌, arith}
use Rattle.std.specs.Prelude.{nat_lt}
use Rattle.std.specs.List.{concat, list_any}
use Rattle.std.proofs.lemmas.Bool.{leb-true, le-leb}
use Rattle.std.proofs.lemmas.List.{length-append}
use Rattle.guards_model.proofs.BoolTests.{clear, differ}
use Rattle.guards_audit.specs.Lines.{lines_in}
use Rattle.run_audit.specs.Marks.{is_mark, lines_before, lines_after, mission_bytes, trace_bytes}
use Rattle.run_audit.proofs.Splitting.{lines_back}
use Rattle.picture_run.specs.Drawing.{has_mark}

some_bytes : (line : List ℕ) → is_mark line ≡ true → 0 < length line
some_bytes [] h = differ (sym h)
some_bytes (b ∷ line) h = omega arith

-- a line more on both sides
both_longer : (a b c : ℕ) → nat_lt (a + b) (a + c) ≡ nat_lt b c
both_longer a b c = by_test (nat_lt b c) refl
  where
    by_test : (t : Bool) → nat_lt b c ≡ t → nat_lt (a + b) (a + c) ≡ t
    by_test true h = le-leb (suc (a + b)) (a + c) (omega (arith, leb-true (suc b) c h))
    by_test false h =
        clear (nat_lt (a + b) (a + c))
        (λ t. sym (le-leb (suc b) c (omega (arith, leb-true (suc (a + b)) (a + c) t))) ∙ h)

fewer_before : (lines : List (List ℕ)) →
    nat_lt (length (concat (lines_before lines))) (length (concat lines)) ≡ list_any is_mark lines
fewer_before [] = refl
fewer_before (line ∷ lines) = by_test (is_mark line) refl (fewer_before lines)
  where
    by_test : (b : Bool) → is_mark line ≡ b →
        nat_lt (length (concat (lines_before lines))) (length (concat lines)) ≡ list_any is_mark lines →
        nat_lt (length (concat (cond b [] (line ∷ lines_before lines)))) (length (line ++ concat lines))
        ≡ (b || list_any is_mark lines)
    by_test true h rest =
        le-leb 1 (length (line ++ concat lines))
        (omega (arith, length-append line (concat lines), some_bytes line h))
    by_test false h rest =
        ap (λ n. nat_lt n (length (line ++ concat lines))) (length-append line (concat (lines_before lines)))
        ∙ ap (λ n. nat_lt (length line + length (concat (lines_before lines))) n) (length-append line (concat lines))
        ∙ both_longer (length line) (length (concat (lines_before lines))) (length (concat lines)) ∙ rest

pub fewer : (input : List ℕ) → nat_lt (length (mission_bytes input)) (length input) ≡ has_mark input
unfolding mission_bytes
fewer input =
    sym (ap (λ (text : List ℕ). nat_lt (length (concat (lines_before (lines_in input)))) (length text))
    (lines_back input))
    ∙ fewer_before (lines_in input)

few_after : (lines : List (List ℕ)) → length (concat (lines_after lines)) ≤ length (concat lines)
few_after [] = omega arith
few_after (line ∷ lines) = by_test (is_mark line) (few_after lines)
  where
    by_test : (b : Bool) → length (concat (lines_after lines)) ≤ length (concat lines) →
        length (concat (cond b lines (lines_after lines))) ≤ length (line ++ concat lines)
    by_test true rest = omega (arith, length-append line (concat lines))
    by_test false rest = omega (arith, length-append line (concat lines), rest)

pub no_more_after : (input : List ℕ) → length (trace_bytes input) ≤ length input
unfolding trace_bytes
no_more_after input = omega (arith, few_after (lines_in input), ap length (lines_back input))
