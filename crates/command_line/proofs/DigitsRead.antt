-- Digits are parsed as the number that they write.
use Rattle.std.proofs.Common.{◌≡◌, ◌<◌, ◌≤◌, ◌^◌, ℕ, true, false, ◌&&◌, List, [], ◌∷◌, length, Some, None, Result, Ok, Err, refl, ap, ◌∙◌, arith}
use Rattle.std.specs.Prelude.{nat_lt, nat_le}
use Rattle.std.specs.Char.{is_ascii_digit}
use Rattle.std.specs.List.{list_all}
use Rattle.std.specs.Result.{OkIff, result_ok}
use Rattle.std.specs.Str.{all_ascii_digits}
use Rattle.std.specs.Str.Parse.{ParsesUnsigned, digits_value}
use Rattle.std.proofs.lemmas.Bool.{ltb-true, lt-ltb, le-ltb}
use Rattle.std.proofs.lemmas.Str.Parse.{numerals_by_value, parse_digits, tells_all_ascii_digits}
use Rattle.guards_base.specs.Masks.{both}
use Rattle.command_line.specs.Commands.{is_number, number_of}

same_test : (text : List ℕ) → all_ascii_digits text ≡ list_all is_ascii_digit text
same_test [] = refl
same_test (c ∷ cs) = ap (λ b. is_ascii_digit c && b) (same_test cs)

number_low : (text : List ℕ) → is_number text ≡ true → digits_value 10 text < 2 ^ 64 →
    Some (digits_value 10 text) ≡ number_of text
unfolding number_of
number_low text is low = rw (is, lt-ltb (digits_value 10 text) (2 ^ 64) low) refl

number_high : (text : List ℕ) → is_number text ≡ true → 2 ^ 64 ≤ digits_value 10 text → None ≡ number_of text
unfolding number_of
number_high text is high = rw (is, le-ltb (digits_value 10 text) (2 ^ 64) high) refl

-- no text but that of a number is one
pub no_number : (text : List ℕ) → is_number text ≡ false → None ≡ number_of text
unfolding number_of
no_number text isnt = rw isnt refl

pub number_read : {E : Type 0} (text : List ℕ) (r : Result ℕ E) → is_number text ≡ true → ParsesUnsigned 64 10 text r →
    result_ok r ≡ number_of text
number_read {E} text r is parses =
    by_result r (parse_digits (numerals_by_value (λ ds. all_ascii_digits ds ≡ true) tells_all_ascii_digits) 64 text r
    parses (same_test text ∙ parts.2))
  where
    parts : (nat_lt 0 (length text) ≡ true) × (nat_le (length text) 20 ≡ true) × (list_all is_ascii_digit text ≡ true)
    parts =
        let first = both (nat_lt 0 (length text)) (nat_le (length text) 20 && list_all is_ascii_digit text) is in
        let second = both (nat_le (length text) 20) (list_all is_ascii_digit text) first.1 in
        (first.0, second.0, second.1)

    by_result : (r : Result ℕ E) →
        OkIff r ((0 < length text) × (digits_value 10 text < 2 ^ 64)) (digits_value 10 text) →
        result_ok r ≡ number_of text
    by_result (Ok x) told = ap Some told.1 ∙ number_low text is told.0.1
    by_result (Err e) told = number_high text is (high (λ low. told (ltb-true 0 (length text) parts.0, low)))
      where
        high : (digits_value 10 text < 2 ^ 64 → ⊥) → 2 ^ 64 ≤ digits_value 10 text
        high not_low = omega (arith, not_low)
