-- `clap` takes the words of each command, and finds that command.
use Rattle.std.proofs.Common.{◌≡◌, ◌≤◌, ◌+◌, ◌-◌, ℕ, zero, suc, Bool, true, false, ◌&&◌, List, [], ◌∷◌, length, Option, Some, None, refl, sym, subst, codes, arith}
use Rattle.std.specs.Prelude.{is_some, nat_lt, nat_le, option_map, option_and_then, if◌then◌else◌}
use Rattle.std.specs.Bool.{Decides}
use Rattle.std.specs.Char.{is_ascii_digit}
use Rattle.std.specs.List.{list_all}
use Rattle.std.specs.Str.{bytes_eq}
use Rattle.std.proofs.lemmas.Bool.{leb-true}
use Rattle.std.proofs.lemmas.Slice.Eq.{bytes_eq-Decides}
use Rattle.guards_base.specs.Masks.{both}
use Rattle.clap.specs.Words.{subcommand_of, takes}
use Rattle.clap.proofs.OnLiterals.{clap_on_literals}
use Rattle.command_line.specs.Commands.{command_of, command_of_word, command_of_pair, command_of_three, command_of_four, count_of, count_within, is_number, number_of, run_last}
use Rattle.command_line.specs.declared.command.Command.TheVariants.{Run}
use Rattle.command_line.specs.ClapLine.{guards_app, command_found, command_named, has_flag, given_number, run_found}
use Rattle.command_line.proofs.DigitsRead.{no_number}

abbrev pub IsFound : List (List ℕ) → Type 0
IsFound words = (takes guards_app words ≡ true) × (command_found (subcommand_of guards_app words) ≡ command_of words)

plain_found : IsFound (codes "run" ∷ [])
unfolding clap_on_literals command_named has_flag run_found command_of_word
plain_found = (refl, refl)

check_found : IsFound (codes "check" ∷ [])
unfolding clap_on_literals command_named has_flag given_number command_of_word
check_found = (refl, refl)

audit_found : IsFound (codes "audit" ∷ [])
unfolding clap_on_literals command_named has_flag given_number command_of_word
audit_found = (refl, refl)

trace_found : IsFound (codes "run" ∷ codes "--trace" ∷ [])
unfolding clap_on_literals command_named has_flag run_found command_of_pair
trace_found = (refl, refl)

-- what begins with a digit is the value of `--last`
last_found : (k : ℕ) (rest : List ℕ) → k ≤ 9 → IsFound (codes "run" ∷ codes "--last" ∷ ((48 + k) ∷ rest) ∷ [])
unfolding clap_on_literals command_named has_flag run_found command_of_three
last_found zero rest low = (refl, refl)
last_found (suc zero) rest low = (refl, refl)
last_found (suc (suc zero)) rest low = (refl, refl)
last_found (suc (suc (suc zero))) rest low = (refl, refl)
last_found (suc (suc (suc (suc zero)))) rest low = (refl, refl)
last_found (suc (suc (suc (suc (suc zero))))) rest low = (refl, refl)
last_found (suc (suc (suc (suc (suc (suc zero)))))) rest low = (refl, refl)
last_found (suc (suc (suc (suc (suc (suc (suc zero))))))) rest low = (refl, refl)
last_found (suc (suc (suc (suc (suc (suc (suc (suc zero)))))))) rest low = (refl, refl)
last_found (suc (suc (suc (suc (suc (suc (suc (suc (suc zero))))))))) rest low = (refl, refl)
last_found (suc (suc (suc (suc (suc (suc (suc (suc (suc (suc k)))))))))) rest low = absurd (omega (arith, low))

trace_last_found : (k : ℕ) (rest : List ℕ) → k ≤ 9 →
    IsFound (codes "run" ∷ codes "--trace" ∷ codes "--last" ∷ ((48 + k) ∷ rest) ∷ [])
unfolding clap_on_literals command_named has_flag run_found command_of_four
trace_last_found zero rest low = (refl, refl)
trace_last_found (suc zero) rest low = (refl, refl)
trace_last_found (suc (suc zero)) rest low = (refl, refl)
trace_last_found (suc (suc (suc zero))) rest low = (refl, refl)
trace_last_found (suc (suc (suc (suc zero)))) rest low = (refl, refl)
trace_last_found (suc (suc (suc (suc (suc zero))))) rest low = (refl, refl)
trace_last_found (suc (suc (suc (suc (suc (suc zero)))))) rest low = (refl, refl)
trace_last_found (suc (suc (suc (suc (suc (suc (suc zero))))))) rest low = (refl, refl)
trace_last_found (suc (suc (suc (suc (suc (suc (suc (suc zero)))))))) rest low = (refl, refl)
trace_last_found (suc (suc (suc (suc (suc (suc (suc (suc (suc zero))))))))) rest low = (refl, refl)
trace_last_found (suc (suc (suc (suc (suc (suc (suc (suc (suc (suc k)))))))))) rest low = absurd (omega (arith, low))

last_trace_found : (k : ℕ) (rest : List ℕ) → k ≤ 9 →
    IsFound (codes "run" ∷ codes "--last" ∷ ((48 + k) ∷ rest) ∷ codes "--trace" ∷ [])
unfolding clap_on_literals command_named has_flag run_found command_of_four
last_trace_found zero rest low = (refl, refl)
last_trace_found (suc zero) rest low = (refl, refl)
last_trace_found (suc (suc zero)) rest low = (refl, refl)
last_trace_found (suc (suc (suc zero))) rest low = (refl, refl)
last_trace_found (suc (suc (suc (suc zero)))) rest low = (refl, refl)
last_trace_found (suc (suc (suc (suc (suc zero))))) rest low = (refl, refl)
last_trace_found (suc (suc (suc (suc (suc (suc zero)))))) rest low = (refl, refl)
last_trace_found (suc (suc (suc (suc (suc (suc (suc zero))))))) rest low = (refl, refl)
last_trace_found (suc (suc (suc (suc (suc (suc (suc (suc zero)))))))) rest low = (refl, refl)
last_trace_found (suc (suc (suc (suc (suc (suc (suc (suc (suc zero))))))))) rest low = (refl, refl)
last_trace_found (suc (suc (suc (suc (suc (suc (suc (suc (suc (suc k)))))))))) rest low = absurd (omega (arith, low))

-- what begins with a digit is the number
demo_found : (k : ℕ) (rest : List ℕ) → k ≤ 9 → IsFound (codes "demo" ∷ ((48 + k) ∷ rest) ∷ [])
unfolding clap_on_literals command_named has_flag given_number command_of_pair
demo_found zero rest low = (refl, refl)
demo_found (suc zero) rest low = (refl, refl)
demo_found (suc (suc zero)) rest low = (refl, refl)
demo_found (suc (suc (suc zero))) rest low = (refl, refl)
demo_found (suc (suc (suc (suc zero)))) rest low = (refl, refl)
demo_found (suc (suc (suc (suc (suc zero))))) rest low = (refl, refl)
demo_found (suc (suc (suc (suc (suc (suc zero)))))) rest low = (refl, refl)
demo_found (suc (suc (suc (suc (suc (suc (suc zero))))))) rest low = (refl, refl)
demo_found (suc (suc (suc (suc (suc (suc (suc (suc zero)))))))) rest low = (refl, refl)
demo_found (suc (suc (suc (suc (suc (suc (suc (suc (suc zero))))))))) rest low = (refl, refl)
demo_found (suc (suc (suc (suc (suc (suc (suc (suc (suc (suc k)))))))))) rest low = absurd (omega (arith, low))

none_is : {A : Type 0} (o : Option A) → None ≡ o → is_some o ≡ true → ⊥
none_is None e is = cc
none_is (Some x) e is = cc

is_read : (text : List ℕ) (b : Bool) → is_number text ≡ b → is_some (number_of text) ≡ true → is_number text ≡ true
is_read text true e is = e
is_read text false e is = absurd (none_is (number_of text) (no_number text e) is)

-- a number begins with a digit
by_digit : (P : List ℕ → Type 0) → ((k : ℕ) (rest : List ℕ) → k ≤ 9 → P ((48 + k) ∷ rest)) → (text : List ℕ) →
    is_some (number_of text) ≡ true → P text
by_digit P each [] is = absurd (none_is (number_of []) (no_number [] refl) is)
by_digit P each (c ∷ rest) is = subst (λ d. P (d ∷ rest)) whole (each (c - 48) rest (omega (arith, low, high)))
  where
    digits : list_all is_ascii_digit (c ∷ rest) ≡ true
    digits = (both (nat_le (length (c ∷ rest)) 20) (list_all is_ascii_digit (c ∷ rest))
        (both (nat_lt 0 (length (c ∷ rest))) (nat_le (length (c ∷ rest)) 20 && list_all is_ascii_digit (c ∷ rest))
        (is_read (c ∷ rest) (is_number (c ∷ rest)) refl is)).1).1

    first : is_ascii_digit c ≡ true
    first = (both (is_ascii_digit c) (list_all is_ascii_digit rest) digits).0

    low : 48 ≤ c
    low = leb-true 48 c (both (nat_le 48 c) (nat_le c 57) first).0

    high : c ≤ 57
    high = leb-true c 57 (both (nat_le 48 c) (nat_le c 57) first).1

    whole : 48 + (c - 48) ≡ c
    whole = omega (arith, low)

number_found : (text : List ℕ) → is_some (number_of text) ≡ true → IsFound (codes "demo" ∷ text ∷ [])
number_found text is = by_digit (λ t. IsFound (codes "demo" ∷ t ∷ [])) demo_found text is

-- what `--last` has as its value is a number
counted : (o : Option ℕ) → is_some (option_and_then count_within o) ≡ true → is_some o ≡ true
counted None is = absurd cc
counted (Some n) is = refl

taken : {A : Type 0} (b : Bool) (o : Option A) → is_some (if b then o else None) ≡ true →
    (b ≡ true) × (is_some o ≡ true)
taken true o is = (refl, is)
taken false o is = absurd cc

count_number : (text : List ℕ) → is_some (count_of text) ≡ true → is_some (number_of text) ≡ true
unfolding count_of
count_number text is = counted (number_of text)
    (taken (nat_le (length text) 4) (option_and_then count_within (number_of text)) is).1

last_number : (trace : Bool) (text : List ℕ) → is_some (run_last trace text) ≡ true → is_some (number_of text) ≡ true
unfolding run_last
last_number trace text is = count_number text (mapped (count_of text) is)
  where
    mapped : (o : Option ℕ) → is_some (option_map (λ k. Run trace (Some k)) o) ≡ true → is_some o ≡ true
    mapped None none = absurd cc
    mapped (Some n) some = refl

no_word : (word : List ℕ) → bytes_eq word (codes "run") ≡ false → bytes_eq word (codes "check") ≡ false →
    bytes_eq word (codes "audit") ≡ false → None ≡ command_of_word word
unfolding command_of_word
no_word word run check audit = rw (run, check, audit) refl

word_found : (word : List ℕ) → is_some (command_of_word word) ≡ true → IsFound (word ∷ [])
word_found word is = by_run (bytes_eq word (codes "run")) refl (bytes_eq-Decides word (codes "run"))
  where
    by_audit : bytes_eq word (codes "run") ≡ false → bytes_eq word (codes "check") ≡ false → (b : Bool) →
        bytes_eq word (codes "audit") ≡ b → Decides b (word ≡ codes "audit") → IsFound (word ∷ [])
    by_audit run check true e same = subst (λ w. IsFound (w ∷ [])) (sym (same.0 refl)) audit_found
    by_audit run check false e differs = absurd (none_is (command_of_word word) (no_word word run check e) is)

    by_check : bytes_eq word (codes "run") ≡ false → (b : Bool) → bytes_eq word (codes "check") ≡ b →
        Decides b (word ≡ codes "check") → IsFound (word ∷ [])
    by_check run true e same = subst (λ w. IsFound (w ∷ [])) (sym (same.0 refl)) check_found
    by_check run false e differs =
        by_audit run e (bytes_eq word (codes "audit")) refl (bytes_eq-Decides word (codes "audit"))

    by_run : (b : Bool) → bytes_eq word (codes "run") ≡ b → Decides b (word ≡ codes "run") → IsFound (word ∷ [])
    by_run true e same = subst (λ w. IsFound (w ∷ [])) (sym (same.0 refl)) plain_found
    by_run false e differs = by_check e (bytes_eq word (codes "check")) refl (bytes_eq-Decides word (codes "check"))

no_flag : (value : List ℕ) → bytes_eq value (codes "--trace") ≡ false → None ≡ command_of_pair (codes "run") value
unfolding command_of_pair
no_flag value other = rw other refl

run_pair : (value : List ℕ) → is_some (command_of_pair (codes "run") value) ≡ true → IsFound (codes "run" ∷ value ∷ [])
run_pair value is = by_trace (bytes_eq value (codes "--trace")) refl (bytes_eq-Decides value (codes "--trace"))
  where
    by_trace : (b : Bool) → bytes_eq value (codes "--trace") ≡ b → Decides b (value ≡ codes "--trace") →
        IsFound (codes "run" ∷ value ∷ [])
    by_trace true e same = subst (λ v. IsFound (codes "run" ∷ v ∷ [])) (sym (same.0 refl)) trace_found
    by_trace false e differs = absurd (none_is (command_of_pair (codes "run") value) (no_flag value e) is)

some_number : (text : List ℕ) (o : Option ℕ) → number_of text ≡ o →
    is_some (command_of_pair (codes "demo") text) ≡ true → is_some (number_of text) ≡ true
unfolding command_of_pair
some_number text (Some n) e is = rw e refl
some_number text None e is = absurd (none_is (command_of_pair (codes "demo") text) (rw e refl) is)

no_pair : (word value : List ℕ) → bytes_eq word (codes "run") ≡ false → bytes_eq word (codes "demo") ≡ false →
    None ≡ command_of_pair word value
unfolding command_of_pair
no_pair word value run demo = rw (run, demo) refl

pair_found : (word value : List ℕ) → is_some (command_of_pair word value) ≡ true → IsFound (word ∷ value ∷ [])
pair_found word value is = by_run (bytes_eq word (codes "run")) refl (bytes_eq-Decides word (codes "run"))
  where
    by_demo : bytes_eq word (codes "run") ≡ false → (b : Bool) → bytes_eq word (codes "demo") ≡ b →
        Decides b (word ≡ codes "demo") → IsFound (word ∷ value ∷ [])
    by_demo run true e same =
        let named : is_some (command_of_pair (codes "demo") value) ≡ true =
        subst (λ w. is_some (command_of_pair w value) ≡ true) (same.0 refl) is in
        subst (λ w. IsFound (w ∷ value ∷ [])) (sym (same.0 refl))
        (number_found value (some_number value (number_of value) refl named))
    by_demo run false e differs = absurd (none_is (command_of_pair word value) (no_pair word value run e) is)

    by_run : (b : Bool) → bytes_eq word (codes "run") ≡ b → Decides b (word ≡ codes "run") → IsFound (word ∷ value ∷ [])
    by_run true e same =
        let named : is_some (command_of_pair (codes "run") value) ≡ true =
        subst (λ w. is_some (command_of_pair w value) ≡ true) (same.0 refl) is in
        subst (λ w. IsFound (w ∷ value ∷ [])) (sym (same.0 refl)) (run_pair value named)
    by_run false e differs = by_demo e (bytes_eq word (codes "demo")) refl (bytes_eq-Decides word (codes "demo"))

three_found : (word flag count : List ℕ) → is_some (command_of_three word flag count) ≡ true →
    IsFound (word ∷ flag ∷ count ∷ [])
unfolding command_of_three
three_found word flag count is =
    let (named, some) = taken (bytes_eq word (codes "run") && bytes_eq flag (codes "--last")) (run_last false count)
    is in
    let (word_same, flag_same) = both (bytes_eq word (codes "run")) (bytes_eq flag (codes "--last")) named in
    let found : IsFound (codes "run" ∷ codes "--last" ∷ count ∷ []) =
    by_digit (λ t. IsFound (codes "run" ∷ codes "--last" ∷ t ∷ [])) last_found count (last_number false count some) in
    subst (λ w. IsFound (w ∷ flag ∷ count ∷ [])) (sym ((bytes_eq-Decides word (codes "run")).0 word_same))
    (subst (λ f. IsFound (codes "run" ∷ f ∷ count ∷ [])) (sym ((bytes_eq-Decides flag (codes "--last")).0 flag_same))
    found)

run_four : (first second third : List ℕ) (b : Bool) →
    bytes_eq first (codes "--trace") && bytes_eq second (codes "--last") ≡ b →
    is_some (if b then run_last true third
    else (if bytes_eq first (codes "--last") && bytes_eq third (codes "--trace") then run_last true second
    else None)) ≡ true →
    IsFound (codes "run" ∷ first ∷ second ∷ third ∷ [])
run_four first second third true named is =
    let (trace_same, last_same) = both (bytes_eq first (codes "--trace")) (bytes_eq second (codes "--last")) named in
    let found : IsFound (codes "run" ∷ codes "--trace" ∷ codes "--last" ∷ third ∷ []) =
    by_digit (λ t. IsFound (codes "run" ∷ codes "--trace" ∷ codes "--last" ∷ t ∷ [])) trace_last_found third
    (last_number true third is) in
    subst (λ f. IsFound (codes "run" ∷ f ∷ second ∷ third ∷ []))
    (sym ((bytes_eq-Decides first (codes "--trace")).0 trace_same))
    (subst (λ s. IsFound (codes "run" ∷ codes "--trace" ∷ s ∷ third ∷ []))
    (sym ((bytes_eq-Decides second (codes "--last")).0 last_same)) found)
run_four first second third false other is =
    let (named, some) = taken (bytes_eq first (codes "--last") && bytes_eq third (codes "--trace"))
    (run_last true second) is in
    let (last_same, trace_same) = both (bytes_eq first (codes "--last")) (bytes_eq third (codes "--trace")) named in
    let found : IsFound (codes "run" ∷ codes "--last" ∷ second ∷ codes "--trace" ∷ []) =
    by_digit (λ t. IsFound (codes "run" ∷ codes "--last" ∷ t ∷ codes "--trace" ∷ [])) last_trace_found second
    (last_number true second some) in
    subst (λ f. IsFound (codes "run" ∷ f ∷ second ∷ third ∷ []))
    (sym ((bytes_eq-Decides first (codes "--last")).0 last_same))
    (subst (λ t. IsFound (codes "run" ∷ codes "--last" ∷ second ∷ t ∷ []))
    (sym ((bytes_eq-Decides third (codes "--trace")).0 trace_same)) found)

four_found : (word first second third : List ℕ) → is_some (command_of_four word first second third) ≡ true →
    IsFound (word ∷ first ∷ second ∷ third ∷ [])
unfolding command_of_four
four_found word first second third is =
    let traced : Bool = bytes_eq first (codes "--trace") && bytes_eq second (codes "--last") in
    let (word_same, some) = taken (bytes_eq word (codes "run"))
    (if traced then run_last true third
    else (if bytes_eq first (codes "--last") && bytes_eq third (codes "--trace") then run_last true second
    else None)) is in
    subst (λ w. IsFound (w ∷ first ∷ second ∷ third ∷ [])) (sym ((bytes_eq-Decides word (codes "run")).0 word_same))
    (run_four first second third traced refl some)

-- the words of a command are taken, and found as it
pub found : (words : List (List ℕ)) → is_some (command_of words) ≡ true → IsFound words
found [] is = absurd cc
found (word ∷ []) is = word_found word is
found (word ∷ value ∷ []) is = pair_found word value is
found (word ∷ flag ∷ count ∷ []) is = three_found word flag count is
found (word ∷ first ∷ second ∷ third ∷ []) is = four_found word first second third is
found (word ∷ first ∷ second ∷ third ∷ fourth ∷ rest) is = absurd cc
