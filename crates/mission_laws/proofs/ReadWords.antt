-- What is read of a text holds words alone.
use Rattle.std.proofs.Common.{◌≡◌, ℕ, zero, suc, ◌^◌, Bool, true, false, not, ◌&&◌, ◌||◌, ◌==◌, List, [], length, take, drop, codes, Option, Some, None, option_map, refl, ap, subst, arith}
use Rattle.std.specs.Prelude.{if◌then◌else◌, option_and_then, nat_lt, pos, slice_index}
use Rattle.std.specs.Str.{bytes_eq}
use Rattle.std.specs.Str.Parse.{digits_value}
use Rattle.std.specs.Char.{is_digit}
use Rattle.std.specs.List.{list_all, filter}
use Rattle.std.specs.Float.{binary64, float_is_finite}
use Rattle.std.specs.Float.Ieee.{inf, nan}
use Rattle.std.proofs.lemmas.Bool.{lt-ltb, ltb-true, eqb-true}
use Rattle.fast_float.specs.Text.{Parts, scan, digits_of, nearest, with_sign}
use Rattle.toml_datetime.specs.Parse.{parse_datetime}
use Rattle.toml_parser.specs.declared.scalar.Scalar.{Scalar}
use Rattle.toml_parser.specs.declared.scalar.Scalar.TheVariants.{Boolean, Integer, Float, Datetime}
use Rattle.toml_parser.specs.Lexical.{Read, first, dash, plus, underscore, right_bracket, left_bracket, right_brace, left_brace, skip_blank, skip_ws}
use Rattle.toml_parser.specs.Strings.{Key, quoted, starts_string, recursion_limit}
use Rattle.toml_parser.specs.Numbers.{radix_of, underscores_fit, prefixed_integer, is_decimal, integer_of, float_of, decimal_number, plain_number, underscore_radix, number, looks_like_datetime, word_value, word_len, unquoted}
use Rattle.toml.specs.Data.{Data, string, array, table, Items, no_items, Members, push_item}
use Rattle.toml.specs.Tables.{Nodes, no_nodes, close, key_value, std_table, array_table, Expression, Document, put, define}
use Rattle.toml.specs.Parse.{read_map, after_byte, after_element, key_equals, keyval, items, members, scalar_data, atom, val, header_key, expression, ends_line, line, lines, skip_bom, parse_document}
use Rattle.guards_model.specs.Words.{is_word}
use Rattle.guards_model.proofs.BoolTests.{second_true}
use Rattle.mission_laws.specs.Integers.{holds_words, items_hold_words, members_hold_words}
use Rattle.mission_laws.proofs.TableWords.{mapped, followed, push_holds, close_holds, nodes_hold, definition_holds, put_keeps, define_holds}

-- ---- numbers

abbrev scalar_holds : Scalar → Bool
scalar_holds (Integer z) = is_word z
scalar_holds (Boolean b) = true
scalar_holds (Float x) = true
scalar_holds (Datetime dt) = true

abbrev Good : Option Scalar → Type 0
Good answer = (s : Scalar) → answer ≡ Some s → scalar_holds s ≡ true

good_none : Good None
good_none s is = absurd cc

good_some : (x : Scalar) → scalar_holds x ≡ true → Good (Some x)
good_some x h s is = let e : x ≡ s = cc in subst (λ z. scalar_holds z ≡ true) e h

good_if : (test : Bool) (a b : Option Scalar) → (test ≡ true → Good a) → Good b → Good (if test then a else b)
good_if true a b h k = h refl
good_if false a b h k = k

prefixed_good : (radix : ℕ) (digits : List ℕ) → Good (prefixed_integer radix digits)
unfolding prefixed_integer is_word
prefixed_good radix digits =
    good_if ((nat_lt 0 (length digits) && list_all (λ c. is_digit c radix) digits)
    && nat_lt (digits_value radix digits) (2 ^ 63))
    (Some (Integer (pos (digits_value radix digits)))) None
    (λ h. good_some (Integer (pos (digits_value radix digits)))
    (second_true (nat_lt 0 (length digits) && list_all (λ c. is_digit c radix) digits)
    (nat_lt (digits_value radix digits) (2 ^ 63)) h))
    good_none

below_or_at : (limit m : ℕ) (b : Bool) → nat_lt (suc m) limit ≡ b → (b || suc m == limit) ≡ true
    → nat_lt m limit ≡ true
below_or_at limit m true e h = let lt = ltb-true (suc m) limit e in lt-ltb m limit (omega (arith, lt))
below_or_at limit m false e h = let same = eqb-true (suc m) limit h in lt-ltb m limit (omega (arith, same))

no_other : (b : Bool) → (b || false) ≡ true → b ≡ true
no_other true h = refl
no_other false h = h

sign_fits : (negative : Bool) (n : ℕ) → (nat_lt n (2 ^ 63) || (negative && n == 2 ^ 63)) ≡ true
    → is_word (with_sign negative n) ≡ true
unfolding is_word
sign_fits false n h = no_other (nat_lt n (2 ^ 63)) h
sign_fits true zero h = refl
sign_fits true (suc m) h = below_or_at (2 ^ 63) m (nat_lt (suc m) (2 ^ 63)) refl h

integer_good : (negative : Bool) (n : ℕ) → Good (integer_of negative n)
integer_good negative n =
    good_if (nat_lt n (2 ^ 63) || (negative && n == 2 ^ 63)) (Some (Integer (with_sign negative n))) None
    (λ h. good_some (Integer (with_sign negative n)) (sign_fits negative n h)) good_none

float_good : (negative : Bool) (p : Parts) → Good (float_of negative p)
float_good negative p =
    good_if (float_is_finite (nearest binary64 negative p)) (Some (Float (nearest binary64 negative p))) None
    (λ _. good_some (Float (nearest binary64 negative p)) refl) good_none

decimal_good : (negative : Bool) (word : List ℕ) → Good (decimal_number negative word)
unfolding decimal_number
decimal_good negative word =
    let p = scan word in
    let last = if p.point || nat_lt 0 (length p.exponent) then float_of negative p
    else integer_of negative (digits_of p) in
    let third = if not (p.len == length word && is_decimal p) then None else last in
    good_if (bytes_eq word (codes "inf")) (Some (Float (inf negative)))
    (if bytes_eq word (codes "nan") then Some (Float nan) else third) (λ _. good_some (Float (inf negative)) refl)
    (good_if (bytes_eq word (codes "nan")) (Some (Float nan)) third (λ _. good_some (Float nan) refl)
    (good_if (not (p.len == length word && is_decimal p)) None last (λ _. good_none)
    (good_if (p.point || nat_lt 0 (length p.exponent)) (float_of negative p) (integer_of negative (digits_of p))
    (λ _. float_good negative p) (integer_good negative (digits_of p)))))

plain_good : (word : List ℕ) → Good (plain_number word)
unfolding plain_number
plain_good word =
    let last = if first word == plus then decimal_number false (drop 1 word) else decimal_number false word in
    good_if (not (radix_of word == 10)) (prefixed_integer (radix_of word) (drop 2 word))
    (if first word == dash then decimal_number true (drop 1 word) else last)
    (λ _. prefixed_good (radix_of word) (drop 2 word))
    (good_if (first word == dash) (decimal_number true (drop 1 word)) last (λ _. decimal_good true (drop 1 word))
    (good_if (first word == plus) (decimal_number false (drop 1 word)) (decimal_number false word)
    (λ _. decimal_good false (drop 1 word)) (decimal_good false word)))

number_good : (word : List ℕ) → Good (number word)
unfolding number
number_good word =
    good_if (underscores_fit (λ c. is_digit c (underscore_radix word)) 0 word)
    (plain_number (filter (λ c. not (c == underscore)) word)) None
    (λ _. plain_good (filter (λ c. not (c == underscore)) word)) good_none

datetime_good : (word : List ℕ) → Good (option_map Datetime (parse_datetime word))
datetime_good word s is = let m = mapped Datetime (parse_datetime word) s is in
    subst (λ z. scalar_holds z ≡ true) m.2 refl

word_good : (word : List ℕ) → Good (word_value word)
unfolding word_value
word_good word =
    let last = if looks_like_datetime word then option_map Datetime (parse_datetime word) else number word in
    good_if (bytes_eq word (codes "true")) (Some (Boolean true))
    (if bytes_eq word (codes "false") then Some (Boolean false) else last) (λ _. good_some (Boolean true) refl)
    (good_if (bytes_eq word (codes "false")) (Some (Boolean false)) last (λ _. good_some (Boolean false) refl)
    (good_if (looks_like_datetime word) (option_map Datetime (parse_datetime word)) (number word)
    (λ _. datetime_good word) (number_good word)))

-- ---- what is read, with what follows it

abbrev pub Reads : {A : Type 0} → (A → Bool) → Read A → Type 0
Reads {A} test read = (x : A) (rest : List ℕ) → read ≡ Some (x, rest) → test x ≡ true

reads_some : {A : Type 0} (test : A → Bool) (x : A) (rest : List ℕ) → test x ≡ true → Reads test (Some (x, rest))
reads_some {A} test x rest h y after is = let e : ◌≡◌ {A = A × List ℕ} (x, rest) (y, after) = cc in
    subst (λ p. test p.0 ≡ true) e h

reads_if : {A : Type 0} (test : A → Bool) (b : Bool) (one other : Read A) → Reads test one → Reads test other
    → Reads test (if b then one else other)
reads_if test true one other h k = h
reads_if test false one other h k = k

reads_map : {A B : Type 0} (given : A → Bool) (test : B → Bool) (f : A → B) (read : Read A)
    → ((x : A) → given x ≡ true → test (f x) ≡ true) → Reads given read → Reads test (read_map f read)
reads_map given test f read h k y rest is =
    let m = mapped (λ p. (f p.0, p.1)) read (y, rest) is in
    subst (λ z. test z ≡ true) (ap (λ p. p.0) m.2) (h m.0.0 (k m.0.0 m.0.1 m.1))

unquoted_reads : (text : List ℕ) → Reads scalar_holds (unquoted text)
unfolding unquoted
unquoted_reads text =
    let word = take (word_len text) text in
    reads_if scalar_holds (word_len text == 0) None (option_map (λ d. (d, drop (word_len text) text)) (word_value word))
    (λ x rest is. absurd cc)
    (λ x rest is.
    let m = mapped (λ d. (d, drop (word_len text) text)) (word_value word) (x, rest) is in
    subst (λ z. scalar_holds z ≡ true) (ap (λ p. p.0) m.2) (word_good word m.0 m.1))

data_holds : (s : Scalar) → scalar_holds s ≡ true → holds_words (scalar_data s) ≡ true
data_holds (Integer z) h = h
data_holds (Boolean b) h = refl
data_holds (Float x) h = refl
data_holds (Datetime dt) h = refl

atom_reads : (text : List ℕ) → Reads holds_words (atom text)
unfolding atom
atom_reads text =
    reads_if holds_words (starts_string text) (read_map string (quoted text)) (read_map scalar_data (unquoted text))
    (reads_map (λ _. true) holds_words string (quoted text) (λ _ _. refl) (λ _ _ _. refl))
    (reads_map scalar_holds holds_words scalar_data (unquoted text) data_holds (unquoted_reads text))

module _ (v : List ℕ → Read Data) (reads_v : (text : List ℕ) → Reads holds_words (v text)) where
  pub keyval_reads : (text : List ℕ) → Reads (λ p. holds_words p.1) (keyval v text)
  keyval_reads text x rest is =
      let k = followed (key_equals text) (λ k. read_map (λ d. (k.0, d)) (v k.1)) (x, rest) is in
      reads_map holds_words (λ p. holds_words p.1) (λ d. (k.0.0, d)) (v k.0.1) (λ d h. h) (reads_v k.0.1) x rest k.2

  items_reads : (n : ℕ) (found : Items) (text : List ℕ) → items_hold_words found ≡ true
      → Reads items_hold_words (items v n found text)
  unfolding items
  items_reads zero found text h x rest is = absurd cc
  items_reads (suc n) found text h x rest is =
      let start = skip_blank text in
      let more : (Data × List ℕ) →
      Read Items = λ w. option_and_then (items v n (push_item found w.0)) (after_element right_bracket w.1) in
      reads_if items_hold_words (first start == right_bracket) (Some (found, drop 1 start))
      (option_and_then more (v start))
      (reads_some items_hold_words found (drop 1 start) h)
      (λ x rest is.
      let w = followed (v start) more (x, rest) is in
      let a = followed (after_element right_bracket w.0.1) (items v n (push_item found w.0.0)) (x, rest) w.2 in
      items_reads n (push_item found w.0.0) a.0 (push_holds found w.0.0 h (reads_v start w.0.0 w.0.1 w.1)) x rest a.2) x
      rest is

  members_reads : (n : ℕ) (found : Nodes) (text : List ℕ) → nodes_hold found ≡ true
      → Reads members_hold_words (members v n found text)
  unfolding members
  members_reads zero found text h x rest is = absurd cc
  members_reads (suc n) found text h x rest is =
      let start = skip_blank text in
      let more : ((Key × Data) × List ℕ) →
      Read Members = λ e. option_and_then
      (λ next. option_and_then (members v n next) (after_element right_brace e.1)) (put e.0.0 e.0.1 found) in
      reads_if members_hold_words (first start == right_brace) (Some (close found, drop 1 start))
      (option_and_then more (keyval v start))
      (reads_some members_hold_words (close found) (drop 1 start) (close_holds found h))
      (λ x rest is.
      let e = followed (keyval v start) more (x, rest) is in
      let p = followed (put e.0.0.0 e.0.0.1 found)
      (λ next. option_and_then (members v n next) (after_element right_brace e.0.1)) (x, rest) e.2 in
      let a = followed (after_element right_brace e.0.1) (members v n p.0) (x, rest) p.2 in
      members_reads n p.0 a.0 (put_keeps e.0.0.0 e.0.0.1 (keyval_reads start e.0.0 e.0.1 e.1) found p.0 h p.1) x rest
      a.2) x rest is

val_reads : (depth : ℕ) (text : List ℕ) → Reads holds_words (val depth text)
unfolding val
val_reads zero text = atom_reads text
val_reads (suc depth) text =
    let in_array = read_map array (items (val depth) (length text) no_items (drop 1 text)) in
    let in_table = read_map table (members (val depth) (length text) no_nodes (drop 1 text)) in
    reads_if holds_words (first text == left_bracket) in_array
    (if first text == left_brace then in_table else atom text)
    (reads_map items_hold_words holds_words array (items (val depth) (length text) no_items (drop 1 text)) (λ _ h. h)
    (items_reads (val depth) (val_reads depth) (length text) no_items (drop 1 text) refl))
    (reads_if holds_words (first text == left_brace) in_table (atom text)
    (reads_map members_hold_words holds_words table (members (val depth) (length text) no_nodes (drop 1 text))
    (λ _ h. h) (members_reads (val depth) (val_reads depth) (length text) no_nodes (drop 1 text) refl))
    (atom_reads text))

-- ---- lines

abbrev expression_holds : Expression → Bool
expression_holds e = definition_holds e.1

expression_reads : (text : List ℕ) → Reads expression_holds (expression text)
unfolding expression
expression_reads text =
    let pair = read_map (λ p. (p.0, key_value p.1)) (keyval (val recursion_limit) text) in
    let tables = read_map (λ k. (k, std_table)) (header_key (drop 1 text)) in
    let more : (Key × List ℕ) →
    Read Expression = λ k. option_map (λ rest. ((k.0, array_table), rest)) (after_byte right_bracket k.1) in
    reads_if expression_holds (first text == left_bracket && slice_index text 1 == left_bracket)
    (option_and_then more (header_key (drop 2 text))) (if first text == left_bracket then tables else pair)
    (λ x rest is.
    let k = followed (header_key (drop 2 text)) more (x, rest) is in
    let m = mapped (λ rest. ((k.0.0, array_table), rest)) (after_byte right_bracket k.0.1) (x, rest) k.2 in
    subst (λ z. expression_holds z ≡ true) (ap (λ p. p.0) m.2) refl)
    (reads_if expression_holds (first text == left_bracket) tables pair
    (reads_map (λ _. true) expression_holds (λ k. (k, std_table)) (header_key (drop 1 text)) (λ _ _. refl)
    (λ _ _ _. refl))
    (reads_map (λ p. holds_words p.1) expression_holds (λ p. (p.0, key_value p.1)) (keyval (val recursion_limit) text)
    (λ _ h. h) (keyval_reads (val recursion_limit) (val_reads recursion_limit) text)))

line_reads : (text : List ℕ) → Reads expression_holds (line text)
unfolding line
line_reads text x rest is =
    let more : Expression × List ℕ → Read Expression = λ e. if ends_line (skip_ws e.1) then Some e else None in
    let e = followed (expression text) more (x, rest) is in
    reads_if expression_holds (ends_line (skip_ws e.0.1)) (Some e.0) None
    (reads_some expression_holds e.0.0 e.0.1 (expression_reads text e.0.0 e.0.1 e.1)) (λ y after none. absurd cc) x
    rest e.2

chosen_document : (b : Bool) (doc : Document) (other : Option Document) (result : Document) → nodes_hold doc.0 ≡ true
    → (other ≡ Some result → nodes_hold result.0 ≡ true) → (if b then Some doc else other) ≡ Some result
    → nodes_hold result.0 ≡ true
chosen_document true doc other result h k is = let e : doc ≡ result = cc in subst (λ z. nodes_hold z.0 ≡ true) e h
chosen_document false doc other result h k is = k is

lines_hold : (n : ℕ) (doc : Document) (text : List ℕ) (result : Document) → nodes_hold doc.0 ≡ true
    → lines n doc text ≡ Some result → nodes_hold result.0 ≡ true
unfolding lines
lines_hold zero doc text result h is = absurd cc
lines_hold (suc n) doc text result h is =
    let start = skip_blank text in
    let more : (Expression × List ℕ) →
    Option Document = λ e. option_and_then (λ next. lines n next e.1) (define doc e.0) in
    chosen_document (length start == 0) doc (option_and_then more (line start)) result h
    (λ other.
    let e = followed (line start) more result other in
    let d = followed (define doc e.0.0) (λ next. lines n next e.0.1) result e.2 in
    lines_hold n d.0 e.0.1 result (define_holds doc e.0.0 d.0 h (line_reads start e.0.0 e.0.1 e.1) d.1) d.2) is

pub document_holds : (text : List ℕ) (fields : Members) → parse_document text ≡ Some fields
    → members_hold_words fields ≡ true
unfolding parse_document
document_holds text fields is =
    let m = mapped (λ doc. close doc.0) (lines (suc (length text)) (no_nodes, []) (skip_bom text)) fields is in
    subst (λ z. members_hold_words z ≡ true) m.2
    (close_holds m.0.0 (lines_hold (suc (length text)) (no_nodes, []) (skip_bom text) m.0 refl m.1))
