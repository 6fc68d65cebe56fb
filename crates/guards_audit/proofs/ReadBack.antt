-- What is read of a spelled line is that line.
use Rattle.std.proofs.Common.{◌≡◌, ℕ, zero, suc, ◌+◌, ◌/◌, ◌%◌, ◌==◌, ◌<◌, ◌^◌, Bool, true, false, cond, not, ◌&&◌, ℤ, pos, negsuc, List, [], ◌∷◌, ◌++◌, length, map, Option, None, Some, refl, sym, ap, subst, ◌∙◌, arith, append_assoc, append-nil}
use Rattle.std.specs.Prelude.{codes, flat_map, nat_lt, drop, neg_ℤ}
use Rattle.std.specs.List.{list_all, onto_first, join_with_byte}
use Rattle.std.specs.Str.{bytes_eq}
use Rattle.std.specs.Str.Parse.{digits_value, signed_digits_value, starts_with_minus, without_leading_sign, without_leading_plus}
use Rattle.std.specs.Fmt.{digits, digits_onto, digit_glyph, decimal, signed_decimal}
use Rattle.std.proofs.lemmas.Bool.{leb-true}
use Rattle.std.proofs.lemmas.Fmt.{decimal_is_IsNumeral}
use Rattle.guards_model.specs.declared.Actor.{Actor}
use Rattle.guards_model.specs.declared.Actor.TheVariants as actor
use Rattle.guards_model.specs.Words.{is_word}
use Rattle.guards_model.specs.Channels.{ChannelSet}
use Rattle.guards_model.specs.Frames.{is_channel, is_set, ascends}
use Rattle.guards_model.specs.Transfers.{TransferValue}
use Rattle.guards_model.specs.Texts.{TextValue, set_text, words_text, vote_text, transfer_text, remaining_text, step_text, steps_text}
use Rattle.guards_audit.specs.Lines.{is_small, is_empty, some_that, is_cast, if_there, is_transfer}
use Rattle.guards_audit.specs.Reading.{pieces_at, number_in, word_in, is_dash, set_in, words_read, numbers_in, transfer_at, transfer_read, remaining_read, step_of, steps_read}
use Rattle.guards_model.proofs.BoolTests.{both, and_true}
use Rattle.guards_model.proofs.ListTests.{all-append, all-map, weaken}

-- ---- a text at a letter

-- without the letter
abbrev pub lacks : ℕ → TextValue → Bool
lacks c text = list_all (λ b. not (b == c)) text

skip_letter : (c b : ℕ) (rest : TextValue) (is : Bool) → (b == c) ≡ is → not is ≡ true →
    pieces_at c (b ∷ rest) ≡ onto_first b (pieces_at c rest)
skip_letter c b rest true e h = absurd cc
skip_letter c b rest false e h = ap (λ t. cond t ([] ∷ pieces_at c rest) (onto_first b (pieces_at c rest))) e

cut_letter : (c : ℕ) (rest : TextValue) → pieces_at c (c ∷ rest) ≡ [] ∷ pieces_at c rest
cut_letter c rest = let same : (c == c) ≡ true = grind arith in
    ap (λ t. cond t ([] ∷ pieces_at c rest) (onto_first c (pieces_at c rest))) same

pub split_first : (c : ℕ) (x rest : TextValue) → lacks c x ≡ true → pieces_at c (x ++ c ∷ rest) ≡ x ∷ pieces_at c rest
split_first c [] rest h = cut_letter c rest
split_first c (b ∷ x) rest h =
    let parts = both (not (b == c)) (lacks c x) h in
    skip_letter c b (x ++ c ∷ rest) (b == c) refl parts.0 ∙ ap (onto_first b) (split_first c x rest parts.1)

pub split_none : (c : ℕ) (x : TextValue) → lacks c x ≡ true → pieces_at c x ≡ x ∷ []
split_none c [] h = refl
split_none c (b ∷ x) h =
    let parts = both (not (b == c)) (lacks c x) h in
    skip_letter c b x (b == c) refl parts.0 ∙ ap (onto_first b) (split_none c x parts.1)

pub split_join : (c : ℕ) (x : TextValue) (pieces : List TextValue) → lacks c x ≡ true →
    list_all (lacks c) pieces ≡ true → pieces_at c (join_with_byte c (x ∷ pieces)) ≡ x ∷ pieces
split_join c x [] h k = split_none c x h
split_join c x (y ∷ pieces) h k =
    let parts = both (lacks c y) (list_all (lacks c) pieces) k in
    split_first c x (join_with_byte c (y ∷ pieces)) h ∙ ap (λ ps. x ∷ ps) (split_join c y pieces parts.0 parts.1)

-- ---- letters

abbrev pub is_digit : ℕ → Bool
is_digit b = nat_lt 47 b && nat_lt b 58

-- a digit, a comma or a minus sign
abbrev pub is_plain : ℕ → Bool
is_plain b = nat_lt 43 b && nat_lt b 58

either_all : (P : ℕ → Bool) (b : Bool) (x y : TextValue) → list_all P x ≡ true → list_all P y ≡ true →
    list_all P (cond b x y) ≡ true
either_all P true x y h k = h
either_all P false x y h k = k

glyph_is : (n : ℕ) → digit_glyph false (n % 10) ≡ 48 + n % 10
glyph_is n = grind arith

glyph : (n : ℕ) → is_digit (digit_glyph false (n % 10)) ≡ true
glyph n = subst (λ b. is_digit b ≡ true) (sym (glyph_is n)) (in_range (n % 10) (omega arith))
  where
    in_range : (d : ℕ) → d < 10 → is_digit (48 + d) ≡ true
    in_range d h = grind arith

digits_from : (k n : ℕ) (acc : TextValue) → list_all is_digit acc ≡ true →
    list_all is_digit (digits_onto k 10 false n acc) ≡ true
digits_from zero n acc h = h
digits_from (suc k) n acc h =
    let more : list_all is_digit (digit_glyph false (n % 10) ∷ acc) ≡ true =
    and_true (is_digit (digit_glyph false (n % 10))) (list_all is_digit acc) (glyph n) h in
    either_all is_digit (n / 10 == 0) (digit_glyph false (n % 10) ∷ acc)
    (digits_onto k 10 false (n / 10) (digit_glyph false (n % 10) ∷ acc))
    more (digits_from k (n / 10) (digit_glyph false (n % 10) ∷ acc) more)

pub digits-decimal : (n : ℕ) → list_all is_digit (decimal n) ≡ true
unfolding digits
digits-decimal n = digits_from 64 n [] refl

digit_plain : (b : ℕ) → is_digit b ≡ true → is_plain b ≡ true
digit_plain b h = grind (arith, h)

plain_lacks : (c : ℕ) → is_plain c ≡ false → (b : ℕ) → is_plain b ≡ true → not (b == c) ≡ true
plain_lacks c out b h = by_same (b == c) refl
  where
    differ : b ≡ c → ⊥
    differ e = absurd_at (sym h ∙ ap is_plain e ∙ out)
      where
        absurd_at : true ≡ false → ⊥
        absurd_at k = cc

    by_same : (s : Bool) → (b == c) ≡ s → not s ≡ true
    by_same true e = absurd (differ (grind (arith, e)))
    by_same false e = refl

digit_lacks : (c : ℕ) → is_digit c ≡ false → (b : ℕ) → is_digit b ≡ true → not (b == c) ≡ true
digit_lacks c out b h = by_same (b == c) refl
  where
    differ : b ≡ c → ⊥
    differ e = absurd_at (sym h ∙ ap is_digit e ∙ out)
      where
        absurd_at : true ≡ false → ⊥
        absurd_at k = cc

    by_same : (s : Bool) → (b == c) ≡ s → not s ≡ true
    by_same true e = absurd (differ (grind (arith, e)))
    by_same false e = refl

pub plain-decimal : (n : ℕ) → list_all is_plain (decimal n) ≡ true
plain-decimal n = weaken is_digit is_plain (decimal n) digit_plain (digits-decimal n)

pub lacks-decimal : (c n : ℕ) → is_digit c ≡ false → lacks c (decimal n) ≡ true
lacks-decimal c n out = weaken is_digit (λ b. not (b == c)) (decimal n) (digit_lacks c out) (digits-decimal n)

plain-signed : (z : ℤ) → list_all is_plain (signed_decimal z) ≡ true
plain-signed (pos n) = plain-decimal n
plain-signed (negsuc n) = plain-decimal (suc n)

lacks-signed : (c : ℕ) (z : ℤ) → is_digit c ≡ false → (45 == c) ≡ false → lacks c (signed_decimal z) ≡ true
lacks-signed c (pos n) out other = lacks-decimal c n out
lacks-signed c (negsuc n) out other =
    and_true (not (45 == c)) (lacks c (decimal (suc n))) (ap not other) (lacks-decimal c (suc n) out)

plain-join : (x : TextValue) (pieces : List TextValue) → list_all is_plain x ≡ true →
    list_all (list_all is_plain) pieces ≡ true → list_all is_plain (join_with_byte 44 (x ∷ pieces)) ≡ true
plain-join x [] h k = h
plain-join x (y ∷ pieces) h k =
    let parts = both (list_all is_plain y) (list_all (list_all is_plain) pieces) k in
    all-append is_plain x (44 ∷ join_with_byte 44 (y ∷ pieces)) h (plain-join y pieces parts.0 parts.1)

plain-pieces : (pieces : List TextValue) → list_all (list_all is_plain) pieces ≡ true →
    list_all is_plain (join_with_byte 44 pieces) ≡ true
plain-pieces [] k = refl
plain-pieces (x ∷ pieces) k = let parts = both (list_all is_plain x) (list_all (list_all is_plain) pieces) k in
    plain-join x pieces parts.0 parts.1

pub plain-set : (set : ChannelSet) → list_all is_plain (set_text set) ≡ true
plain-set [] = refl
plain-set (q ∷ set) = plain-join (decimal q) (map decimal set) (plain-decimal q)
    (all-map (list_all is_plain) decimal set plain-decimal)

pub plain-words : (words : List ℤ) → list_all is_plain (words_text words) ≡ true
plain-words words = plain-pieces (map signed_decimal words)
    (all-map (list_all is_plain) signed_decimal words plain-signed)

pub plain-numbers : (ns : List ℕ) → list_all is_plain (join_with_byte 44 (map decimal ns)) ≡ true
plain-numbers ns = plain-pieces (map decimal ns) (all-map (list_all is_plain) decimal ns plain-decimal)

pub plain_lacks_all : (c : ℕ) (text : TextValue) → is_plain c ≡ false → list_all is_plain text ≡ true →
    lacks c text ≡ true
plain_lacks_all c text out h = weaken is_plain (λ b. not (b == c)) text (plain_lacks c out) h

-- ---- numbers

small_fits : (n : ℕ) → is_small n ≡ true → n < 2 ^ 64
small_fits n h = omega (arith, leb-true (suc n) (2 ^ 32) h)

pub number_back : (n : ℕ) → is_small n ≡ true → number_in (decimal n) ≡ n
number_back n h = (decimal_is_IsNumeral n (small_fits n h)).1

pub numbers_back : (ns : List ℕ) → list_all is_small ns ≡ true → map number_in (map decimal ns) ≡ ns
numbers_back [] h = refl
numbers_back (n ∷ ns) h =
    let parts = both (is_small n) (list_all is_small ns) h in
    let one = number_back n parts.0 in
    let more = numbers_back ns parts.1 in
    λ i. one i ∷ more i

-- a text that begins with a digit is no dash
starts_no_dash : (x rest : TextValue) → 0 < length x → list_all is_digit x ≡ true → is_dash (x ++ rest) ≡ false
starts_no_dash [] rest some h = absurd (omega arith)
starts_no_dash (b ∷ x) rest some h = by_first (b == 45) refl
  where
    digit : is_digit b ≡ true
    digit = (both (is_digit b) (list_all is_digit x) h).0

    by_first : (s : Bool) → (b == 45) ≡ s → (s && bytes_eq (x ++ rest) []) ≡ false
    by_first false e = refl
    by_first true e = absurd (no_dash (grind (arith, e)))
      where
        no_dash : b ≡ 45 → ⊥
        no_dash e = absurd_at (sym digit ∙ ap is_digit e)
          where
            absurd_at : true ≡ false → ⊥
            absurd_at k = cc

-- the same, where more pieces follow
join_no_dash : (x : TextValue) (pieces : List TextValue) → 0 < length x → list_all is_digit x ≡ true →
    is_dash (join_with_byte 44 (x ∷ pieces)) ≡ false
join_no_dash x [] some h = ap is_dash (sym (append-nil x)) ∙ starts_no_dash x [] some h
join_no_dash x (y ∷ pieces) some h = starts_no_dash x (44 ∷ join_with_byte 44 (y ∷ pieces)) some h

some_digits : (n : ℕ) → is_small n ≡ true → 0 < length (decimal n)
some_digits n h = (decimal_is_IsNumeral n (small_fits n h)).0.0

pub number_no_dash : (n : ℕ) → is_small n ≡ true → is_dash (decimal n) ≡ false
number_no_dash n h = ap is_dash (sym (append-nil (decimal n)))
    ∙ starts_no_dash (decimal n) [] (some_digits n h) (digits-decimal n)

-- ---- sets

pub channel_small : (q : ℕ) → is_channel q ≡ true → is_small q ≡ true
channel_small q h = grind (arith, h)

set_small : (set : ChannelSet) → is_set set ≡ true → list_all is_small set ≡ true
unfolding is_set
set_small set h = weaken is_channel is_small set channel_small (both (list_all is_channel set) (ascends set) h).0

lacks_each : (c : ℕ) (ns : List ℕ) → is_digit c ≡ false → list_all (lacks c) (map decimal ns) ≡ true
lacks_each c ns out = all-map (lacks c) decimal ns (λ n. lacks-decimal c n out)

set_by : (set : ChannelSet) → list_all is_small set ≡ true → set_in (set_text set) ≡ set
set_by [] h = refl
set_by (q ∷ set) h =
    let parts = both (is_small q) (list_all is_small set) h in
    ap (λ b. cond b [] (map number_in (pieces_at 44 (set_text (q ∷ set)))))
    (join_no_dash (decimal q) (map decimal set) (some_digits q parts.0) (digits-decimal q))
    ∙ ap (map number_in) (split_join 44 (decimal q) (map decimal set) (lacks-decimal 44 q refl)
    (lacks_each 44 set refl))
    ∙ numbers_back (q ∷ set) h

pub set_back : (set : ChannelSet) → is_set set ≡ true → set_in (set_text set) ≡ set
set_back set h = set_by set (set_small set h)

-- ---- words

minus_none : (x : TextValue) → list_all is_digit x ≡ true → starts_with_minus x ≡ false
minus_none [] h = refl
minus_none (b ∷ x) h = not_sign b (both (is_digit b) (list_all is_digit x) h).0
  where
    not_sign : (b : ℕ) → is_digit b ≡ true → (b == 45) ≡ false
    not_sign b h = grind (arith, h)

plus_none : (x : TextValue) → list_all is_digit x ≡ true → without_leading_plus x ≡ x
plus_none [] h = refl
plus_none (b ∷ x) h = ap (λ s. drop (cond s 1 0) (b ∷ x)) (not_sign b (both (is_digit b) (list_all is_digit x) h).0)
  where
    not_sign : (b : ℕ) → is_digit b ≡ true → (b == 43) ≡ false
    not_sign b h = grind (arith, h)

unsigned : (x : TextValue) → list_all is_digit x ≡ true → signed_digits_value 10 x ≡ pos (digits_value 10 x)
unsigned x h =
    let e = minus_none x h in
    ap (λ b. cond b (neg_ℤ (pos (digits_value 10 (without_leading_sign x))))
    (pos (digits_value 10 (without_leading_sign x)))) e
    ∙ ap (λ y. pos (digits_value 10 y)) (ap (λ b. cond b (drop 1 x) (without_leading_plus x)) e ∙ plus_none x h)

pub word_back : (z : ℤ) → is_word z ≡ true → word_in (signed_decimal z) ≡ z
unfolding is_word
word_back (pos n) h = unsigned (decimal n) (digits-decimal n)
    ∙ ap pos (decimal_is_IsNumeral n (omega (arith, leb-true (suc n) (2 ^ 63) h))).1
word_back (negsuc n) h = ap (λ k. neg_ℤ (pos k))
    (decimal_is_IsNumeral (suc n) (omega (arith, leb-true (suc n) (2 ^ 63) h))).1

words_by : (ws : List ℤ) → list_all is_word ws ≡ true → map word_in (map signed_decimal ws) ≡ ws
words_by [] h = refl
words_by (w ∷ ws) h =
    let parts = both (is_word w) (list_all is_word ws) h in
    let one = word_back w parts.0 in
    let more = words_by ws parts.1 in
    λ i. one i ∷ more i

pub words_back : (ws : List ℤ) → some_that is_word ws ≡ true → words_read (words_text ws) ≡ ws
words_back [] h = absurd cc
words_back (w ∷ ws) h =
    ap (map word_in) (split_join 44 (signed_decimal w) (map signed_decimal ws) (lacks-signed 44 w refl refl)
    (all-map (lacks 44) signed_decimal ws (λ z. lacks-signed 44 z refl refl)))
    ∙ words_by (w ∷ ws) h

pub list_back : (ns : List ℕ) → some_that is_small ns ≡ true → numbers_in (join_with_byte 44 (map decimal ns)) ≡ ns
list_back [] h = absurd cc
list_back (n ∷ ns) h = ap (map number_in)
    (split_join 44 (decimal n) (map decimal ns) (lacks-decimal 44 n refl) (lacks_each 44 ns refl))
    ∙ numbers_back (n ∷ ns) h

-- the words of votes that are there
cast_words : List (Option ℤ) → List ℤ
cast_words [] = []
cast_words (None ∷ votes) = cast_words votes
cast_words (Some w ∷ votes) = w ∷ cast_words votes

cast_is : (votes : List (Option ℤ)) → list_all is_cast votes ≡ true → map (λ w. Some w) (cast_words votes) ≡ votes
unfolding cast_words
cast_is [] h = refl
cast_is (None ∷ votes) h = absurd cc
cast_is (Some w ∷ votes) h = ap (λ vs. Some w ∷ vs) (cast_is votes (both (is_word w) (list_all is_cast votes) h).1)

cast_fine : (votes : List (Option ℤ)) → some_that is_cast votes ≡ true → some_that is_word (cast_words votes) ≡ true
unfolding cast_words
cast_fine [] h = absurd cc
cast_fine (None ∷ votes) h = absurd cc
cast_fine (Some w ∷ votes) h = by_rest votes (both (is_word w) (list_all is_cast votes) h)
  where
    rest : (vs : List (Option ℤ)) → list_all is_cast vs ≡ true → list_all is_word (cast_words vs) ≡ true
    rest [] k = refl
    rest (None ∷ vs) k = absurd cc
    rest (Some v ∷ vs) k = let parts = both (is_word v) (list_all is_cast vs) k in
        and_true (is_word v) (list_all is_word (cast_words vs)) parts.0 (rest vs parts.1)

    by_rest : (vs : List (Option ℤ)) → (is_word w ≡ true) × (list_all is_cast vs ≡ true) →
        list_all is_word (w ∷ cast_words vs) ≡ true
    by_rest vs parts = and_true (is_word w) (list_all is_word (cast_words vs)) parts.0 (rest vs parts.1)

votes_text : (ws : List ℤ) → map vote_text (map (λ w. Some w) ws) ≡ map signed_decimal ws
votes_text [] = refl
votes_text (w ∷ ws) = ap (λ ps. signed_decimal w ∷ ps) (votes_text ws)

pub votes_back : (votes : List (Option ℤ)) → some_that is_cast votes ≡ true →
    map (λ w. Some w) (words_read (join_with_byte 44 (map vote_text votes))) ≡ votes
votes_back votes h =
    let is : map (λ w. Some w) (cast_words votes) ≡ votes =
    cast_is votes (both (not (is_empty votes)) (list_all is_cast votes) h).1 in
    ap (λ vs. map (λ w. Some w) (words_read (join_with_byte 44 (map vote_text vs)))) (sym is)
    ∙ ap (λ ps. map (λ w. Some w) (words_read (join_with_byte 44 ps))) (votes_text (cast_words votes))
    ∙ ap (map (λ w. Some w)) (words_back (cast_words votes) (cast_fine votes h))
    ∙ is

pub plain-votes : (votes : List (Option ℤ)) → some_that is_cast votes ≡ true →
    list_all is_plain (join_with_byte 44 (map vote_text votes)) ≡ true
plain-votes votes h =
    let is : map (λ w. Some w) (cast_words votes) ≡ votes =
    cast_is votes (both (not (is_empty votes)) (list_all is_cast votes) h).1 in
    subst (λ vs. list_all is_plain (join_with_byte 44 (map vote_text vs)) ≡ true) is
    (subst (λ ps. list_all is_plain (join_with_byte 44 ps) ≡ true) (sym (votes_text (cast_words votes)))
    (plain-words (cast_words votes)))

-- ---- transfers, remaining blocks and steps

at_no_dash : (targets : ChannelSet) (rest : TextValue) → list_all is_small targets ≡ true →
    is_dash (set_text targets ++ 64 ∷ rest) ≡ false
at_no_dash [] rest h = refl
at_no_dash (q ∷ []) rest h =
    starts_no_dash (decimal q) (64 ∷ rest) (some_digits q (both (is_small q) true h).0) (digits-decimal q)
at_no_dash (q ∷ p ∷ targets) rest h =
    ap is_dash (append_assoc (decimal q) (44 ∷ join_with_byte 44 (decimal p ∷ map decimal targets)) (64 ∷ rest))
    ∙ starts_no_dash (decimal q) (44 ∷ (join_with_byte 44 (decimal p ∷ map decimal targets) ++ 64 ∷ rest))
    (some_digits q (both (is_small q) (list_all is_small (p ∷ targets)) h).0) (digits-decimal q)

pub transfer_back : (o : Option TransferValue) → if_there is_transfer o ≡ true → transfer_read (transfer_text o) ≡ o
transfer_back None h = refl
transfer_back (Some t) h =
    let parts = both (is_set t.targets) (is_small t.start) h in
    let whole : transfer_text (Some t) ≡ set_text t.targets ++ 64 ∷ decimal t.start =
    append_assoc (set_text t.targets) (codes "@") (decimal t.start) in
    ap transfer_read whole
    ∙ ap (λ b. cond b None (transfer_at (pieces_at 64 (set_text t.targets ++ 64 ∷ decimal t.start))))
    (at_no_dash t.targets (decimal t.start) (set_small t.targets parts.0))
    ∙ ap transfer_at (split_first 64 (set_text t.targets) (decimal t.start)
    (plain_lacks_all 64 (set_text t.targets) refl (plain-set t.targets))
    ∙ ap (λ ps. set_text t.targets ∷ ps) (split_none 64 (decimal t.start) (lacks-decimal 64 t.start refl)))
    ∙ (let targets = set_back t.targets parts.0 in let start = number_back t.start parts.1 in
    λ i. Some (record { targets = targets i; start = start i }))

pub remaining_back : (o : Option ℕ) → if_there is_small o ≡ true → remaining_read (remaining_text o) ≡ o
remaining_back None h = refl
remaining_back (Some n) h =
    ap (λ b. cond b None (Some (number_in (decimal n)))) (number_no_dash n h) ∙ ap (λ k. Some k) (number_back n h)

step_back : (s : Actor) (rest : TextValue) → map step_of (step_text s ++ rest) ≡ s ∷ map step_of rest
step_back actor.Task rest = refl
step_back actor.Sweep rest = refl

letters_back : (steps : List Actor) → map step_of (flat_map step_text steps) ≡ steps
letters_back [] = refl
letters_back (s ∷ steps) = step_back s (flat_map step_text steps) ∙ ap (λ ss. s ∷ ss) (letters_back steps)

step_no_dash : (s : Actor) (rest : TextValue) → is_dash (step_text s ++ rest) ≡ false
step_no_dash actor.Task rest = refl
step_no_dash actor.Sweep rest = refl

pub steps_back : (steps : List Actor) → steps_read (steps_text steps) ≡ steps
steps_back [] = refl
steps_back (s ∷ steps) =
    ap (λ b. cond b [] (map step_of (flat_map step_text (s ∷ steps)))) (step_no_dash s (flat_map step_text steps))
    ∙ letters_back (s ∷ steps)
