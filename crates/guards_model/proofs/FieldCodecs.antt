-- Each field is read as it is spelled.
use Rattle.std.proofs.Common.{◌≡◌, ℕ, zero, suc, ◌+◌, ◌-◌, ◌^◌, ◌<◌, ◌≤◌, ◌==◌, Bool, true, false, ◌&&◌, cond, ltb, List, [], ◌∷◌, ◌++◌, length, take, drop, Option, Some, None, refl, sym, ap, subst, arith, length-append}
use Rattle.std.specs.Prelude.{nat_le, nat_lt, flat_map, if◌then◌else◌}
use Rattle.std.specs.List.{list_all}
use Rattle.std.specs.Int.{w16, w32, w64, to_be_bytes, cast_signed, cast_unsigned}
use Rattle.std.proofs.lemmas.Bool.{leb-true, le-leb, eqb-true, lt-ltb, ltb-false, le-ltb}
use Rattle.std.proofs.lemmas.Int.{of_z-to_z}
use Rattle.std.proofs.lemmas.List.{take_at, drop_at, take-append-drop, length-take}
use Rattle.guards_model.specs.Channels.{by_channel, mask, set_of_mask}
use Rattle.guards_model.proofs.Masks.{mask_back}
use Rattle.guards_model.specs.declared.Law.{Law}
use Rattle.guards_model.specs.declared.Law.TheVariants.{Multiply, Subtract}
use Rattle.guards_model.specs.Words.{is_word}
use Rattle.guards_model.specs.Frames.{u32, i64, is_set, is_channel, fits_u32, between, counted, optional, absent_or, packed_codes, source_word_bytes, item_bytes, copy_bytes, names_law, law_byte, law_bytes, control_bytes, words_in_range, codes_in_range, source_word_in_range, path_in_range, item_in_range, items_ascend, copy_in_range, copies_in_range, numbers_of, is_distinct, each_next, count_cap, counts_in_range, law_in_range, control_in_range}
use Rattle.guards_model.specs.Fields.{unpacked_codes}
use Rattle.guards_model.specs.Fields.{Reader, mapped, checked, pair, many, byte_at, number_at, counted_by, optional_at, word_at, channel_at, set_at, law_at, codes_at, source_word_at, labels_at, path_at, item_at, copy_at, count_at, control_law_at, control_at, items_at, swept_copies_at, final_copies_at}
use Rattle.guards_model.proofs.Codecs.{both, and_true, some_is, IsCodec, mapped_codec, checked_codec, pair_codec, many_codec, counted_codec, optional_codec, is_byte, byte_codec, wide16, wide32, wide64, number_codec}
use Rattle.guards_model.proofs.Numbers.{weaken, word_fits, word_below, is_word_of, set_again, mask_below, is_set_of_mask, codes_again, packed_below, packed_again, unpacked_in_range}

-- the same codec, where the test of what fits is written another way
pub refitted : {A : Type 0} (spell : A → List ℕ) (fits fits_too : A → Bool) (read : Reader A) → IsCodec spell fits read
    → ((x : A) → fits x ≡ true → fits_too x ≡ true) → ((x : A) → fits_too x ≡ true → fits x ≡ true) →
    IsCodec spell fits_too read
refitted spell fits fits_too read codec to from = record {
  sound = λ bytes x rest ok e. let s = codec.sound bytes x rest ok e in (to x s.0, s.1);
  again = λ x rest h. codec.again x rest (from x h);
}

below_of : (n k : ℕ) → nat_lt n k ≡ true → n < k
below_of n k h = omega (arith, leb-true (suc n) k h)

-- ---- numbers and words

pub u32_codec : IsCodec u32 fits_u32 (number_at w32)
unfolding u32
u32_codec = number_codec w32 (2 ^ 32) wide32

pub word_codec : IsCodec i64 is_word word_at
unfolding word_at i64
word_codec =
    mapped_codec (to_be_bytes w64) (λ n. nat_lt n (2 ^ 64)) (number_at w64) (cast_signed w64) (cast_unsigned w64) i64
    is_word (number_codec w64 (2 ^ 64) wide64)
    (λ n h. (is_word_of n (below_of n (2 ^ 64) h), ap (to_be_bytes w64) (of_z-to_z w64 n (below_of n (2 ^ 64) h))))
    (λ z h. (word_fits z h, lt-ltb _ (2 ^ 64) (word_below z h), refl))

pub words_codec : (low high : ℕ) →
    IsCodec (counted i64) (words_in_range low high) (counted_by (between low high) word_at)
words_codec low high = counted_codec i64 is_word word_at word_codec (between low high)

-- a byte that passes a test which only bytes pass
pub tested_byte : (test : ℕ → Bool) → ((b : ℕ) → test b ≡ true → is_byte b ≡ true) →
    IsCodec (λ b. b ∷ []) test (checked test byte_at)
tested_byte test small =
    refitted (λ b. b ∷ []) (λ b. is_byte b && test b) test (checked test byte_at)
    (checked_codec (λ b. b ∷ []) is_byte test byte_at byte_codec)
    (λ b h. (both (is_byte b) (test b) h).1) (λ b h. and_true (is_byte b) (test b) (small b h) h)

under : (b k : ℕ) → k ≤ 256 → nat_lt b k ≡ true → is_byte b ≡ true
under b k le h = lt-ltb b 256 (omega (arith, below_of b k h, le))

pub channel_codec : IsCodec (λ q. q ∷ []) is_channel channel_at
unfolding channel_at
channel_codec = tested_byte is_channel (λ b h. under b 7 (omega arith) h)

pub set_codec : IsCodec (λ set. mask set ∷ []) is_set set_at
unfolding set_at
set_codec =
    mapped_codec (λ b. b ∷ []) (λ b. nat_lt b 128) (checked (λ b. nat_lt b 128) byte_at) set_of_mask mask
    (λ set. mask set ∷ []) is_set
    (tested_byte (λ b. nat_lt b 128) (λ b h. under b 128 (omega arith) h))
    (λ b h. (is_set_of_mask b (below_of b 128 h), ap (λ m. m ∷ []) (mask_back b (below_of b 128 h))))
    (λ set h. (set_again set h, mask_below set h, refl))

-- ---- codes and source words

seven_of : (n : ℕ) → (length (unpacked_codes n) == 7) ≡ true
unfolding unpacked_codes by_channel
seven_of n = refl

abbrev pub codes_bytes : List ℕ → List ℕ
codes_bytes heard = to_be_bytes w16 (packed_codes heard)

abbrev three_codes : List ℕ → Bool
three_codes heard = length heard == 7 && list_all (λ code. nat_le code 3) heard

pub codes_codec : IsCodec codes_bytes codes_in_range codes_at
unfolding codes_at
codes_codec =
    let numbers = checked_codec (to_be_bytes w16) (λ n. nat_lt n (2 ^ 16)) (λ n. nat_lt n (4 ^ 7)) (number_at w16)
    (number_codec w16 (2 ^ 16) wide16) in
    let unpacked = mapped_codec (to_be_bytes w16) (λ n. nat_lt n (2 ^ 16) && nat_lt n (4 ^ 7))
    (checked (λ n. nat_lt n (4 ^ 7)) (number_at w16)) unpacked_codes packed_codes codes_bytes three_codes numbers
    (λ n h. (
      and_true (length (unpacked_codes n) == 7) _ (seven_of n) (unpacked_in_range n),
      ap (to_be_bytes w16) (packed_again n (below_of n (4 ^ 7) (both (nat_lt n (2 ^ 16)) (nat_lt n (4 ^ 7)) h).1)),
    ))
    (λ heard h.
    let t = both (length heard == 7) (list_all (λ code. nat_le code 3) heard) h in
    let b : packed_codes heard < 4 ^ 7 = packed_below heard t.0 t.1 in
    (codes_again heard t.0 t.1, and_true _ _ (lt-ltb _ (2 ^ 16) (omega (arith, b))) (lt-ltb _ (4 ^ 7) b), refl)) in
    let tested = checked_codec codes_bytes three_codes (list_all (λ code. nat_le code 2))
    (mapped unpacked_codes (checked (λ n. nat_lt n (4 ^ 7)) (number_at w16))) unpacked in
    refitted codes_bytes (λ heard. three_codes heard && list_all (λ code. nat_le code 2) heard) codes_in_range codes_at
    tested
    (λ heard h.
    let t = both (three_codes heard) (list_all (λ code. nat_le code 2) heard) h in
    and_true (length heard == 7) _ (both (length heard == 7) _ t.0).0 t.1)
    (λ heard h.
    let t = both (length heard == 7) (list_all (λ code. nat_le code 2) heard) h in
    and_true (three_codes heard) _
    (and_true (length heard == 7) _ t.0
    (weaken (λ code. nat_le code 2) (λ code. nat_le code 3) heard
    (λ code l. le-leb code 3 (omega (arith, leb-true code 2 l))) t.1)) t.1)

pub source_word_codec : IsCodec source_word_bytes source_word_in_range source_word_at
unfolding source_word_at
source_word_codec =
    let tail = pair_codec (λ set. mask set ∷ []) is_set set_at codes_bytes codes_in_range codes_at set_codec
    codes_codec in
    let whole = pair_codec (counted i64) (words_in_range 1 4) (counted_by (between 1 4) word_at)
    (λ p. (mask p.0 ∷ []) ++ codes_bytes p.1) (λ p. is_set p.0 && codes_in_range p.1) (pair set_at codes_at)
    (words_codec 1 4) tail in
    mapped_codec _ _ _ (λ x. record { words = x.0; accuse = x.1.0; heard = x.1.1 })
    (λ w. (w.words, (w.accuse, w.heard))) source_word_bytes source_word_in_range whole
    (λ x h. (h, refl)) (λ w h. (refl, h, refl))

-- ---- items

pub labels_codec : (n : ℕ) → IsCodec (λ (path : List ℕ). path) (λ path. length path == n) (labels_at n)
unfolding labels_at
labels_codec n = record {
  sound = λ bytes path rest ok e.
      let g = none_or (nat_lt (length bytes) n) (take n bytes, drop n bytes) (path, rest) e in
      let long : n ≤ length bytes = ltb-false _ _ g.0 in
      let whole : length (take n bytes) ≡ n = omega (arith, length-take n bytes) in
      subst (λ (p : List ℕ × List ℕ). ((length p.0 == n) ≡ true) × (bytes ≡ p.0 ++ p.1)) g.1
      (grind (arith, whole), sym (take-append-drop n bytes));
  again = λ path rest h.
      let len : length path ≡ n = eqb-true (length path) n h in
      let long : ltb (length (path ++ rest)) n ≡ false = le-ltb _ _ (omega (arith, length-append path rest, len)) in
      rw (long, take_at path rest n len, drop_at path rest n len) refl;
}
  where
    none_or : {A : Type 0} (b : Bool) (x y : A) → cond b None (Some x) ≡ Some y → (b ≡ false) × (x ≡ y)
    none_or true x y e = absurd cc
    none_or false x y e = (refl, cc)

eq_true : (a b : ℕ) → a ≡ b → (a == b) ≡ true
eq_true a b h = grind (arith, h)

pub item_codec : (sender round : ℕ) → 1 ≤ round → IsCodec item_bytes (item_in_range sender round) (item_at sender round)
unfolding item_at path_at
item_codec sender round low =
    let paths = checked_codec (λ path. path) (λ path. length path == round - 1) (path_in_range sender)
    (labels_at (round - 1)) (labels_codec (round - 1)) in
    let path = refitted (λ path. path) (λ path. (length path == round - 1) && path_in_range sender path)
    (λ path. (length path + 1 == round) && path_in_range sender path) (path_at sender round) paths
    (λ p h. let t = both (length p == round - 1) (path_in_range sender p) h in
    and_true (length p + 1 == round) _
    (eq_true (length p + 1) round (omega (arith, eqb-true (length p) (round - 1) t.0, low))) t.1)
    (λ p h. let t = both (length p + 1 == round) (path_in_range sender p) h in
    and_true (length p == round - 1) _
    (eq_true (length p) (round - 1) (omega (arith, eqb-true (length p + 1) round t.0, low))) t.1) in
    let value = optional_codec source_word_bytes source_word_in_range source_word_at source_word_codec in
    let whole = pair_codec (λ path. path) (λ path. (length path + 1 == round) && path_in_range sender path)
    (path_at sender round) (optional source_word_bytes) (absent_or source_word_in_range)
    (optional_at source_word_at) path value in
    mapped_codec _ _ _ (λ x. record { path = x.0; word = x.1 }) (λ i. (i.path, i.word)) item_bytes
    (item_in_range sender round) whole
    (λ x h. (h, refl)) (λ i h. (refl, h, refl))

pub items_codec : (sender round : ℕ) → 1 ≤ round
    → IsCodec (counted item_bytes)
    (λ items. (nat_le (length items) 30 && list_all (item_in_range sender round) items) && items_ascend items)
    (items_at sender round)
unfolding items_at
items_codec sender round low =
    checked_codec (counted item_bytes)
    (λ items. nat_le (length items) 30 && list_all (item_in_range sender round) items) items_ascend
    (counted_by (λ n. nat_le n 30) (item_at sender round))
    (counted_codec item_bytes (item_in_range sender round) (item_at sender round) (item_codec sender round low)
    (λ n. nat_le n 30))

-- ---- copies and control words

pub copy_codec : IsCodec copy_bytes copy_in_range copy_at
unfolding copy_at
copy_codec =
    let whole = pair_codec (λ b. b ∷ []) is_byte byte_at (flat_map i64) (λ ws. length ws == 8 && list_all is_word ws)
    (many word_at 8) byte_codec (many_codec i64 is_word word_at word_codec 8) in
    mapped_codec _ _ _ (λ x. record { block = x.0; words = x.1 }) (λ c. (c.block, c.words)) copy_bytes copy_in_range
    whole
    (λ x h. (h, refl)) (λ c h. (refl, h, refl))

pub swept_copies_codec : IsCodec (counted copy_bytes) (λ cs. copies_in_range 1 64 cs && is_distinct (numbers_of cs))
    swept_copies_at
unfolding swept_copies_at
swept_copies_codec =
    checked_codec (counted copy_bytes) (copies_in_range 1 64) (λ cs. is_distinct (numbers_of cs))
    (counted_by (between 1 64) copy_at)
    (counted_codec copy_bytes copy_in_range copy_at copy_codec (between 1 64))

pub final_copies_codec : IsCodec (counted copy_bytes)
    (λ cs. copies_in_range 0 64 cs && each_next nat_lt (numbers_of cs)) final_copies_at
unfolding final_copies_at
final_copies_codec =
    checked_codec (counted copy_bytes) (copies_in_range 0 64) (λ cs. each_next nat_lt (numbers_of cs))
    (counted_by (between 0 64) copy_at)
    (counted_codec copy_bytes copy_in_range copy_at copy_codec (between 0 64))

pub count_codec : IsCodec u32 (λ n. nat_le n count_cap) count_at
unfolding count_at
count_codec =
    refitted u32 (λ n. fits_u32 n && nat_le n count_cap) (λ n. nat_le n count_cap) count_at
    (checked_codec u32 fits_u32 (λ n. nat_le n count_cap) (number_at w32) u32_codec)
    (λ n h. (both (fits_u32 n) (nat_le n count_cap) h).1)
    (λ n h. and_true (fits_u32 n) (nat_le n count_cap) (lt-ltb n (2 ^ 32) (omega (arith, leb-true n count_cap h))) h)

law_sound : (bytes : List ℕ) (law : Law) (rest : List ℕ) → law_at bytes ≡ Some (law, rest) → bytes ≡ law_byte law ∷ rest
unfolding law_at
law_sound [] law rest e = absurd cc
law_sound (zero ∷ bytes) law rest e = absurd cc
law_sound (suc zero ∷ bytes) law rest e =
    subst (λ (p : Law × List ℕ). 1 ∷ bytes ≡ law_byte p.0 ∷ p.1) (some_is (Multiply, bytes) (law, rest) e) refl
law_sound (suc (suc zero) ∷ bytes) law rest e =
    subst (λ (p : Law × List ℕ). 2 ∷ bytes ≡ law_byte p.0 ∷ p.1) (some_is (Subtract, bytes) (law, rest) e) refl
law_sound (suc (suc (suc b)) ∷ bytes) law rest e = absurd cc

law_again : (law : Law) (rest : List ℕ) → law_at (law_byte law ∷ rest) ≡ Some (law, rest)
unfolding law_at
law_again Multiply rest = refl
law_again Subtract rest = refl

always_in_range : (law : Law) → law_in_range true law ≡ true
always_in_range Multiply = refl
always_in_range Subtract = refl

abbrev read_law : Law → List ℕ → Option (Law × List ℕ)
read_law law rest = Some (law, rest)

unnamed : (law : Law) (rest : List ℕ) → law_in_range false law ≡ true → read_law Multiply rest ≡ read_law law rest
unnamed Multiply rest h = refl
unnamed Subtract rest h = absurd cc

named_law_codec : (named : Bool) →
    IsCodec (law_bytes named) (law_in_range named) (λ bytes. if named then law_at bytes else Some (Multiply, bytes))
named_law_codec true = record {
  sound = λ bytes law rest ok e. (always_in_range law, law_sound bytes law rest e);
  again = λ law rest h. law_again law rest;
}
named_law_codec false = record {
  sound = λ bytes law rest ok e.
      subst (λ (p : Law × List ℕ). (law_in_range false p.0 ≡ true) × (bytes ≡ p.1))
      (some_is (Multiply, bytes) (law, rest) e) (refl, refl);
  again = λ law rest h. unnamed law rest h;
}

pub control_law_codec : (version : ℕ) →
    IsCodec (law_bytes (names_law version)) (law_in_range (names_law version)) (control_law_at version)
unfolding control_law_at
control_law_codec version = named_law_codec (names_law version)

pub control_codec : (version : ℕ) → IsCodec (control_bytes version) (control_in_range version) (control_at version)
unfolding control_at
control_codec version =
    let counts = many_codec u32 (λ n. nat_le n count_cap) count_at count_codec 7 in
    let fresh = pair_codec (λ set. mask set ∷ []) is_set set_at (flat_map u32) counts_in_range (many count_at 7)
    set_codec counts in
    let sets = pair_codec (λ set. mask set ∷ []) is_set set_at _ _ (pair set_at (many count_at 7)) set_codec fresh in
    let whole = pair_codec (law_bytes (names_law version)) (law_in_range (names_law version)) (control_law_at version) _
    _ (pair set_at (pair set_at (many count_at 7))) (control_law_codec version) sets in
    mapped_codec _ _ _ (λ x. record { law = x.0; active = x.1.0; fresh = x.1.1.0; counts = x.1.1.1 })
    (λ w. (w.law, (w.active, (w.fresh, w.counts)))) (control_bytes version) (control_in_range version) whole
    (λ x h. (h, refl)) (λ w h. (refl, h, refl))
