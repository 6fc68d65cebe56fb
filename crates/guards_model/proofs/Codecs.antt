-- What a reader reads is spelled so, and what is spelled is read again: for each way to read.
use Rattle.std.proofs.Common.{◌≡◌, ℕ, zero, suc, ◌^◌, ◌<◌, ◌≤◌, ◌==◌, Bool, true, false, ◌&&◌, cond, ltb, List, [], ◌∷◌, ◌++◌, length, get_or, take, drop, Option, Some, None, refl, sym, ap, subst, ◌∙◌, append_assoc, arith, length-append, inl, inr}
use Rattle.std.specs.Prelude.{nat_lt, flat_map}
use Rattle.std.specs.List.{list_all}
use Rattle.std.specs.Int.{Width, w16, w32, w64, byte_len, from_be_bytes, to_be_bytes}
use Rattle.std.proofs.lemmas.Bool.{cases_lt, leb-true, eqb-true, ltb-false, le-ltb, lt-ltb}
use Rattle.std.proofs.lemmas.List.{take_at, drop_at, take-append-drop, length-take, get_or-take, get_or_past}
use Rattle.std.proofs.lemmas.Nat.{be_bytes_2, be_bytes_4, be_bytes_8, from_be_bytes-to_be_bytes_2, from_be_bytes-to_be_bytes_4, from_be_bytes-to_be_bytes_8}
use Rattle.guards_model.specs.Fields.{Reader, ◌>>=◌, mapped, checked, pair, many, byte_at, number_at, counted_by, optional_at}
use Rattle.guards_model.specs.Frames.{counted, optional, absent_or}

pub both : (a b : Bool) → (a && b) ≡ true → (a ≡ true) × (b ≡ true)
both true b h = (refl, h)
both false b h = absurd cc

pub and_true : (a b : Bool) → a ≡ true → b ≡ true → (a && b) ≡ true
and_true true b h k = k
and_true false b h k = h

-- ---- lists of bytes

abbrev pub IsBytes : List ℕ → Type 0
IsBytes bytes = (i : ℕ) → get_or bytes i 0 < 256

pub IsBytes-take : (n : ℕ) (bytes : List ℕ) → IsBytes bytes → IsBytes (take n bytes)
IsBytes-take n bytes h i =
    elim (cases_lt i n) [
      | inl lt ↦ rw (get_or-take n bytes i 0 lt) (h i)
      | inr le ↦ rw (get_or_past (take n bytes) i 0 (omega (arith, length-take n bytes))) (omega arith)
    ]

pub IsBytes-after : (front rest : List ℕ) → IsBytes (front ++ rest) → IsBytes rest
IsBytes-after [] rest h = h
IsBytes-after (b ∷ front) rest h = IsBytes-after front rest (λ i. h (suc i))

-- ---- steps

-- the value of a step that gave one
pub bind_some : {A B : Type 0} (r : Option A) (f : A → Option B) (y : B) → (r >>= f) ≡ Some y →
    (x : A) × (r ≡ Some x) × (f x ≡ Some y)
bind_some (Some x) f y e = (x, refl, e)
bind_some None f y e = absurd cc

-- a test that was passed
pub if_some : {A : Type 0} (b : Bool) (x y : A) → cond b (Some x) None ≡ Some y → (b ≡ true) × (x ≡ y)
if_some true x y e = (refl, cc)
if_some false x y e = absurd cc

abbrev some : {A : Type 0} → A → Option A
some x = Some x

pub some_is : {A : Type 0} (x y : A) → some x ≡ some y → x ≡ y
some_is x y e = cc

byte_front : (bytes : List ℕ) (b : ℕ) (rest : List ℕ) → byte_at bytes ≡ Some (b, rest) → bytes ≡ b ∷ rest
byte_front [] b rest e = absurd cc
byte_front (a ∷ bytes) b rest e =
    subst (λ (p : ℕ × List ℕ). a ∷ bytes ≡ p.0 ∷ p.1) (some_is (a, bytes) (b, rest) e) refl

-- a reader reads just the values that fit, each by its one spelling
pub record IsCodec {A : Type 0} (spell : A → List ℕ) (fits : A → Bool) (read : Reader A) : Type 0 where
  pub sound : (bytes : List ℕ) (x : A) (rest : List ℕ) → IsBytes bytes → read bytes ≡ Some (x, rest) →
      (fits x ≡ true) × (bytes ≡ spell x ++ rest)
  pub again : (x : A) (rest : List ℕ) → fits x ≡ true → read (spell x ++ rest) ≡ Some (x, rest)

pub mapped_codec : {A B : Type 0} (spell : A → List ℕ) (fits : A → Bool) (read : Reader A) (f : A → B) (g : B → A)
    (spell_b : B → List ℕ) (fits_b : B → Bool)
    → IsCodec spell fits read
    → ((a : A) → fits a ≡ true → (fits_b (f a) ≡ true) × (spell_b (f a) ≡ spell a))
    → ((b : B) → fits_b b ≡ true → (f (g b) ≡ b) × (fits (g b) ≡ true) × (spell_b b ≡ spell (g b)))
    → IsCodec spell_b fits_b (mapped f read)
mapped_codec {A} {B} spell fits read f g spell_b fits_b codec there back = record {
  sound = λ bytes y rest ok e.
      let a = bind_some (read bytes) (λ x. Some (f x.0, x.1)) (y, rest) e in
      let s = codec.sound bytes a.0.0 a.0.1 ok a.1 in
      let t = there a.0.0 s.0 in
      subst (λ (p : B × List ℕ). (fits_b p.0 ≡ true) × (bytes ≡ spell_b p.0 ++ p.1))
      (some_is (f a.0.0, a.0.1) (y, rest) a.2)
      (t.0, s.1 ∙ ap (λ front. front ++ a.0.1) (sym t.1));
  again = λ y rest h.
      let b = back y h in
      ap (λ front. mapped f read (front ++ rest)) b.2
      ∙ ap (λ r. r >>= λ (x : A × List ℕ). Some (f x.0, x.1)) (codec.again (g y) rest b.1)
      ∙ ap (λ z. Some (z, rest)) b.0;
}

pub checked_codec : {A : Type 0} (spell : A → List ℕ) (fits test : A → Bool) (read : Reader A) →
    IsCodec spell fits read → IsCodec spell (λ x. fits x && test x) (checked test read)
checked_codec {A} spell fits test read codec = record {
  sound = λ bytes y rest ok e.
      let a = bind_some (read bytes) (λ x. cond (test x.0) (Some x) None) (y, rest) e in
      let t = if_some (test a.0.0) a.0 (y, rest) a.2 in
      let s = codec.sound bytes a.0.0 a.0.1 ok a.1 in
      subst (λ (p : A × List ℕ). ((fits p.0 && test p.0) ≡ true) × (bytes ≡ spell p.0 ++ p.1)) t.1
      (and_true (fits a.0.0) (test a.0.0) s.0 t.0, s.1);
  again = λ y rest h.
      let t = both (fits y) (test y) h in
      ap (λ r. r >>= λ (x : A × List ℕ). cond (test x.0) (Some x) None) (codec.again y rest t.0)
      ∙ ap (λ b. cond b (Some (y, rest)) None) t.1;
}

pub pair_codec : {A B : Type 0} (spell_a : A → List ℕ) (fits_a : A → Bool) (read_a : Reader A) (spell_b : B → List ℕ)
    (fits_b : B → Bool) (read_b : Reader B)
    → IsCodec spell_a fits_a read_a → IsCodec spell_b fits_b read_b
    → IsCodec (λ (p : A × B). spell_a p.0 ++ spell_b p.1) (λ p. fits_a p.0 && fits_b p.1) (pair read_a read_b)
pair_codec {A} {B} spell_a fits_a read_a spell_b fits_b read_b ca cb = record {
  sound = λ bytes p rest ok e.
      let a = bind_some (read_a bytes) (λ x. read_b x.1 >>= λ y. Some ((x.0, y.0), y.1)) (p, rest) e in
      let b = bind_some (read_b a.0.1) (λ y. Some ((a.0.0, y.0), y.1)) (p, rest) a.2 in
      let s = ca.sound bytes a.0.0 a.0.1 ok a.1 in
      let t = cb.sound a.0.1 b.0.0 b.0.1 (IsBytes-after (spell_a a.0.0) a.0.1 (subst IsBytes s.1 ok)) b.1 in
      subst (λ (q : (A × B) × List ℕ). ((fits_a q.0.0 && fits_b q.0.1) ≡ true)
      × (bytes ≡ (spell_a q.0.0 ++ spell_b q.0.1) ++ q.1)) (some_is ((a.0.0, b.0.0), b.0.1) (p, rest) b.2) (
        and_true (fits_a a.0.0) (fits_b b.0.0) s.0 t.0,
        s.1 ∙ ap (λ r. spell_a a.0.0 ++ r) t.1 ∙ sym (append_assoc (spell_a a.0.0) (spell_b b.0.0) b.0.1),
      );
  again = λ p rest h.
      let t = both (fits_a p.0) (fits_b p.1) h in
      ap (pair read_a read_b) (append_assoc (spell_a p.0) (spell_b p.1) rest)
      ∙ ap (λ r. r >>= λ (x : A × List ℕ). read_b x.1 >>= λ y. Some ((x.0, y.0), y.1))
      (ca.again p.0 (spell_b p.1 ++ rest) t.0)
      ∙ ap (λ r. r >>= λ (y : B × List ℕ). Some ((p.0, y.0), y.1)) (cb.again p.1 rest t.1);
}

-- ---- lists

module _ {A : Type 0} (spell : A → List ℕ) (fits : A → Bool) (read : Reader A) (codec : IsCodec spell fits read) where
  pub many_sound : (n : ℕ) (bytes : List ℕ) (xs : List A) (rest : List ℕ) → IsBytes bytes →
      many read n bytes ≡ Some (xs, rest)
      → (length xs ≡ n) × (list_all fits xs ≡ true) × (bytes ≡ flat_map spell xs ++ rest)
  unfolding many
  many_sound zero bytes xs rest ok e =
      subst (λ (p : List A × List ℕ). (length p.0 ≡ 0) × (list_all fits p.0 ≡ true)
      × (bytes ≡ flat_map spell p.0 ++ p.1)) (some_is ([], bytes) (xs, rest) e) (refl, refl, refl)
  many_sound (suc n) bytes xs rest ok e =
      let a = bind_some (read bytes) (λ x. many read n x.1 >>= λ ys. Some (x.0 ∷ ys.0, ys.1)) (xs, rest) e in
      let b = bind_some (many read n a.0.1) (λ ys. Some (a.0.0 ∷ ys.0, ys.1)) (xs, rest) a.2 in
      let s = codec.sound bytes a.0.0 a.0.1 ok a.1 in
      let t = many_sound n a.0.1 b.0.0 b.0.1 (IsBytes-after (spell a.0.0) a.0.1 (subst IsBytes s.1 ok)) b.1 in
      subst (λ (p : List A × List ℕ). (length p.0 ≡ suc n) × (list_all fits p.0 ≡ true)
      × (bytes ≡ flat_map spell p.0 ++ p.1)) (some_is (a.0.0 ∷ b.0.0, b.0.1) (xs, rest) b.2) (
        ap suc t.0,
        and_true (fits a.0.0) (list_all fits b.0.0) s.0 t.1,
        s.1 ∙ ap (λ r. spell a.0.0 ++ r) t.2 ∙ sym (append_assoc (spell a.0.0) (flat_map spell b.0.0) b.0.1),
      )

  pub many_again : (xs : List A) (rest : List ℕ) → list_all fits xs ≡ true →
      many read (length xs) (flat_map spell xs ++ rest) ≡ Some (xs, rest)
  unfolding many
  many_again [] rest h = refl
  many_again (x ∷ xs) rest h =
      let t = both (fits x) (list_all fits xs) h in
      ap (many read (suc (length xs))) (append_assoc (spell x) (flat_map spell xs) rest)
      ∙ ap (λ r. r >>= λ (y : A × List ℕ). many read (length xs) y.1 >>= λ ys. Some (y.0 ∷ ys.0, ys.1))
      (codec.again x (flat_map spell xs ++ rest) t.0)
      ∙ ap (λ r. r >>= λ (ys : List A × List ℕ). Some (x ∷ ys.0, ys.1)) (many_again xs rest t.1)

  pub many_codec : (n : ℕ) → IsCodec (flat_map spell) (λ xs. length xs == n && list_all fits xs) (many read n)
  many_codec n = record {
    sound = λ bytes xs rest ok e.
        let s = many_sound n bytes xs rest ok e in
        (and_true (length xs == n) (list_all fits xs) (eq_true (length xs) n s.0) s.1, s.2);
    again = λ xs rest h.
        let t = both (length xs == n) (list_all fits xs) h in
        subst (λ k. many read k (flat_map spell xs ++ rest) ≡ Some (xs, rest)) (eqb-true (length xs) n t.0)
        (many_again xs rest t.1);
  }
    where
      eq_true : (a b : ℕ) → a ≡ b → (a == b) ≡ true
      eq_true a b h = grind (arith, h)

  pub counted_codec : (test : ℕ → Bool) →
      IsCodec (counted spell) (λ xs. test (length xs) && list_all fits xs) (counted_by test read)
  unfolding counted_by
  counted_codec test = record {
    sound = λ bytes xs rest ok e.
        let a = bind_some (checked test byte_at bytes) (λ n. many read n.0 n.1) (xs, rest) e in
        let b = bind_some (byte_at bytes) (λ n. cond (test n.0) (Some n) None) a.0 a.1 in
        let t = if_some (test b.0.0) b.0 a.0 b.2 in
        let front = byte_front bytes b.0.0 b.0.1 b.1 in
        let first : bytes ≡ a.0.0 ∷ a.0.1 = subst (λ (p : ℕ × List ℕ). bytes ≡ p.0 ∷ p.1) t.1 front in
        let s = many_sound a.0.0 a.0.1 xs rest (IsBytes-after (a.0.0 ∷ []) a.0.1 (subst IsBytes first ok)) a.2 in
        let passed : test a.0.0 ≡ true = subst (λ (p : ℕ × List ℕ). test p.0 ≡ true) t.1 t.0 in (
          and_true (test (length xs)) (list_all fits xs) (subst (λ k. test k ≡ true) (sym s.0) passed) s.1,
          first ∙ ap (λ k. k ∷ a.0.1) (sym s.0) ∙ ap (λ r. length xs ∷ r) s.2,
        );
    again = λ xs rest h.
        let t = both (test (length xs)) (list_all fits xs) h in
        ap (λ b. cond b (Some (length xs, flat_map spell xs ++ rest)) None >>= λ (n : ℕ × List ℕ). many read n.0 n.1)
        t.0
        ∙ many_again xs rest t.1;
  }

  optional_sound : (bytes : List ℕ) (o : Option A) (rest : List ℕ) → IsBytes bytes →
      optional_at read bytes ≡ Some (o, rest) → (absent_or fits o ≡ true) × (bytes ≡ optional spell o ++ rest)
  unfolding optional_at
  optional_sound [] o rest ok e = absurd cc
  optional_sound (zero ∷ bytes) o rest ok e =
      subst (λ (p : Option A × List ℕ). (absent_or fits p.0 ≡ true) × (0 ∷ bytes ≡ optional spell p.0 ++ p.1))
      (some_is (None, bytes) (o, rest) e) (refl, refl)
  optional_sound (suc zero ∷ bytes) o rest ok e =
      let a = bind_some (read bytes) (λ x. Some (Some x.0, x.1)) (o, rest) e in
      let s = codec.sound bytes a.0.0 a.0.1 (IsBytes-after (1 ∷ []) bytes ok) a.1 in
      subst (λ (p : Option A × List ℕ). (absent_or fits p.0 ≡ true) × (1 ∷ bytes ≡ optional spell p.0 ++ p.1))
      (some_is (Some a.0.0, a.0.1) (o, rest) a.2) (s.0, ap (λ r. 1 ∷ r) s.1)
  optional_sound (suc (suc b) ∷ bytes) o rest ok e = absurd cc

  optional_again : (o : Option A) (rest : List ℕ) → absent_or fits o ≡ true →
      optional_at read (optional spell o ++ rest) ≡ Some (o, rest)
  unfolding optional_at
  optional_again None rest h = refl
  optional_again (Some x) rest h = ap (λ r. r >>= λ (y : A × List ℕ). Some (Some y.0, y.1)) (codec.again x rest h)

  pub optional_codec : IsCodec (optional spell) (absent_or fits) (optional_at read)
  optional_codec = record { sound = optional_sound; again = optional_again }

-- ---- numbers

abbrev pub is_byte : ℕ → Bool
is_byte b = nat_lt b 256

pub byte_codec : IsCodec (λ b. b ∷ []) is_byte byte_at
byte_codec = record { sound = byte_sound; again = λ b rest h. refl }
  where
    byte_sound : (bytes : List ℕ) (b : ℕ) (rest : List ℕ) → IsBytes bytes → byte_at bytes ≡ Some (b, rest) →
        (is_byte b ≡ true) × (bytes ≡ (b ∷ []) ++ rest)
    byte_sound [] b rest ok e = absurd cc
    byte_sound (a ∷ bytes) b rest ok e =
        subst (λ (p : ℕ × List ℕ). (is_byte p.0 ≡ true) × (a ∷ bytes ≡ p.0 ∷ p.1)) (some_is (a, bytes) (b, rest) e)
        (lt-ltb a 256 (ok 0), refl)

pub record IsWide (w : Width) (limit : ℕ) : Type 0 where
  pub len : (n : ℕ) → length (to_be_bytes w n) ≡ byte_len w
  pub back : (bytes : List ℕ) → length bytes ≡ byte_len w → IsBytes bytes →
      to_be_bytes w (from_be_bytes w bytes) ≡ bytes
  pub once_more : (n : ℕ) → n < limit → from_be_bytes w (to_be_bytes w n) ≡ n
  pub below : (bytes : List ℕ) → IsBytes bytes → from_be_bytes w bytes < limit

pub wide16 : IsWide w16 (2 ^ 16)
wide16 = record {
  len = λ n. refl;
  back = λ bytes len ok. be_bytes_2 bytes _ len ok refl;
  once_more = λ n lt. from_be_bytes-to_be_bytes_2 n lt;
  below = λ bytes ok. omega (arith, ok 0, ok 1);
}

pub wide32 : IsWide w32 (2 ^ 32)
wide32 = record {
  len = λ n. refl;
  back = λ bytes len ok. be_bytes_4 bytes _ len ok refl;
  once_more = λ n lt. from_be_bytes-to_be_bytes_4 n lt;
  below = λ bytes ok. omega (arith, ok 0, ok 1, ok 2, ok 3);
}

pub wide64 : IsWide w64 (2 ^ 64)
wide64 = record {
  len = λ n. refl;
  back = λ bytes len ok. be_bytes_8 bytes _ len ok refl;
  once_more = λ n lt. from_be_bytes-to_be_bytes_8 n lt;
  below = λ bytes ok. omega (arith, ok 0, ok 1, ok 2, ok 3, ok 4, ok 5, ok 6, ok 7);
}

pub number_codec : (w : Width) (limit : ℕ) → IsWide w limit →
    IsCodec (to_be_bytes w) (λ n. nat_lt n limit) (number_at w)
number_codec w limit wide = record {
  sound = λ bytes n rest ok e.
      let g = none_or (nat_lt (length bytes) (byte_len w))
      (from_be_bytes w (take (byte_len w) bytes), drop (byte_len w) bytes) (n, rest) e in
      let long : byte_len w ≤ length bytes = ltb-false _ _ g.0 in
      let front : to_be_bytes w (from_be_bytes w (take (byte_len w) bytes)) ≡ take (byte_len w) bytes =
      wide.back (take (byte_len w) bytes) (omega (arith, length-take (byte_len w) bytes))
      (IsBytes-take (byte_len w) bytes ok) in
      subst (λ (p : ℕ × List ℕ). (nat_lt p.0 limit ≡ true) × (bytes ≡ to_be_bytes w p.0 ++ p.1)) g.1 (
        lt-ltb _ limit (wide.below (take (byte_len w) bytes) (IsBytes-take (byte_len w) bytes ok)),
        rw front (sym (take-append-drop (byte_len w) bytes)),
      );
  again = λ n rest h.
      let len = wide.len n in
      let long : ltb (length (to_be_bytes w n ++ rest)) (byte_len w) ≡ false =
      le-ltb _ _ (omega (arith, length-append (to_be_bytes w n) rest)) in
      let lt : n < limit = omega (arith, leb-true (suc n) limit h) in
      rw (
        long,
        take_at (to_be_bytes w n) rest (byte_len w) len,
        drop_at (to_be_bytes w n) rest (byte_len w) len,
        wide.once_more n lt,
      ) refl;
}
  where
    none_or : {A : Type 0} (b : Bool) (x y : A) → cond b None (Some x) ≡ Some y → (b ≡ false) × (x ≡ y)
    none_or true x y e = absurd cc
    none_or false x y e = (refl, cc)
