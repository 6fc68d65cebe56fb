-- The items of a frame that is read have words in range, whatever numbers the list is of.
use Rattle.std.proofs.Common.{◌≡◌, ℕ, zero, suc, ◌^◌, ◌==◌, Bool, true, ◌&&◌, cond, List, [], ◌∷◌, length, Option, Some, None, refl, subst, ap, ◌∙◌, arith}
use Rattle.std.specs.Prelude.{nat_lt, nat_le}
use Rattle.std.specs.List.{list_all}
use Rattle.std.specs.Int.{w16, w32, w64, cast_signed}
use Rattle.std.proofs.lemmas.Bool.{leb-true}
use Rattle.guards_model.specs.Words.{is_word}
use Rattle.guards_model.specs.Channels.{Channel, by_channel, set_of_mask}
use Rattle.guards_model.specs.Frames.{ItemValue, BodyValue, request_body, exchange_body, vote_body, sweep_body, final_body, switch_body, FrameValue, between, is_set, absent_or, words_in_range, codes_in_range, source_word_in_range, items_ascend}
use Rattle.guards_model.specs.Fields.{Reader, ◌>>=◌, mapped, checked, pair, many, byte_at, number_at, counted_by, optional_at, word_at, unpacked_codes, channel_at, set_at, codes_at, source_word_at, path_at, item_at, items_at, request_at, exchange_at, vote_at, swept_copies_at, sweep_at, final_copies_at, control_at, final_at, switch_at, body_at, frame_at, frame_in}
use Rattle.guards_model.specs.Network.{items_of}
use Rattle.guards_model.proofs.BoolTests.{both, and_true}
use Rattle.guards_model.proofs.Codecs.{bind_some, if_some, some_is}
use Rattle.guards_model.proofs.Numbers.{is_set_of_mask}
use Rattle.guards_model.proofs.ValueWords.{from_bits}

-- what a reader reads passes a test
abbrev pub Gives : {A : Type 0} → (A → Bool) → Reader A → Type 0
Gives {A} fits read = (bytes : List ℕ) (x : A) (rest : List ℕ) → read bytes ≡ Some (x, rest) → fits x ≡ true

abbrev anything : {A : Type 0} → A → Bool
anything x = true

gives_anything : {A : Type 0} (read : Reader A) → Gives anything read
gives_anything read bytes x rest e = refl

mapped_gives : {A B : Type 0} (fits : A → Bool) (read : Reader A) (f : A → B) (fits_b : B → Bool) → Gives fits read →
    ((a : A) → fits a ≡ true → fits_b (f a) ≡ true) → Gives fits_b (mapped f read)
mapped_gives {A} {B} fits read f fits_b gives to bytes y rest e =
    let a = bind_some (read bytes) (λ x. Some (f x.0, x.1)) (y, rest) e in
    subst (λ (p : B × List ℕ). fits_b p.0 ≡ true) (some_is (f a.0.0, a.0.1) (y, rest) a.2)
    (to a.0.0 (gives bytes a.0.0 a.0.1 a.1))

checked_gives : {A : Type 0} (fits test : A → Bool) (read : Reader A) → Gives fits read →
    Gives (λ x. fits x && test x) (checked test read)
checked_gives {A} fits test read gives bytes y rest e =
    let a = bind_some (read bytes) (λ x. cond (test x.0) (Some x) None) (y, rest) e in
    let t = if_some (test a.0.0) a.0 (y, rest) a.2 in
    subst (λ (p : A × List ℕ). (fits p.0 && test p.0) ≡ true) t.1
    (and_true (fits a.0.0) (test a.0.0) (gives bytes a.0.0 a.0.1 a.1) t.0)

pair_gives : {A B : Type 0} (fits_a : A → Bool) (read_a : Reader A) (fits_b : B → Bool) (read_b : Reader B) →
    Gives fits_a read_a → Gives fits_b read_b → Gives (λ (p : A × B). fits_a p.0 && fits_b p.1) (pair read_a read_b)
pair_gives {A} {B} fits_a read_a fits_b read_b gives_a gives_b bytes p rest e =
    let a = bind_some (read_a bytes) (λ x. read_b x.1 >>= λ y. Some ((x.0, y.0), y.1)) (p, rest) e in
    let b = bind_some (read_b a.0.1) (λ y. Some ((a.0.0, y.0), y.1)) (p, rest) a.2 in
    subst (λ (q : (A × B) × List ℕ). (fits_a q.0.0 && fits_b q.0.1) ≡ true)
    (some_is ((a.0.0, b.0.0), b.0.1) (p, rest) b.2)
    (and_true (fits_a a.0.0) (fits_b b.0.0) (gives_a bytes a.0.0 a.0.1 a.1) (gives_b a.0.1 b.0.0 b.0.1 b.1))

module _ {A : Type 0} (fits : A → Bool) (read : Reader A) (gives : Gives fits read) where
  many_gives : (n : ℕ) (bytes : List ℕ) (xs : List A) (rest : List ℕ) → many read n bytes ≡ Some (xs, rest) →
      (length xs ≡ n) × (list_all fits xs ≡ true)
  unfolding many
  many_gives zero bytes xs rest e =
      subst (λ (p : List A × List ℕ). (length p.0 ≡ 0) × (list_all fits p.0 ≡ true)) (some_is ([], bytes) (xs, rest) e)
      (refl, refl)
  many_gives (suc n) bytes xs rest e =
      let a = bind_some (read bytes) (λ x. many read n x.1 >>= λ ys. Some (x.0 ∷ ys.0, ys.1)) (xs, rest) e in
      let b = bind_some (many read n a.0.1) (λ ys. Some (a.0.0 ∷ ys.0, ys.1)) (xs, rest) a.2 in
      let t = many_gives n a.0.1 b.0.0 b.0.1 b.1 in
      subst (λ (p : List A × List ℕ). (length p.0 ≡ suc n) × (list_all fits p.0 ≡ true))
      (some_is (a.0.0 ∷ b.0.0, b.0.1) (xs, rest) b.2)
      (ap suc t.0, and_true (fits a.0.0) (list_all fits b.0.0) (gives bytes a.0.0 a.0.1 a.1) t.1)

  counted_gives : (test : ℕ → Bool) → Gives (λ xs. test (length xs) && list_all fits xs) (counted_by test read)
  unfolding counted_by
  counted_gives test bytes xs rest e =
      let a = bind_some (checked test byte_at bytes) (λ n. many read n.0 n.1) (xs, rest) e in
      let passed = checked_gives anything test byte_at (gives_anything byte_at) bytes a.0.0 a.0.1 a.1 in
      let t = many_gives a.0.0 a.0.1 xs rest a.2 in
      and_true (test (length xs)) (list_all fits xs) (ap test t.0 ∙ passed) t.1

  optional_gives : Gives (absent_or fits) (optional_at read)
  unfolding optional_at
  optional_gives [] o rest e = absurd cc
  optional_gives (zero ∷ bytes) o rest e =
      subst (λ (p : Option A × List ℕ). absent_or fits p.0 ≡ true) (some_is (None, bytes) (o, rest) e) refl
  optional_gives (suc zero ∷ bytes) o rest e =
      mapped_gives fits read (λ x. Some x) (absent_or fits) gives (λ a h. h) bytes o rest e
  optional_gives (suc (suc b) ∷ bytes) o rest e = absurd cc

-- ---- fields

word_gives : Gives is_word word_at
unfolding word_at
word_gives = mapped_gives anything (number_at w64) (cast_signed w64) is_word (gives_anything (number_at w64))
    (λ n h. from_bits n)

set_gives : Gives is_set set_at
unfolding set_at
set_gives =
    mapped_gives (λ b. true && nat_lt b 128) (checked (λ b. nat_lt b 128) byte_at) set_of_mask is_set
    (checked_gives anything (λ b. nat_lt b 128) byte_at (gives_anything byte_at))
    (λ b h. is_set_of_mask b (omega (arith, leb-true (suc b) 128 h)))

seven : (n : ℕ) → (length (unpacked_codes n) == 7) ≡ true
unfolding unpacked_codes by_channel
seven n = refl

codes_gives : Gives codes_in_range codes_at
unfolding codes_at
codes_gives =
    checked_gives (λ codes. length codes == 7) (list_all (λ code. nat_le code 2))
    (mapped unpacked_codes (checked (λ n. nat_lt n (4 ^ 7)) (number_at w16)))
    (mapped_gives anything (checked (λ n. nat_lt n (4 ^ 7)) (number_at w16)) unpacked_codes (λ codes. length codes == 7)
    (gives_anything (checked (λ n. nat_lt n (4 ^ 7)) (number_at w16))) (λ n h. seven n))

source_word_gives : Gives source_word_in_range source_word_at
unfolding source_word_at
source_word_gives =
    mapped_gives _ (pair (counted_by (between 1 4) word_at) (pair set_at codes_at))
    (λ x. record { words = x.0; accuse = x.1.0; heard = x.1.1 }) source_word_in_range
    (pair_gives (words_in_range 1 4) (counted_by (between 1 4) word_at) _ (pair set_at codes_at)
    (counted_gives is_word word_at word_gives (between 1 4))
    (pair_gives is_set set_at codes_in_range codes_at set_gives codes_gives))
    (λ x h. h)

-- ---- items and frames

abbrev pub item_word_in_range : ItemValue → Bool
item_word_in_range i = absent_or source_word_in_range i.word

item_gives : (sender : Channel) (round : ℕ) → Gives item_word_in_range (item_at sender round)
unfolding item_at
item_gives sender round =
    mapped_gives (λ x. true && absent_or source_word_in_range x.1)
    (pair (path_at sender round) (optional_at source_word_at)) (λ x. record { path = x.0; word = x.1 })
    item_word_in_range
    (pair_gives anything (path_at sender round) (absent_or source_word_in_range) (optional_at source_word_at)
    (gives_anything (path_at sender round)) (optional_gives source_word_in_range source_word_at source_word_gives))
    (λ x h. h)

abbrev pub has_words_in_range : BodyValue → Bool
has_words_in_range b = list_all item_word_in_range (items_of (Some b))

items_gives : (sender : Channel) (round : ℕ) (bytes : List ℕ) (items : List ItemValue) (rest : List ℕ) →
    items_at sender round bytes ≡ Some (items, rest) → list_all item_word_in_range items ≡ true
unfolding items_at
items_gives sender round bytes items rest e =
    let h = checked_gives (λ xs. nat_le (length xs) 30 && list_all item_word_in_range xs) items_ascend
    (counted_by (λ n. nat_le n 30) (item_at sender round))
    (counted_gives item_word_in_range (item_at sender round) (item_gives sender round) (λ n. nat_le n 30)) bytes items
    rest e in
    (both (nat_le (length items) 30) (list_all item_word_in_range items)
    (both (nat_le (length items) 30 && list_all item_word_in_range items) (items_ascend items) h).0).1

exchange_gives : (sender : Channel) → Gives has_words_in_range (exchange_at sender)
unfolding exchange_at
exchange_gives sender bytes b rest e =
    let r = bind_some (checked (between 1 3) byte_at bytes)
    (λ round. items_at sender round.0 round.1 >>= λ items.
    Some (exchange_body (record { round = round.0; items = items.0 }), items.1)) (b, rest) e in
    let i = bind_some (items_at sender r.0.0 r.0.1)
    (λ items. Some (exchange_body (record { round = r.0.0; items = items.0 }), items.1)) (b, rest) r.2 in
    subst (λ (p : BodyValue × List ℕ). has_words_in_range p.0 ≡ true)
    (some_is (exchange_body (record { round = r.0.0; items = i.0.0 }), i.0.1) (b, rest) i.2)
    (items_gives sender r.0.0 r.0.1 i.0.0 i.0.1 i.1)

body_gives : (version k : ℕ) (sender : Channel) → Gives has_words_in_range (body_at version k sender)
unfolding body_at request_at vote_at sweep_at final_at switch_at
body_gives version zero sender bytes b rest e = absurd cc
body_gives version (suc zero) sender bytes b rest e =
    mapped_gives anything (optional_at (number_at w32)) request_body has_words_in_range
    (gives_anything (optional_at (number_at w32))) (λ a h. refl) bytes b rest e
body_gives version (suc (suc zero)) sender bytes b rest e = exchange_gives sender bytes b rest e
body_gives version (suc (suc (suc zero))) sender bytes b rest e =
    mapped_gives anything (counted_by (between 1 8) word_at) vote_body has_words_in_range
    (gives_anything (counted_by (between 1 8) word_at)) (λ a h. refl) bytes b rest e
body_gives version (suc (suc (suc (suc zero)))) sender bytes b rest e =
    mapped_gives anything (pair channel_at (pair (number_at w32) swept_copies_at))
    (λ x. sweep_body (record { target = x.0; start = x.1.0; copies = x.1.1 })) has_words_in_range
    (gives_anything (pair channel_at (pair (number_at w32) swept_copies_at))) (λ a h. refl) bytes b rest e
body_gives version (suc (suc (suc (suc (suc zero))))) sender bytes b rest e =
    mapped_gives anything (pair channel_at (pair (number_at w32) (pair final_copies_at (control_at version))))
    (λ x. final_body (record { target = x.0; start = x.1.0; copies = x.1.1.0; control = x.1.1.1 }))
    has_words_in_range (gives_anything
    (pair channel_at (pair (number_at w32) (pair final_copies_at (control_at version))))) (λ a h. refl) bytes b rest
    e
body_gives version (suc (suc (suc (suc (suc (suc zero)))))) sender bytes b rest e =
    mapped_gives anything set_at switch_body has_words_in_range (gives_anything set_at) (λ a h. refl) bytes b rest e
body_gives version (suc (suc (suc (suc (suc (suc (suc k))))))) sender bytes b rest e = absurd cc

frame_gives : Gives (λ f. has_words_in_range f.body) frame_at
unfolding frame_at
frame_gives bytes f rest e =
    let m = bind_some (checked (λ b. b == 0x47) byte_at bytes) _ (f, rest) e in
    let v = bind_some (checked (between 1 2) byte_at m.0.1) _ (f, rest) m.2 in
    let k = bind_some (byte_at v.0.1) _ (f, rest) v.2 in
    let s = bind_some (channel_at k.0.1) _ (f, rest) k.2 in
    let c = bind_some (number_at w32 s.0.1) _ (f, rest) s.2 in
    let b = bind_some (body_at v.0.0 k.0.0 s.0.0 c.0.1) _ (f, rest) c.2 in
    subst (λ (p : FrameValue × List ℕ). has_words_in_range p.0.body ≡ true)
    (some_is (record { version = v.0.0; sender = s.0.0; cycle = c.0.0; body = b.0.0 }, b.0.1) (f, rest) b.2)
    (body_gives v.0.0 k.0.0 s.0.0 c.0.1 b.0.0 b.0.1 b.1)

-- the items of a frame that is read have words in range
pub words_are_read : (bytes : List ℕ) (f : FrameValue) → frame_in bytes ≡ Some f → has_words_in_range f.body ≡ true
unfolding frame_in
words_are_read bytes f e =
    let a = bind_some (frame_at bytes) (λ x. cond (length x.1 == 0) (Some x.0) None) f e in
    let t = if_some (length a.0.1 == 0) a.0.0 f a.2 in
    subst (λ (g : FrameValue). has_words_in_range g.body ≡ true) t.1 (frame_gives bytes a.0.0 a.0.1 a.1)
