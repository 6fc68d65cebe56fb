-- Words, sets of channels and codes, as numbers and back.
use Rattle.std.proofs.Common.{get_or, ◌≡◌, ℕ, zero, suc, ◌+◌, ◌*◌, ◌/◌, ◌%◌, ◌^◌, ◌<◌, ◌≤◌, ◌==◌, Bool, true, false, ◌&&◌, ◌||◌, List, [], ◌∷◌, ◌++◌, length, ℤ, pos, negsuc, refl, sym, ap, subst, ◌∙◌, arith, inl, inr, ◌-◌}
use Rattle.std.specs.Prelude.{nat_le, nat_lt, map, bytes_eq}
use Rattle.std.specs.List.{list_all, list_any, range_with_len}
use Rattle.std.specs.Int.{w64, cast_signed, cast_unsigned}
use Rattle.std.proofs.lemmas.Int.{to_z-of_z, to_z_pos}
use Rattle.std.proofs.lemmas.Bool.{cases_lt, leb-true, le-leb, eqb-true, lt-ltb}
use Rattle.std.proofs.lemmas.Float.{T_from_true}
use Rattle.std.proofs.lemmas.List.Folds.{list_any-append}
use Rattle.std.proofs.lemmas.Slice.Eq.{bytes_eq-Decides}
use Rattle.std.proofs.Math.Facts.{Fits-lt-pow}  -- what `Fits` says, for the laws of `Lib/Pow.antt` and `Lib/Bits.antt`
use mir.Val.{SFits}
use Rattle.std.proofs.Math.Facts.{Fits-of_z, sfits_lit, to_z-neg}
use Rattle.guards_model.specs.Channels.{ChannelSet, every_channel, channels_where, by_channel, mask, set_of_mask}
use Rattle.guards_model.proofs.Masks.{tried}
use Rattle.guards_model.specs.Words.{is_word}
use Rattle.guards_model.specs.Frames.{is_set, ascends, is_channel, packed_codes}
use Rattle.guards_model.specs.Fields.{unpacked_codes}
use Rattle.guards_model.proofs.Codecs.{both, and_true}

pub weaken : {A : Type 0} (P Q : A → Bool) (xs : List A) → ((x : A) → P x ≡ true → Q x ≡ true) → list_all P xs ≡ true →
    list_all Q xs ≡ true
weaken P Q [] h k = refl
weaken P Q (x ∷ xs) h k =
    let parts = both (P x) (list_all P xs) k in
    and_true (Q x) (list_all Q xs) (h x parts.0) (weaken P Q xs h parts.1)

pub or_true : (a b : Bool) → b ≡ true → (a || b) ≡ true
or_true true b h = refl
or_true false b h = h

pub word_fits : (z : ℤ) → is_word z ≡ true → cast_signed w64 (cast_unsigned w64 z) ≡ z
unfolding is_word
word_fits (pos n) h = to_z-of_z w64 (pos n) (sfits_lit {w = w64} {z = pos n} (T_from_true (nat_lt n (2 ^ 63)) h))
word_fits (negsuc n) h = to_z-of_z w64 (negsuc n)
    (sfits_lit {w = w64} {z = negsuc n} (T_from_true (nat_lt n (2 ^ 63)) h))

pub word_below : (z : ℤ) → is_word z ≡ true → cast_unsigned w64 z < 2 ^ 64
unfolding is_word
word_below (pos n) h = omega (arith, leb-true (suc n) (2 ^ 63) h)
word_below (negsuc n) h = omega arith

-- ---- the codes of seven channels

cons_path : (x y : ℕ) (xs ys : List ℕ) → x ≡ y → xs ≡ ys → x ∷ xs ≡ y ∷ ys
cons_path x y xs ys h k = ap (λ z. z ∷ xs) h ∙ ap (λ zs. y ∷ zs) k

digit0 : (a b c d e f g : ℕ) → a ≤ 3 → b ≤ 3 → c ≤ 3 → d ≤ 3 → e ≤ 3 → f ≤ 3 → g ≤ 3 →
    ((0 + a * 1 + b * 4 + c * 16 + d * 64 + e * 256 + f * 1024 + g * 4096) / 1) % 4 ≡ a
digit0 a b c d e f g ha hb hc hd he hf hg = omega arith

digit1 : (a b c d e f g : ℕ) → a ≤ 3 → b ≤ 3 → c ≤ 3 → d ≤ 3 → e ≤ 3 → f ≤ 3 → g ≤ 3 →
    ((0 + a * 1 + b * 4 + c * 16 + d * 64 + e * 256 + f * 1024 + g * 4096) / 4) % 4 ≡ b
digit1 a b c d e f g ha hb hc hd he hf hg = omega arith

digit2 : (a b c d e f g : ℕ) → a ≤ 3 → b ≤ 3 → c ≤ 3 → d ≤ 3 → e ≤ 3 → f ≤ 3 → g ≤ 3 →
    ((0 + a * 1 + b * 4 + c * 16 + d * 64 + e * 256 + f * 1024 + g * 4096) / 16) % 4 ≡ c
digit2 a b c d e f g ha hb hc hd he hf hg = omega arith

digit3 : (a b c d e f g : ℕ) → a ≤ 3 → b ≤ 3 → c ≤ 3 → d ≤ 3 → e ≤ 3 → f ≤ 3 → g ≤ 3 →
    ((0 + a * 1 + b * 4 + c * 16 + d * 64 + e * 256 + f * 1024 + g * 4096) / 64) % 4 ≡ d
digit3 a b c d e f g ha hb hc hd he hf hg = omega arith

digit4 : (a b c d e f g : ℕ) → a ≤ 3 → b ≤ 3 → c ≤ 3 → d ≤ 3 → e ≤ 3 → f ≤ 3 → g ≤ 3 →
    ((0 + a * 1 + b * 4 + c * 16 + d * 64 + e * 256 + f * 1024 + g * 4096) / 256) % 4 ≡ e
digit4 a b c d e f g ha hb hc hd he hf hg = omega arith

digit5 : (a b c d e f g : ℕ) → a ≤ 3 → b ≤ 3 → c ≤ 3 → d ≤ 3 → e ≤ 3 → f ≤ 3 → g ≤ 3 →
    ((0 + a * 1 + b * 4 + c * 16 + d * 64 + e * 256 + f * 1024 + g * 4096) / 1024) % 4 ≡ f
digit5 a b c d e f g ha hb hc hd he hf hg = omega arith

digit6 : (a b c d e f g : ℕ) → a ≤ 3 → b ≤ 3 → c ≤ 3 → d ≤ 3 → e ≤ 3 → f ≤ 3 → g ≤ 3 →
    ((0 + a * 1 + b * 4 + c * 16 + d * 64 + e * 256 + f * 1024 + g * 4096) / 4096) % 4 ≡ g
digit6 a b c d e f g ha hb hc hd he hf hg = omega arith

digits : (a b c d e f g : ℕ) → a ≤ 3 → b ≤ 3 → c ≤ 3 → d ≤ 3 → e ≤ 3 → f ≤ 3 → g ≤ 3 →
    unpacked_codes (packed_codes (a ∷ b ∷ c ∷ d ∷ e ∷ f ∷ g ∷ [])) ≡ a ∷ b ∷ c ∷ d ∷ e ∷ f ∷ g ∷ []
unfolding by_channel packed_codes unpacked_codes
digits a b c d e f g ha hb hc hd he hf hg =
    (cons_path _ _ _ _ (digit0 a b c d e f g ha hb hc hd he hf hg)
    (cons_path _ _ _ _ (digit1 a b c d e f g ha hb hc hd he hf hg)
    (cons_path _ _ _ _ (digit2 a b c d e f g ha hb hc hd he hf hg)
    (cons_path _ _ _ _ (digit3 a b c d e f g ha hb hc hd he hf hg)
    (cons_path _ _ _ _ (digit4 a b c d e f g ha hb hc hd he hf hg)
    (cons_path _ _ _ _ (digit5 a b c d e f g ha hb hc hd he hf hg)
    (cons_path _ _ _ _ (digit6 a b c d e f g ha hb hc hd he hf hg)
    refl)))))))

bound : (n : ℕ) → nat_le n 3 ≡ true → n ≤ 3
bound n h = leb-true n 3 h

pub codes_again : (heard : List ℕ) → (length heard == 7) ≡ true → list_all (λ code. nat_le code 3) heard ≡ true →
    unpacked_codes (packed_codes heard) ≡ heard
codes_again (a ∷ b ∷ c ∷ d ∷ e ∷ f ∷ g ∷ []) h k =
    let ka = both (nat_le a 3) (list_all (λ code. nat_le code 3) (b ∷ c ∷ d ∷ e ∷ f ∷ g ∷ [])) k in
    let kb = both (nat_le b 3) (list_all (λ code. nat_le code 3) (c ∷ d ∷ e ∷ f ∷ g ∷ [])) ka.1 in
    let kc = both (nat_le c 3) (list_all (λ code. nat_le code 3) (d ∷ e ∷ f ∷ g ∷ [])) kb.1 in
    let kd = both (nat_le d 3) (list_all (λ code. nat_le code 3) (e ∷ f ∷ g ∷ [])) kc.1 in
    let ke = both (nat_le e 3) (list_all (λ code. nat_le code 3) (f ∷ g ∷ [])) kd.1 in
    let kf = both (nat_le f 3) (list_all (λ code. nat_le code 3) (g ∷ [])) ke.1 in
    let kg = both (nat_le g 3) (list_all (λ code. nat_le code 3) []) kf.1 in
    digits a b c d e f g (bound a ka.0) (bound b kb.0) (bound c kc.0) (bound d kd.0) (bound e ke.0) (bound f kf.0)
    (bound g kg.0)
codes_again [] h k = absurd cc
codes_again (a ∷ []) h k = absurd cc
codes_again (a ∷ b ∷ []) h k = absurd cc
codes_again (a ∷ b ∷ c ∷ []) h k = absurd cc
codes_again (a ∷ b ∷ c ∷ d ∷ []) h k = absurd cc
codes_again (a ∷ b ∷ c ∷ d ∷ e ∷ []) h k = absurd cc
codes_again (a ∷ b ∷ c ∷ d ∷ e ∷ f ∷ []) h k = absurd cc
codes_again (a ∷ b ∷ c ∷ d ∷ e ∷ f ∷ g ∷ x ∷ xs) h k =
    absurd (omega (arith, eqb-true (length (a ∷ b ∷ c ∷ d ∷ e ∷ f ∷ g ∷ x ∷ xs)) 7 h))

small : (a b c d e f g : ℕ) → a ≤ 3 → b ≤ 3 → c ≤ 3 → d ≤ 3 → e ≤ 3 → f ≤ 3 → g ≤ 3 →
    0 + a * 1 + b * 4 + c * 16 + d * 64 + e * 256 + f * 1024 + g * 4096 < 4 ^ 7
small a b c d e f g ha hb hc hd he hf hg = omega arith

pub packed_below : (heard : List ℕ) → (length heard == 7) ≡ true → list_all (λ code. nat_le code 3) heard ≡ true →
    packed_codes heard < 4 ^ 7
unfolding packed_codes
packed_below (a ∷ b ∷ c ∷ d ∷ e ∷ f ∷ g ∷ []) h k =
    let ka = both (nat_le a 3) (list_all (λ code. nat_le code 3) (b ∷ c ∷ d ∷ e ∷ f ∷ g ∷ [])) k in
    let kb = both (nat_le b 3) (list_all (λ code. nat_le code 3) (c ∷ d ∷ e ∷ f ∷ g ∷ [])) ka.1 in
    let kc = both (nat_le c 3) (list_all (λ code. nat_le code 3) (d ∷ e ∷ f ∷ g ∷ [])) kb.1 in
    let kd = both (nat_le d 3) (list_all (λ code. nat_le code 3) (e ∷ f ∷ g ∷ [])) kc.1 in
    let ke = both (nat_le e 3) (list_all (λ code. nat_le code 3) (f ∷ g ∷ [])) kd.1 in
    let kf = both (nat_le f 3) (list_all (λ code. nat_le code 3) (g ∷ [])) ke.1 in
    let kg = both (nat_le g 3) (list_all (λ code. nat_le code 3) []) kf.1 in
    small a b c d e f g (bound a ka.0) (bound b kb.0) (bound c kc.0) (bound d kd.0) (bound e ke.0) (bound f kf.0)
    (bound g kg.0)
packed_below [] h k = absurd cc
packed_below (a ∷ []) h k = absurd cc
packed_below (a ∷ b ∷ []) h k = absurd cc
packed_below (a ∷ b ∷ c ∷ []) h k = absurd cc
packed_below (a ∷ b ∷ c ∷ d ∷ []) h k = absurd cc
packed_below (a ∷ b ∷ c ∷ d ∷ e ∷ []) h k = absurd cc
packed_below (a ∷ b ∷ c ∷ d ∷ e ∷ f ∷ []) h k = absurd cc
packed_below (a ∷ b ∷ c ∷ d ∷ e ∷ f ∷ g ∷ x ∷ xs) h k =
    absurd (omega (arith, eqb-true (length (a ∷ b ∷ c ∷ d ∷ e ∷ f ∷ g ∷ x ∷ xs)) 7 h))

-- ---- sets of channels

-- the sublists of a list, each with its elements in the same order
abbrev pub sublists : List ℕ → List (List ℕ)
sublists [] = [] ∷ []
sublists (u ∷ us) = map (λ s. u ∷ s) (sublists us) ++ sublists us

abbrev reads_mask : List ℕ → Bool
reads_mask set = bytes_eq (set_of_mask (mask set)) set

each_reads : list_all reads_mask (sublists every_channel) ≡ true
unfolding channels_where mask set_of_mask
each_reads = refl

any_map : {A B : Type 0} (p : B → Bool) (f : A → B) (xs : List A) → list_any p (map f xs) ≡ list_any (λ x. p (f x)) xs
any_map p f [] = refl
any_map p f (x ∷ xs) = ap (λ b. p (f x) || b) (any_map p f xs)

or_left : (a b : Bool) → a ≡ true → (a || b) ≡ true
or_left true b h = refl
or_left false b h = absurd cc

-- an ascending list of numbers from k on, below k + n, is a sublist of them
module _ (n k : ℕ) where
  abbrev pub Member : List ℕ → Type 0
  Member set = list_any (bytes_eq set) (sublists (range_with_len k n)) ≡ true

with_first : (k x : ℕ) (rest : List ℕ) (S : List (List ℕ)) → (x == k) ≡ true → list_any (bytes_eq rest) S ≡ true →
    list_any (bytes_eq (x ∷ rest)) (map (λ s. k ∷ s) S ++ S) ≡ true
with_first k x rest S h found =
    list_any-append (bytes_eq (x ∷ rest)) (map (λ s. k ∷ s) S) S
    ∙ or_left (list_any (bytes_eq (x ∷ rest)) (map (λ s. k ∷ s) S)) (list_any (bytes_eq (x ∷ rest)) S)
    (any_map (bytes_eq (x ∷ rest)) (λ s. k ∷ s) S ∙ ap (λ b. list_any (λ s. b && bytes_eq rest s) S) h ∙ found)

without_first : (k : ℕ) (set : List ℕ) (S : List (List ℕ)) → list_any (bytes_eq set) S ≡ true →
    list_any (bytes_eq set) (map (λ s. k ∷ s) S ++ S) ≡ true
without_first k set S found =
    list_any-append (bytes_eq set) (map (λ s. k ∷ s) S) S
    ∙ or_true (list_any (bytes_eq set) (map (λ s. k ∷ s) S)) (list_any (bytes_eq set) S) found

above : (k x y : ℕ) → k ≤ x → nat_lt x y ≡ true → nat_le (k + 1) y ≡ true
above k x y h l = le-leb (k + 1) y (omega (arith, leb-true (suc x) y l))

same_end : (k n : ℕ) (set : List ℕ) → list_all (λ y. nat_lt y (k + suc n)) set ≡ true →
    list_all (λ y. nat_lt y ((k + 1) + n)) set ≡ true
same_end k n set h = weaken (λ y. nat_lt y (k + suc n)) (λ y. nat_lt y ((k + 1) + n)) set
    (λ y l. le-leb (suc y) ((k + 1) + n) (omega (arith, leb-true (suc y) (k + suc n) l))) h

by_first : (n k x : ℕ) (rest : List ℕ) (first : Bool) → (x == k) ≡ first →
    ((set : List ℕ) → ascends set ≡ true → list_all (λ y. nat_le (k + 1) y) set ≡ true →
    list_all (λ y. nat_lt y ((k + 1) + n)) set ≡ true → Member n (k + 1) set) →
    ascends (x ∷ rest) ≡ true → list_all (λ y. nat_le k y) (x ∷ rest) ≡ true →
    list_all (λ y. nat_lt y (k + suc n)) (x ∷ rest) ≡ true → Member (suc n) k (x ∷ rest)
by_first n k x rest true e more asc low high =
    let a = both (list_all (λ y. nat_lt x y) rest) (ascends rest) asc in
    let l = both (nat_le k x) (list_all (λ y. nat_le k y) rest) low in
    let h = both (nat_lt x (k + suc n)) (list_all (λ y. nat_lt y (k + suc n)) rest) high in
    with_first k x rest (sublists (range_with_len (k + 1) n)) e
    (more rest a.1 (weaken (λ y. nat_lt x y) (λ y. nat_le (k + 1) y) rest (λ y. above k x y (leb-true k x l.0)) a.0)
    (same_end k n rest h.1))
by_first n k x rest false e more asc low high =
    let a = both (list_all (λ y. nat_lt x y) rest) (ascends rest) asc in
    let l = both (nat_le k x) (list_all (λ y. nat_le k y) rest) low in
    let greater : k + 1 ≤ x = grind (arith, e, leb-true k x l.0) in
    without_first k (x ∷ rest) (sublists (range_with_len (k + 1) n))
    (more (x ∷ rest) asc
    (and_true (nat_le (k + 1) x) (list_all (λ y. nat_le (k + 1) y) rest) (le-leb (k + 1) x greater)
    (weaken (λ y. nat_lt x y) (λ y. nat_le (k + 1) y) rest (λ y. above k x y (leb-true k x l.0)) a.0))
    (same_end k n (x ∷ rest) high))

pub in_sublists : (n k : ℕ) (set : List ℕ) → ascends set ≡ true → list_all (λ y. nat_le k y) set ≡ true →
    list_all (λ y. nat_lt y (k + n)) set ≡ true → Member n k set
in_sublists zero k [] asc low high = refl
in_sublists zero k (x ∷ rest) asc low high =
    let l = both (nat_le k x) (list_all (λ y. nat_le k y) rest) low in
    let h = both (nat_lt x (k + 0)) (list_all (λ y. nat_lt y (k + 0)) rest) high in
    absurd (omega (arith, leb-true k x l.0, leb-true (suc x) (k + 0) h.0))
in_sublists (suc n) k [] asc low high =
    without_first k [] (sublists (range_with_len (k + 1) n)) (in_sublists n (k + 1) [] refl refl refl)
in_sublists (suc n) k (x ∷ rest) asc low high =
    by_first n k x rest (x == k) refl (λ set. in_sublists n (k + 1) set) asc low high

found_here : (p : List ℕ → Bool) (set x : List ℕ) (all any b : Bool) → bytes_eq set x ≡ b → (p x && all) ≡ true →
    (b || any) ≡ true →
    (all ≡ true → any ≡ true → p set ≡ true) → p set ≡ true
found_here p set x all any true e h k rest =
    subst (λ y. p y ≡ true) (sym ((bytes_eq-Decides set x).0 e)) (both (p x) all h).0
found_here p set x all any false e h k rest = rest (both (p x) all h).1 k

pub of_found : (p : List ℕ → Bool) (set : List ℕ) (xs : List (List ℕ)) → list_all p xs ≡ true →
    list_any (bytes_eq set) xs ≡ true → p set ≡ true
of_found p set [] all any = absurd cc
of_found p set (x ∷ xs) all any =
    found_here p set x (list_all p xs) (list_any (bytes_eq set) xs) (bytes_eq set x) refl all any (of_found p set xs)

pub low_all : (set : List ℕ) → list_all (λ y. nat_le 0 y) set ≡ true
low_all [] = refl
low_all (x ∷ set) = and_true (nat_le 0 x) (list_all (λ y. nat_le 0 y) set) (le-leb 0 x (omega arith)) (low_all set)

-- what each sublist of all channels passes, each set passes
pub every_set : (p : ChannelSet → Bool) → list_all p (sublists every_channel) ≡ true → (set : ChannelSet) →
    is_set set ≡ true → p set ≡ true
unfolding is_set
every_set p each set h =
    let parts = both (list_all is_channel set) (ascends set) h in
    of_found p set (sublists every_channel) each (in_sublists 7 0 set parts.1 (low_all set) parts.0)

pub set_again : (set : ChannelSet) → is_set set ≡ true → set_of_mask (mask set) ≡ set
unfolding is_set
set_again set h =
    let parts = both (list_all is_channel set) (ascends set) h in
    (bytes_eq-Decides (set_of_mask (mask set)) set).0
    (of_found reads_mask set (sublists every_channel) each_reads
    (in_sublists 7 0 set parts.1 (low_all set) parts.0))

-- what is to be shown of every set is shown of the sublists of all channels
mask_is_below : list_all (λ set. nat_lt (mask set) 128) (sublists every_channel) ≡ true
unfolding mask
mask_is_below = refl

pub mask_below : (set : ChannelSet) → is_set set ≡ true → nat_lt (mask set) 128 ≡ true
unfolding is_set
mask_below set h =
    let parts = both (list_all is_channel set) (ascends set) h in
    of_found (λ s. nat_lt (mask s) 128) set (sublists every_channel) mask_is_below
    (in_sublists 7 0 set parts.1 (low_all set) parts.0)

each_is_set : list_all (λ m. is_set (set_of_mask m)) (range_with_len 0 128) ≡ true
unfolding channels_where set_of_mask is_set
each_is_set = refl

pub is_set_of_mask : (m : ℕ) → m < 128 → is_set (set_of_mask m) ≡ true
is_set_of_mask m h = tried (λ m. is_set (set_of_mask m)) 128 0 m each_is_set (omega arith) h

-- ---- codes of a number

digit_sum : (n : ℕ) → n < 16384 →
    0 + n / 1 % 4 * 1 + n / 4 % 4 * 4 + n / 16 % 4 * 16 + n / 64 % 4 * 64 + n / 256 % 4 * 256 + n / 1024 % 4 * 1024 + n / 4096 % 4 * 4096 ≡ n
digit_sum n h = omega arith

pub packed_again : (n : ℕ) → n < 4 ^ 7 → packed_codes (unpacked_codes n) ≡ n
unfolding by_channel packed_codes unpacked_codes
packed_again n h = digit_sum n h

pub unpacked_in_range : (n : ℕ) → list_all (λ code. nat_le code 3) (unpacked_codes n) ≡ true
unfolding by_channel unpacked_codes
unpacked_in_range n =
    and_true _ _ (small_digit (n / 1))
    (and_true _ _ (small_digit (n / 4)) (and_true _ _ (small_digit (n / 16)) (and_true _ _ (small_digit (n / 64))
    (and_true _ _ (small_digit (n / 256))
    (and_true _ _ (small_digit (n / 1024)) (and_true _ _ (small_digit (n / 4096)) refl))))))
  where
    small_digit : (m : ℕ) → nat_le (m % 4) 3 ≡ true
    small_digit m = le-leb (m % 4) 3 (omega arith)

-- ---- words of a number

low_word : (n : ℕ) → n < 2 ^ 63 → is_word (pos n) ≡ true
unfolding is_word
low_word n h = lt-ltb n (2 ^ 63) h

high_word : (k : ℕ) → k < 2 ^ 63 → is_word (negsuc k) ≡ true
unfolding is_word
high_word k h = lt-ltb k (2 ^ 63) h

pub is_word_of : (n : ℕ) → n < 2 ^ 64 → is_word (cast_signed w64 n) ≡ true
is_word_of n h =
    elim (cases_lt n (2 ^ 63)) [
      | inl lt ↦ subst (λ z. is_word z ≡ true) (sym (to_z_pos w64 n lt)) (low_word n lt)
      | inr le ↦
          let k : ℕ = 2 ^ 64 - 1 - n in
          let e : 2 ^ 64 - suc k ≡ n = omega arith in
          let below : k < 2 ^ 63 = omega arith in
          subst (λ m. is_word (cast_signed w64 m) ≡ true) e
          (subst (λ z. is_word z ≡ true) (sym (to_z-neg w64 k below)) (high_word k below))
    ]

-- ---- codes that fit

pub small_at : (heard : List ℕ) (k : ℕ) → list_all (λ code. nat_le code 2) heard ≡ true → get_or heard k 0 ≤ 2
small_at [] k h = omega arith
small_at (x ∷ xs) zero h = leb-true x 2 (both (nat_le x 2) _ h).0
small_at (x ∷ xs) (suc k) h = small_at xs k (both (nat_le x 2) _ h).1

-- what fits an i64 is a word
pub word_of_fits : (z : ℤ) → SFits w64 z → is_word z ≡ true
word_of_fits z h = subst (λ y. is_word y ≡ true) (to_z-of_z w64 z h)
    (is_word_of (cast_unsigned w64 z) (Fits-lt-pow {w = w64} {n = cast_unsigned w64 z} (Fits-of_z {w = w64} {z = z} h)))
