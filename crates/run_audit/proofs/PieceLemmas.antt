-- What the pieces of a spelled text are read as.
use Rattle.std.proofs.Common.{◌≡◌, ℕ, zero, suc, ◌+◌, ◌<◌, ◌≤◌, ◌^◌, ◌==◌, Bool, true, false, not, ℤ, pos, negsuc, List, [], ◌∷◌, ◌++◌, length, get_or, map, take, drop, Option, None, Some, Result, refl, sym, ap, subst, ◌∙◌, arith, append_assoc}
use Rattle.std.specs.Prelude.{codes, nat_lt}
use Rattle.std.specs.List.{list_all, join_with_byte}
use Rattle.std.specs.Str.{bytes_eq}
use Rattle.std.specs.Str.Parse.{ParsesUnsigned, ParsesSigned}
use Rattle.std.specs.Fmt.{digits, decimal, signed_decimal}
use Rattle.std.specs.Result.{result_unwrap_or}
use Rattle.std.specs.Int.{w64}
use Rattle.std.proofs.lemmas.Bool.{leb-true, le-leb}
use Rattle.std.proofs.lemmas.Float.{T_from_true}
use Rattle.std.proofs.lemmas.Fmt.{parse-decimal, parse-signed_decimal}
use Rattle.std.proofs.lemmas.Slice.Eq.{bytes_eq-Decides}
use Rattle.std.proofs.lemmas.Str.Pattern.{IsSplitOnceResult, split_after, split_parts}
use Rattle.std.proofs.Math.Facts.{sfits_lit}
use Rattle.std.proofs.Math.ListN.{set}
use Rattle.std.proofs.Math.Seq.{drop-cons, take-suc}
use Rattle.std.proofs.lemmas.List.{take_more_set}
use denote.Ref.{Bor}
use mir.Val.{SFits}
use lib.Signed.{mag}
use Rattle.guards_model.specs.Channels.{ChannelSet, channels_where, every_channel}
use Rattle.guards_model.specs.Frames.{is_set}
use Rattle.guards_model.specs.Transfers.{TransferValue}
use Rattle.guards_model.specs.Texts.{TextValue, set_text, vote_text, transfer_text, remaining_text}
use Rattle.guards_model.specs.Words.{is_word}
use Rattle.guards_model.proofs.BoolTests.{both, and_true}
use Rattle.guards_model.proofs.Numbers.{every_set, sublists}
use Rattle.guards_model.proofs.ListTests.{all-take}
use Rattle.guards_audit.specs.Lines.{if_there, is_cast, is_small, is_transfer, some_that}
use Rattle.guards_audit.proofs.ReadBack.{lacks-decimal, number_no_dash, plain_lacks_all, plain-set}
use Rattle.run_audit.specs.Pieces.{lacks, has_digit}

-- ---- pieces at a letter

same_letter : (b c : ℕ) → b ≡ c → not (b == c) ≡ true → ⊥
same_letter b c e h = differ
    (sym h ∙ ap (λ x. not (x == c)) e ∙ (let same : (c == c) ≡ true = grind arith in ap not same))
  where
    differ : true ≡ false → ⊥
    differ k = cc

lacks_at : (c : ℕ) (text : TextValue) → lacks c text ≡ true → (i : ℕ) → i < length text → get_or text i 0 ≡ c → ⊥
lacks_at c [] h i low e = absurd (omega arith)
lacks_at c (b ∷ text) h zero low e = same_letter b c e (both (not (b == c)) (lacks c text) h).0
lacks_at c (b ∷ text) h (suc i) low e = lacks_at c text (both (not (b == c)) (lacks c text) h).1 i (omega arith) e

lacks_seam : (c : ℕ) (xs ys : TextValue) → lacks c (xs ++ c ∷ ys) ≡ true → ⊥
lacks_seam c [] ys h = same_letter c c refl (both (not (c == c)) (lacks c ys) h).0
lacks_seam c (x ∷ xs) ys h = lacks_seam c xs ys (both (not (x == c)) (lacks c (xs ++ c ∷ ys)) h).1

pub cut_some : (c : ℕ) (bs : List ℕ) (x : Bor (List ℕ) × Bor (List ℕ)) → IsSplitOnceResult c bs (Some x) → c < 128 →
    (first : TextValue) (rest : List TextValue) → lacks c first ≡ true →
    bs ≡ join_with_byte c (first ∷ rest) → (x.0.now ≡ first) × (x.1.now ≡ join_with_byte c rest)
cut_some c bs x h small first [] k e =
    absurd (lacks_seam c x.0.now x.1.now
    (subst (λ t. lacks c t ≡ true) (sym e ∙ (split_parts c bs (Some x) h small).0) k))
cut_some c bs x h small first (y ∷ rest) k e =
    split_after c bs first (join_with_byte c (y ∷ rest)) (Some x) h small e (lacks_at c first k)

pub cut_none : (c : ℕ) (bs : List ℕ) → IsSplitOnceResult c bs None → c < 128 →
    (first : TextValue) (rest : List TextValue) → lacks c first ≡ true →
    bs ≡ join_with_byte c (first ∷ rest) → (bs ≡ first) × ([] ≡ join_with_byte c rest)
cut_none c bs h small first [] k e = (e, refl)
cut_none c bs h small first (y ∷ rest) k e =
    absurd (split_after c bs first (join_with_byte c (y ∷ rest)) None h small e (lacks_at c first k))

-- ---- words and numbers

pub fits_word : (z : ℤ) → is_word z ≡ true → SFits w64 z
unfolding is_word
fits_word (pos n) h = sfits_lit (T_from_true (nat_lt n (2 ^ 63)) h)
fits_word (negsuc n) h = sfits_lit (T_from_true (nat_lt n (2 ^ 63)) h)

pub small_word : (z : ℤ) → is_word z ≡ true → mag z < 2 ^ 63
unfolding is_word
small_word (pos n) h = leb-true (suc n) (2 ^ 63) h
small_word (negsuc n) h = leb-true (suc n) (2 ^ 63) h

pub word_read : {E : Type 0} (w : ℤ) (bs : List ℕ) (r : Result ℤ E) (d : ℤ) → is_word w ≡ true → bs ≡ signed_decimal w →
    ParsesSigned w64 10 bs r → result_unwrap_or r d ≡ w
word_read {E} w bs r d h e p =
    ap (λ (o : Result ℤ E). result_unwrap_or o d) (parse-signed_decimal w64 w bs r (fits_word w h) (small_word w h) e p)

pub number_read : {E : Type 0} (k n : ℕ) (bs : List ℕ) (r : Result ℕ E) (d : ℕ) → n < 2 ^ k → n < 2 ^ 64 →
    bs ≡ decimal n → ParsesUnsigned k 10 bs r → result_unwrap_or r d ≡ n
number_read {E} k n bs r d h small e p =
    ap (λ (o : Result ℕ E). result_unwrap_or o d) (parse-decimal k n bs r h small e p)

-- ---- sets

told_again : ChannelSet → Bool
told_again set = bytes_eq (channels_where (has_digit (set_text set))) set

each_told : list_all told_again (sublists every_channel) ≡ true
unfolding told_again channels_where digits
each_told = refl

pub set_read : (set : ChannelSet) → is_set set ≡ true → channels_where (has_digit (set_text set)) ≡ set
unfolding told_again
set_read set h = (bytes_eq-Decides (channels_where (has_digit (set_text set))) set).0
    (every_set told_again each_told set h)

-- ---- lists at commas

pub all_at : {A : Type 0} (P : A → Bool) (xs : List A) (k : ℕ) (d : A) → list_all P xs ≡ true → k < length xs →
    P (get_or xs k d) ≡ true
all_at P [] k d h low = absurd (omega arith)
all_at P (x ∷ xs) zero d h low = (both (P x) (list_all P xs) h).0
all_at P (x ∷ xs) (suc k) d h low = all_at P xs k d (both (P x) (list_all P xs) h).1 (omega arith)

pub lacks_signed : (z : ℤ) → lacks 44 (signed_decimal z) ≡ true
lacks_signed (pos n) = lacks-decimal 44 n refl
lacks_signed (negsuc n) = and_true (not (45 == 44)) (lacks 44 (decimal (suc n))) refl (lacks-decimal 44 (suc n) refl)

-- the next of some elements that are left
pub next_piece : {A : Type 0} (spell : A → TextValue) (xs : List A) (k : ℕ) (d : A) (rest : TextValue) → k < length xs →
    rest ≡ join_with_byte 44 (map spell (drop k xs)) →
    rest ≡ join_with_byte 44 (spell (get_or xs k d) ∷ map spell (drop (k + 1) xs))
next_piece spell xs k d rest low e =
    let more : suc k ≡ k + 1 = omega arith in
    e ∙ ap (λ l. join_with_byte 44 (map spell l)) (drop-cons xs k d low)
    ∙ ap (λ n. join_with_byte 44 (spell (get_or xs k d) ∷ map spell (drop n xs))) more

-- one more element is taken
pub taken_more : {A : Type 0} (xs table : List A) (k : ℕ) (d a : A) → k < length xs → k < length table →
    take k table ≡ take k xs → a ≡ get_or xs k d →
    take (k + 1) (set table k a) ≡ take (k + 1) xs
taken_more xs table k d a low there e is =
    let more : suc k ≡ k + 1 = omega arith in
    take_more_set table k a there ∙ (λ i. e i ++ is i ∷ []) ∙ sym (take-suc xs k d low) ∙ ap (λ n. take n xs) more

-- ---- what stands for nothing

dash_is : (text : TextValue) → bytes_eq text (codes "-") ≡ true → bytes_eq text (codes "-") ≡ false → ⊥
dash_is text h k = differ (sym h ∙ k)
  where
    differ : true ≡ false → ⊥
    differ e = cc

pub dash_remaining : (text : TextValue) (n : Option ℕ) → bytes_eq text (codes "-") ≡ true →
    if_there (λ k. nat_lt k (2 ^ 16)) n ≡ true → text ≡ remaining_text n → None ≡ n
dash_remaining text None dash h e = refl
dash_remaining text (Some k) dash h e =
    let small : is_small k ≡ true = le-leb (suc k) (2 ^ 32) (omega (arith, leb-true (suc k) (2 ^ 16) h)) in
    absurd (dash_is text dash (ap (λ t. bytes_eq t (codes "-")) e ∙ number_no_dash k small))

-- a transfer, by what its two pieces are read as
pub running_read : (text first second : TextValue) (targets : ChannelSet) (start : ℕ) (t : Option TransferValue) →
    bytes_eq text (codes "-") ≡ false → if_there is_transfer t ≡ true → text ≡ transfer_text t →
    ((a : TextValue) (rest : List TextValue) → lacks 64 a ≡ true → text ≡ join_with_byte 64 (a ∷ rest) →
    (first ≡ a) × (second ≡ join_with_byte 64 rest)) →
    ((s : ChannelSet) → is_set s ≡ true → first ≡ set_text s → targets ≡ s) →
    ((k : ℕ) → k < 2 ^ 32 → second ≡ decimal k → start ≡ k) →
    Some (record { targets = targets; start = start }) ≡ t
running_read text first second targets start None dash h e cut sets numbers =
    absurd (dash_is text ((bytes_eq-Decides text (codes "-")).1 e) dash)
running_read text first second targets start (Some t) dash h e cut sets numbers =
    let parts = both (is_set t.targets) (is_small t.start) h in
    let pieces = cut (set_text t.targets) (decimal t.start ∷ [])
    (plain_lacks_all 64 (set_text t.targets) refl (plain-set t.targets))
    (e ∙ append_assoc (set_text t.targets) (codes "@") (decimal t.start)) in
    let a = sets t.targets parts.0 pieces.0 in
    let b = numbers t.start (leb-true (suc t.start) (2 ^ 32) parts.1) pieces.1 in
    λ i. Some (record { targets = a i; start = b i })

-- ---- lists that are tested

pub all_set : {A : Type 0} (P : A → Bool) (xs : List A) (k : ℕ) (a : A) → list_all P xs ≡ true → P a ≡ true →
    list_all P (set xs k a) ≡ true
all_set P [] k a h j = refl
all_set P (x ∷ xs) zero a h j = and_true (P a) (list_all P xs) j (both (P x) (list_all P xs) h).1
all_set P (x ∷ xs) (suc k) a h j =
    and_true (P x) (list_all P (set xs k a)) (both (P x) (list_all P xs) h).0
    (all_set P xs k a (both (P x) (list_all P xs) h).1 j)

pub some_taken : {A : Type 0} (P : A → Bool) (xs : List A) (n : ℕ) → list_all P xs ≡ true → 0 < n → 0 < length xs →
    some_that P (take n xs) ≡ true
some_taken P [] n h some there = absurd (omega arith)
some_taken P (x ∷ xs) zero h some there = absurd (omega arith)
some_taken P (x ∷ xs) (suc n) h some there =
    let parts = both (P x) (list_all P xs) h in
    and_true (P x) (list_all P (take n xs)) parts.0 (all-take P n xs parts.1)

-- ---- words and votes of a line

take_less : {A : Type 0} (xs : List A) (n m : ℕ) → n ≤ m → take n (take m xs) ≡ take n xs
take_less [] zero zero h = refl
take_less [] zero (suc m) h = refl
take_less [] (suc n) zero h = refl
take_less [] (suc n) (suc m) h = refl
take_less (x ∷ xs) zero zero h = refl
take_less (x ∷ xs) zero (suc m) h = refl
take_less (x ∷ xs) (suc n) zero h = absurd (omega arith)
take_less (x ∷ xs) (suc n) (suc m) h = ap (λ ys. x ∷ ys) (take_less xs n m (omega arith))

pub taken_again : {A : Type 0} (front words ws : List A) (n m : ℕ) → n ≤ m → front ≡ take m words → take n words ≡ ws →
    take n front ≡ ws
taken_again front words ws n m h e k = ap (take n) e ∙ take_less words n m h ∙ k

-- votes that are there are words
pub record AreCast (votes : List (Option ℤ)) : Type 0 where
  pub words : List ℤ
  pub formed : list_all is_word words ≡ true
  pub same : map (λ w. Some w) words ≡ votes
  pub long : length words ≡ length votes
  pub text : map vote_text votes ≡ map signed_decimal words

pub are_cast : (votes : List (Option ℤ)) → list_all is_cast votes ≡ true → AreCast votes
are_cast [] h = record { words = []; formed = refl; same = refl; long = refl; text = refl }
are_cast (None ∷ votes) h = absurd cc
are_cast (Some w ∷ votes) h =
    let parts = both (is_word w) (list_all is_cast votes) h in
    let more = are_cast votes parts.1 in
    record {
      words = w ∷ more.words;
      formed = and_true (is_word w) (list_all is_word more.words) parts.0 more.formed;
      same = ap (λ vs. Some w ∷ vs) more.same;
      long = ap suc more.long;
      text = ap (λ ts. signed_decimal w ∷ ts) more.text;
    }

map_taken : (words : List ℤ) (n : ℕ) → take n (map (λ w. Some w) words) ≡ map (λ w. Some w) (take n words)
map_taken [] zero = refl
map_taken [] (suc n) = refl
map_taken (w ∷ words) zero = refl
map_taken (w ∷ words) (suc n) = ap (λ vs. Some w ∷ vs) (map_taken words n)

all_cast : (words : List ℤ) → list_all is_word words ≡ true → list_all is_cast (map (λ w. Some w) words) ≡ true
all_cast [] h = refl
all_cast (w ∷ words) h = let parts = both (is_word w) (list_all is_word words) h in
    and_true (is_word w) (list_all is_cast (map (λ x. Some x) words)) parts.0 (all_cast words parts.1)

all_eight : {A : Type 0} (xs : List A) (n : ℕ) → length xs ≤ n → take n xs ≡ xs
all_eight [] zero h = refl
all_eight [] (suc n) h = refl
all_eight (x ∷ xs) zero h = absurd (omega arith)
all_eight (x ∷ xs) (suc n) h = ap (λ ys. x ∷ ys) (all_eight xs n (omega arith))

-- all eight votes are the words
pub votes_are : (votes : List (Option ℤ)) (words : List ℤ) (n : ℕ) → 8 ≤ n → length votes ≡ 8 → length words ≡ 8 →
    take n votes ≡ map (λ w. Some w) (take n words) → votes ≡ map (λ w. Some w) words
votes_are votes words n all long size e =
    sym (all_eight votes n (omega arith)) ∙ e ∙ ap (map (λ w. Some w)) (all_eight words n (omega arith))

pub votes_read : (votes : List (Option ℤ)) (words : List ℤ) (outputs : ℕ) (vs : List (Option ℤ)) (cast : AreCast vs) →
    votes ≡ map (λ w. Some w) words → take outputs words ≡ cast.words → take outputs votes ≡ vs
votes_read votes words outputs vs cast e h =
    ap (take outputs) e ∙ map_taken words outputs ∙ ap (map (λ w. Some w)) h ∙ cast.same

pub votes_formed : (votes : List (Option ℤ)) (words : List ℤ) → votes ≡ map (λ w. Some w) words →
    list_all is_word words ≡ true → list_all is_cast votes ≡ true
votes_formed votes words e h = ap (list_all is_cast) e ∙ all_cast words h
