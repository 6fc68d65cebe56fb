-- The words of the active channels, as a table whose passive places are empty.
use Rattle.std.proofs.Common.{◌≡◌, ℕ, zero, suc, ◌+◌, ◌<◌, ◌==◌, Bool, true, false, cond, ◌||◌, ℤ, pos, List, [], ◌∷◌, ◌++◌, length, replicate, Option, None, Some, refl, sym, ap, subst, ◌∙◌, arith}
use Rattle.std.specs.Prelude.{map, filter, unwrap_or, IsSome, ◌≤ℤ◌}
use Rattle.std.specs.List.{range_with_len}
use Rattle.std.proofs.lemmas.Bool.{eqb-true}
use Rattle.guards_model.specs.Channels.{Channel, ChannelSet, has, place_or, by_channel, channels_where, every_channel, numbers_below}
use Rattle.guards_model.specs.Contexts.{word_of}
use Rattle.guards_model.specs.Frames.{SourceValue, is_set}
use Rattle.guards_model.specs.Voting.{present, inputs_of, lower_median}
use Rattle.guards_model.specs.Exchanges.{AreSettled, IsCorrect}
use Rattle.guards_model.proofs.Tables.{at-by_channel}
use Rattle.guards_model.proofs.AscendingLists.{set-where}
use Rattle.guards_model.proofs.AscendingLists.{member-channel}
use Rattle.guards_model.proofs.SettledWords.{least_of, greatest_of}
use Rattle.voter.specs.Sensors.{words_in, OthersAreThere, IsOthersWord}

abbrev Words : Type 0
Words = List (Option SourceValue)

in_range_by : (a n b : ℕ) (same : Bool) → (a == b) ≡ same → (same || has (range_with_len (a + 1) n) b) ≡ true →
    (has (range_with_len (a + 1) n) b ≡ true → b < a + 1 + n) → b < a + suc n
in_range_by a n b true e h more = let same : a ≡ b = eqb-true a b e in omega (arith, same)
in_range_by a n b false e h more = let later : b < a + 1 + n = more h in omega (arith, later)

in_range : (a n b : ℕ) → has (range_with_len a n) b ≡ true → b < a + n
in_range a zero b h = absurd cc
in_range a (suc n) b h = in_range_by a n b (a == b) refl h (in_range (a + 1) n b)

below : (q : ℕ) → has every_channel q ≡ true → q < 7
below q h = in_range 0 7 q h

or_right : (a b : Bool) → b ≡ true → (a || b) ≡ true
or_right true b h = refl
or_right false b h = h

same : (n : ℕ) → (n == n) ≡ true
same n = grind arith

-- what a test drops holds nothing
present_kept : (p : ℕ → Bool) (at : ℕ → Option SourceValue) (xs : List ℕ) →
    ((q : ℕ) → has xs q ≡ true → p q ≡ false → at q ≡ None) →
    present (map at (filter p xs)) ≡ present (map at xs)
present_kept p at [] h = refl
present_kept p at (x ∷ xs) h =
    by_first (p x) refl (present_kept p at xs (λ q k. h q (or_right (x == q) (has xs q) k)))
  where
    by_first : (b : Bool) → p x ≡ b → present (map at (filter p xs)) ≡ present (map at xs) →
        present (map at (cond b (x ∷ filter p xs) (filter p xs))) ≡ present (map at (x ∷ xs))
    by_first true e rest = front (at x) rest
      where
        front : (o : Option SourceValue) → present (map at (filter p xs)) ≡ present (map at xs) →
            present (o ∷ map at (filter p xs)) ≡ present (o ∷ map at xs)
        front None rest = rest
        front (Some w) rest = ap (λ ws. w ∷ ws) rest
    by_first false e rest =
        rest ∙ sym (ap (λ o. present (o ∷ map at xs)) (h x (ap (λ b. b || has xs x) (same x)) e))

-- a table of seven places
pub table_whole : (words : Words) → length words ≡ 7 → words ≡ by_channel (λ q. place_or words q None)
unfolding by_channel
table_whole [] h = absurd (omega arith)
table_whole (a ∷ []) h = absurd (omega arith)
table_whole (a ∷ b ∷ []) h = absurd (omega arith)
table_whole (a ∷ b ∷ c ∷ []) h = absurd (omega arith)
table_whole (a ∷ b ∷ c ∷ d ∷ []) h = absurd (omega arith)
table_whole (a ∷ b ∷ c ∷ d ∷ e ∷ []) h = absurd (omega arith)
table_whole (a ∷ b ∷ c ∷ d ∷ e ∷ f ∷ []) h = absurd (omega arith)
table_whole (a ∷ b ∷ c ∷ d ∷ e ∷ f ∷ g ∷ []) h = refl
table_whole (a ∷ b ∷ c ∷ d ∷ e ∷ f ∷ g ∷ i ∷ more) h = absurd (omega arith)

module _ (s : ChannelSet) (whole : s ≡ channels_where (has s)) (words : Words) where
  at : Channel → Option SourceValue
  at q = place_or words q None

  -- the words of passive channels do not count
  masked_at : Channel → Option SourceValue
  masked_at q = cond (has s q) (at q) None

  pub masked : Words
  masked = by_channel masked_at

  is_a_set : is_set s ≡ true
  is_a_set = subst (λ t. is_set t ≡ true) (sym whole) (set-where (has s))

  masked_is : (q : Channel) → q < 7 → place_or masked q None ≡ masked_at q
  unfolding masked
  masked_is q h = at-by_channel masked_at q None h

  -- the members' words, with and without the mask
  kept_words : (xs : List ℕ) → ((q : ℕ) → has xs q ≡ true → has s q ≡ true) →
      map masked_at xs ≡ map (λ q. place_or words q None) xs
  unfolding masked_at at
  kept_words [] h = refl
  kept_words (x ∷ xs) h =
      ap (λ b. cond b (place_or words x None) None ∷ map masked_at xs) (h x (ap (λ b. b || has xs x) (same x)))
      ∙ ap (λ ws. place_or words x None ∷ ws) (kept_words xs (λ q k. h q (or_right (x == q) (has xs q) k)))

  present_masked : present masked ≡ present (words_in s words)
  unfolding masked masked_at by_channel channels_where
  present_masked =
      sym (present_kept (has s) masked_at every_channel (λ q k f. ap (λ b. cond b (at q) None) f))
      ∙ ap (λ t. present (map masked_at t)) (sym whole)
      ∙ ap present (kept_words s (λ q k. k))

  pub inputs_masked : (width : ℕ) → inputs_of width masked ≡ inputs_of width (words_in s words)
  inputs_masked width = ap (λ ws.
      map (λ k. lower_median (map (λ (w : SourceValue). word_of w.words k) ws)) (numbers_below width)) present_masked

  -- where no passive channel has a word, all words count
  pub inputs_whole : (width : ℕ) → length words ≡ 7 →
      ((q : Channel) → q < 7 → has s q ≡ false → place_or words q None ≡ None) →
      inputs_of width (words_in s words) ≡ inputs_of width words
  unfolding by_channel channels_where
  inputs_whole width long none =
      let p : present (words_in s words) ≡ present words
      = ap (λ t. present (map (λ q. place_or words q None) t)) whole
      ∙ present_kept (has s) (λ q. place_or words q None) every_channel (λ q k f. none q (below q k) f)
      ∙ ap present (sym (table_whole words long)) in
      ap (λ ws. map (λ k. lower_median (map (λ (w : SourceValue). word_of w.words k) ws)) (numbers_below width)) p

  -- ---- the bound

  no_word : SourceValue
  no_word = record { words = []; accuse = []; heard = [] }

  own : Channel → SourceValue
  own q = unwrap_or (at q) no_word

  own_is : (o : Option SourceValue) → IsSome o → o ≡ Some (unwrap_or o no_word)
  own_is None h = absurd cc
  own_is (Some w) h = refl

  settled : (disturbed : ChannelSet) → OthersAreThere s disturbed words → AreSettled s disturbed own masked
  unfolding masked by_channel masked_at own at
  settled disturbed others =
      record {
        set = is_a_set;
        few = others.few;
        table = refl;
        sent = λ q member good. masked_is q (member-channel s q is_a_set member)
            ∙ ap (λ b. cond b (place_or words q None) None) member
            ∙ own_is (place_or words q None) (others.there q member good);
        passive = λ q low out. masked_is q low ∙ ap (λ b. cond b (place_or words q None) None) out;
      }

  others_word : (disturbed : ChannelSet) (k : ℕ) → OthersAreThere s disturbed words → (q : Channel) →
      IsCorrect s disturbed q → IsOthersWord s disturbed words k (word_of (own q).words k)
  unfolding own at
  others_word disturbed k others q fine =
      record {
        channel = q;
        source = own q;
        member = fine.member;
        good = fine.good;
        held = own_is (place_or words q None) (others.there q fine.member fine.good);
        same = refl;
      }

  front_word : (xs ys : List ℤ) (k : ℕ) → k < length xs → word_of (xs ++ ys) k ≡ word_of xs k
  front_word [] ys k h = absurd (omega arith)
  front_word (x ∷ xs) ys zero h = refl
  front_word (x ∷ xs) ys (suc k) h = front_word xs ys k (omega arith)

  length_map : (f : ℕ → ℤ) (a n : ℕ) → length (map f (range_with_len a n)) ≡ n
  length_map f a zero = refl
  length_map f a (suc n) = ap suc (length_map f (a + 1) n)

  -- the consolidated word of a place, where the array is padded
  consolidated : (width n k : ℕ) (result : List ℤ) →
      result ≡ inputs_of width (words_in s words) ++ replicate n (pos 0) → k < width →
      word_of (inputs_of width masked) k ≡ word_of result k
  consolidated width n k result e h =
      let long : length (inputs_of width (words_in s words)) ≡ width
      = length_map (λ k. lower_median (map (λ (w : SourceValue). word_of w.words k) (present (words_in s words)))) 0
      width in
      ap (λ xs. word_of xs k) (inputs_masked width)
      ∙ sym (front_word (inputs_of width (words_in s words)) (replicate n (pos 0)) k (omega (arith, long, h)))
      ∙ ap (λ xs. word_of xs k) (sym e)

  pub least_bound : (disturbed : ChannelSet) (width n k : ℕ) (result : List ℤ) →
      result ≡ inputs_of width (words_in s words) ++ replicate n (pos 0) → OthersAreThere s disturbed words →
      k < width →
      (w : ℤ) × IsOthersWord s disturbed words k w × (w ≤ℤ word_of result k)
  least_bound disturbed width n k result e others h =
      let found : (q : Channel) × IsCorrect s disturbed q
      × (word_of (own q).words k ≤ℤ word_of (inputs_of width masked) k)
      = least_of s disturbed own masked (settled disturbed others) k width h in (
        word_of (own found.0).words k,
        others_word disturbed k others found.0 found.1,
        subst (λ z. word_of (own found.0).words k ≤ℤ z) (consolidated width n k result e h) found.2,
      )

  pub greatest_bound : (disturbed : ChannelSet) (width n k : ℕ) (result : List ℤ) →
      result ≡ inputs_of width (words_in s words) ++ replicate n (pos 0) → OthersAreThere s disturbed words →
      k < width →
      (w : ℤ) × IsOthersWord s disturbed words k w × (word_of result k ≤ℤ w)
  greatest_bound disturbed width n k result e others h =
      let found : (q : Channel) × IsCorrect s disturbed q
      × (word_of (inputs_of width masked) k ≤ℤ word_of (own q).words k)
      = greatest_of s disturbed own masked (settled disturbed others) k width h in (
        word_of (own found.0).words k,
        others_word disturbed k others found.0 found.1,
        subst (λ z. z ≤ℤ word_of (own found.0).words k) (consolidated width n k result e h) found.2,
      )
