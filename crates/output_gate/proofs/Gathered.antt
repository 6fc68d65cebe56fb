-- The vote of the ballots that are there.
use Rattle.std.proofs.Common.{◌≡◌, ◌≤◌, ◌<◌, ◌-◌, ℕ, zero, suc, ◌+◌, Bool, true, false, cond, List, [], ◌∷◌, ◌++◌, length, map, take, replicate, Option, Some, None, ℤ, pos, refl, sym, ap, ◌∙◌, arith}
use Rattle.std.specs.Prelude.{filter, is_some, slice_get, unwrap_or}
use Rattle.std.specs.List.{range_with_len}
use Rattle.std.specs.Ordering.{int_eq}
use Rattle.std.proofs.lemmas.List.{length-map}
use Rattle.guards_model.specs.Channels.{Channel, ChannelSet, channels_where, every_channel, place_or, numbers_below}
use Rattle.guards_model.specs.Contexts.{word_of}
use Rattle.guards_model.specs.Majority.{majority_of}
use Rattle.guards_model.specs.Voting.{Ballots, present, cast_of, vote_of}
use Rattle.guards_model.specs.Actuators.{moved, wanted_at, words_moved}
use Rattle.output_gate.specs.Gates.{moved_towards}

-- ---- those that are there

there_only : (f : ℕ → Option (List ℤ)) (xs : List ℕ) →
    present (map f (filter (λ q. is_some (f q)) xs)) ≡ present (map f xs)
there_only f [] = refl
there_only f (x ∷ xs) = by (f x) refl (there_only f xs)
  where
    by : (o : Option (List ℤ)) → f x ≡ o → present (map f (filter (λ q. is_some (f q)) xs)) ≡ present (map f xs) →
        present (map f (cond (is_some (f x)) (x ∷ filter (λ q. is_some (f q)) xs) (filter (λ q. is_some (f q)) xs)))
        ≡ present (f x ∷ map f xs)
    by None e rest =
        ap (λ o. present (map f (cond (is_some o) (x ∷ filter (λ q. is_some (f q)) xs)
        (filter (λ q. is_some (f q)) xs)))) e ∙ rest
        ∙ sym (ap (λ o. present (o ∷ map f xs)) e)
    by (Some a) e rest =
        ap (λ o. present (map f (cond (is_some o) (x ∷ filter (λ q. is_some (f q)) xs)
        (filter (λ q. is_some (f q)) xs)))) e
        ∙ ap (λ o. present (o ∷ map f (filter (λ q. is_some (f q)) xs))) e
        ∙ ap (λ ys. a ∷ ys) rest
        ∙ sym (ap (λ o. present (o ∷ map f xs)) e)

there_count : (f : ℕ → Option (List ℤ)) (xs : List ℕ) →
    length (filter (λ q. is_some (f q)) xs) ≡ length (present (map f xs))
there_count f [] = refl
there_count f (x ∷ xs) = by (f x) refl (there_count f xs)
  where
    by : (o : Option (List ℤ)) → f x ≡ o → length (filter (λ q. is_some (f q)) xs) ≡ length (present (map f xs)) →
        length (cond (is_some (f x)) (x ∷ filter (λ q. is_some (f q)) xs) (filter (λ q. is_some (f q)) xs))
        ≡ length (present (f x ∷ map f xs))
    by None e rest =
        ap (λ o. length (cond (is_some o) (x ∷ filter (λ q. is_some (f q)) xs) (filter (λ q. is_some (f q)) xs))) e
        ∙ rest
        ∙ sym (ap (λ o. length (present (o ∷ map f xs))) e)
    by (Some a) e rest =
        ap (λ o. length (cond (is_some o) (x ∷ filter (λ q. is_some (f q)) xs) (filter (λ q. is_some (f q)) xs))) e
        ∙ ap suc rest
        ∙ sym (ap (λ o. length (present (o ∷ map f xs))) e)

-- a table of seven places
as_table : (ballots : Ballots) → length ballots ≡ 7 → map (λ q. place_or ballots q None) every_channel ≡ ballots
as_table (a ∷ b ∷ c ∷ d ∷ e ∷ f ∷ g ∷ []) h = refl
as_table (a ∷ b ∷ c ∷ d ∷ e ∷ f ∷ g ∷ x ∷ xs) h = absurd (omega arith)
as_table [] h = absurd (omega arith)
as_table (a ∷ []) h = absurd (omega arith)
as_table (a ∷ b ∷ []) h = absurd (omega arith)
as_table (a ∷ b ∷ c ∷ []) h = absurd (omega arith)
as_table (a ∷ b ∷ c ∷ d ∷ []) h = absurd (omega arith)
as_table (a ∷ b ∷ c ∷ d ∷ e ∷ []) h = absurd (omega arith)
as_table (a ∷ b ∷ c ∷ d ∷ e ∷ f ∷ []) h = absurd (omega arith)

abbrev pub there_set : Ballots → ChannelSet
there_set ballots = channels_where (λ q. is_some (place_or ballots q None))

cast_there : (ballots : Ballots) → length ballots ≡ 7 → cast_of (there_set ballots) ballots ≡ present ballots
unfolding channels_where
cast_there ballots size = there_only (λ q. place_or ballots q None) every_channel ∙ ap present (as_table ballots size)

count_there : (ballots : Ballots) → length ballots ≡ 7 → length (there_set ballots) ≡ length (present ballots)
unfolding channels_where
count_there ballots size =
    there_count (λ q. place_or ballots q None) every_channel ∙ ap (λ os. length (present os)) (as_table ballots size)

wanted_there : (ballots : Ballots) → length ballots ≡ 7 → (k : ℕ) →
    majority_of int_eq (length (there_set ballots))
    (map (λ words. word_of words k) (cast_of (there_set ballots) ballots)) ≡ wanted_at ballots k
wanted_there ballots size k =
    ap (λ n. majority_of int_eq n (map (λ words. word_of words k) (cast_of (there_set ballots) ballots)))
    (count_there ballots size ∙ sym (length-map (present ballots) (λ words. word_of words k)))
    ∙ ap (λ cast. majority_of int_eq (length (map (λ words. word_of words k) (present ballots)))
    (map (λ words. word_of words k) cast)) (cast_there ballots size)

-- ---- places

at_range : {A : Type 0} (f : ℕ → A) (rest : List A) (start count k : ℕ) (d : A) → k < count →
    unwrap_or (slice_get (map f (range_with_len start count) ++ rest) k) d ≡ f (start + k)
at_range f rest start zero k d low = absurd (omega (arith, low))
at_range f rest start (suc count) zero d low = ap f (omega arith)
at_range f rest start (suc count) (suc k) d low =
    let shift : (start + 1) + k ≡ start + suc k = omega arith in
    at_range f rest (start + 1) count k d (omega (arith, low)) ∙ ap f shift

at_taken : (n k : ℕ) (words : List ℤ) → k < n → word_of (take n words) k ≡ word_of words k
at_taken zero k words low = absurd (omega (arith, low))
at_taken (suc n) k [] low = refl
at_taken (suc n) zero (w ∷ words) low = refl
at_taken (suc n) (suc k) (w ∷ words) low = at_taken n k words (omega (arith, low))

pub range_same : {A : Type 0} (f g : ℕ → A) (start count : ℕ) → ((k : ℕ) → k < start + count → f k ≡ g k) →
    map f (range_with_len start count) ≡ map g (range_with_len start count)
range_same f g start zero same = refl
range_same f g start (suc count) same =
    ap (λ x. x ∷ map f (range_with_len (start + 1) count)) (same start (omega arith))
    ∙ ap (λ xs. g start ∷ xs) (range_same f g (start + 1) count (λ k low. same k (omega (arith, low))))

-- ---- the move

zero_plus : (k : ℕ) → 0 + k ≡ k
zero_plus k = omega arith

-- what the code computes is what the definition says
pub moves : (steps words : List ℤ) (ballots : Ballots) (wanted : List (Option ℤ)) → length ballots ≡ 7 →
    wanted ≡ vote_of (there_set ballots) (length words) ballots ++ replicate (8 - length words) None →
    moved_towards steps words wanted (length words) ≡ words_moved (take (length words) steps) words ballots
moves steps words ballots wanted size voted =
    range_same (λ k. moved (word_of steps k) (word_of words k) (place_or wanted k None))
    (λ k. moved (word_of (take (length words) steps) k) (word_of words k) (wanted_at ballots k)) 0 (length words)
    (λ k low. at k (omega (arith, low)))
  where
    at : (k : ℕ) → k < length words →
        moved (word_of steps k) (word_of words k) (place_or wanted k None)
        ≡ moved (word_of (take (length words) steps) k) (word_of words k) (wanted_at ballots k)
    at k low =
        let n = length words in
        let V : ℕ → Option ℤ = λ j.
        majority_of int_eq (length (there_set ballots))
        (map (λ ws. word_of ws j) (cast_of (there_set ballots) ballots)) in
        ap (λ s. moved s (word_of words k) (place_or wanted k None)) (sym (at_taken n k steps low))
        ∙ ap (λ o. moved (word_of (take n steps) k) (word_of words k) o)
        (ap (λ os. place_or os k None) voted ∙ at_range V (replicate (8 - n) None) 0 n k None low ∙ ap V (zero_plus k)
        ∙ wanted_there ballots size k)

-- the first of a padded list
pub first_are : (f : ℕ → ℤ) (n : ℕ) (rest : List ℤ) → take n (map f (numbers_below n) ++ rest) ≡ map f (numbers_below n)
first_are f n rest = take_range f 0 n rest
  where
    take_range : (f : ℕ → ℤ) (start n : ℕ) (rest : List ℤ) →
        take n (map f (range_with_len start n) ++ rest) ≡ map f (range_with_len start n)
    take_range f start zero rest = refl
    take_range f start (suc n) rest = ap (λ xs. f start ∷ xs) (take_range f (start + 1) n rest)

pub range_length : {A : Type 0} (f : ℕ → A) (start n : ℕ) → length (map f (range_with_len start n)) ≡ n
range_length f start zero = refl
range_length f start (suc n) = ap suc (range_length f (start + 1) n)

-- a table of eight places
pub eight_places : (f : Option ℤ → ℤ) (votes : List (Option ℤ)) → length votes ≡ 8 →
    map (λ k. f (place_or votes k None)) (numbers_below 8) ++ replicate (8 - 8) (pos 0) ≡ map f votes
eight_places f (a ∷ b ∷ c ∷ d ∷ e ∷ g ∷ h ∷ i ∷ []) size = refl
eight_places f (a ∷ b ∷ c ∷ d ∷ e ∷ g ∷ h ∷ i ∷ x ∷ xs) size = absurd (omega arith)
eight_places f [] size = absurd (omega arith)
eight_places f (a ∷ []) size = absurd (omega arith)
eight_places f (a ∷ b ∷ []) size = absurd (omega arith)
eight_places f (a ∷ b ∷ c ∷ []) size = absurd (omega arith)
eight_places f (a ∷ b ∷ c ∷ d ∷ []) size = absurd (omega arith)
eight_places f (a ∷ b ∷ c ∷ d ∷ e ∷ []) size = absurd (omega arith)
eight_places f (a ∷ b ∷ c ∷ d ∷ e ∷ g ∷ []) size = absurd (omega arith)
eight_places f (a ∷ b ∷ c ∷ d ∷ e ∷ g ∷ h ∷ []) size = absurd (omega arith)
