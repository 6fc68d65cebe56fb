-- The loops over channels and places.
use Rattle.std.proofs.Common.{◌≡◌, ℕ, zero, suc, ◌+◌, ◌-◌, ◌<◌, Bool, true, false, cond, List, [], ◌∷◌, ◌++◌, length, get_or, set, replicate, Option, None, Some, refl, sym, ap, ◌∙◌, arith}
use Rattle.std.specs.Prelude.{map, filter}
use Rattle.std.specs.List.{range_with_len}
use Rattle.std.proofs.lemmas.List.{map-append}
use Rattle.std.proofs.lemmas.List.Elements.{filter_map-append}
use Rattle.guards_model.specs.Channels.{ChannelSet, has, place_or, by_channel, channels_where}
use Rattle.guards_model.specs.Voting.{present}

append-nil : {A : Type 0} (xs : List A) → xs ++ [] ≡ xs
append-nil [] = refl
append-nil (x ∷ xs) = ap (λ ys. x ∷ ys) (append-nil xs)

-- a range one longer
filter_range_more : (p : ℕ → Bool) (a n j : ℕ) → a + n ≡ j →
    filter p (range_with_len a (suc n)) ≡ filter p (range_with_len a n) ++ cond (p j) (j ∷ []) []
filter_range_more p a zero j e =
    let same : a ≡ j = omega (arith, e) in
    ap (λ x. cond (p x) (x ∷ []) []) same
filter_range_more p a (suc n) j e =
    let more = filter_range_more p (a + 1) n j (omega arith) in
    first (p a) more
  where
    first : (here : Bool) → filter p (range_with_len (a + 1) (suc n))
        ≡ filter p (range_with_len (a + 1) n) ++ cond (p j) (j ∷ []) [] →
        cond here (a ∷ filter p (range_with_len (a + 1) (suc n))) (filter p (range_with_len (a + 1) (suc n)))
        ≡ cond here (a ∷ filter p (range_with_len (a + 1) n)) (filter p (range_with_len (a + 1) n))
        ++ cond (p j) (j ∷ []) []
    first true h = ap (λ xs. a ∷ xs) h
    first false h = h

abbrev kept_if : {B : Type 0} → Option B → List B
kept_if o = present (o ∷ [])

-- what the flagged channels below n have in a table, by a function
unfoldable pub gathered : {A B : Type 0} → (A → B) → List (Option A) → List Bool → ℕ → List B
gathered f table flags n =
    map f (present (map (λ j. place_or table j None) (filter (λ q. get_or flags q false) (range_with_len 0 n))))

module _ {A B : Type 0} (f : A → B) (table : List (Option A)) (flags : List Bool) (j : ℕ) where
  one_more : (here : Bool) → get_or flags j false ≡ here →
      gathered f table flags (j + 1)
      ≡ gathered f table flags j ++ map f (present (map (λ q. place_or table q None) (cond here (j ∷ []) [])))
  unfolding gathered
  one_more here e =
      let p : ℕ → Bool = λ q. get_or flags q false in
      let at : ℕ → Option A = λ q. place_or table q None in
      let longer : j + 1 ≡ suc j = omega arith in
      let start : 0 + j ≡ j = omega arith in
      ap (λ n. map f (present (map at (filter p (range_with_len 0 n))))) longer
      ∙ ap (λ xs. map f (present (map at xs)))
      (filter_range_more p 0 j j start ∙ ap (λ b. filter p (range_with_len 0 j) ++ cond b (j ∷ []) []) e)
      ∙ ap (λ xs. map f (present xs)) (map-append at (filter p (range_with_len 0 j)) (cond here (j ∷ []) []))
      ∙ ap (map f) (filter_map-append (λ x. x) (map at (filter p (range_with_len 0 j)))
      (map at (cond here (j ∷ []) [])))
      ∙ map-append f (present (map at (filter p (range_with_len 0 j)))) (present (map at (cond here (j ∷ []) [])))

  pub gathered_off : get_or flags j false ≡ false → gathered f table flags (j + 1) ≡ gathered f table flags j
  gathered_off e = one_more false e ∙ append-nil (gathered f table flags j)

  pub gathered_missing : get_or flags j false ≡ true → place_or table j None ≡ None →
      gathered f table flags (j + 1) ≡ gathered f table flags j
  gathered_missing e h = one_more true e ∙ ap (λ o. gathered f table flags j ++ map f (kept_if o)) h
      ∙ append-nil (gathered f table flags j)

  pub gathered_there : (w : A) → get_or flags j false ≡ true → place_or table j None ≡ Some w →
      gathered f table flags (j + 1) ≡ gathered f table flags j ++ f w ∷ []
  gathered_there w e h = one_more true e ∙ ap (λ o. gathered f table flags j ++ map f (kept_if o)) h

pub gathered_none : {A B : Type 0} (f : A → B) (table : List (Option A)) (flags : List Bool) →
    gathered f table flags 0 ≡ []
unfolding gathered
gathered_none f table flags = refl

-- the flags of a set flag its members
flagged : (s : ChannelSet) (flags : List Bool) → flags ≡ by_channel (has s) → s ≡ channels_where (has s) →
    filter (λ q. get_or flags q false) (range_with_len 0 7) ≡ s
unfolding by_channel channels_where
flagged s flags e whole = ap (λ (fl : List Bool). filter (λ q. get_or fl q false) (range_with_len 0 7)) e ∙ sym whole

pub gathered_all : {A B : Type 0} (f : A → B) (table : List (Option A)) (s : ChannelSet) (flags : List Bool) →
    flags ≡ by_channel (has s) → s ≡ channels_where (has s) →
    gathered f table flags 7 ≡ map f (present (map (λ j. place_or table j None) s))
unfolding gathered
gathered_all f table s flags e whole =
    ap (λ xs. map f (present (map (λ j. place_or table j None) xs))) (flagged s flags e whole)

-- a place of a table by what stands there
pub place_is : {A : Type 0} (table : List (Option A)) (j : ℕ) (r x : Option A) → get_or table j r ≡ x →
    j < length table → place_or table j None ≡ x
place_is [] j r x e h = absurd (omega arith)
place_is (y ∷ table) zero r x e h = e
place_is (y ∷ table) (suc j) r x e h = place_is table j r x e (omega arith)

-- ---- an array that is filled from the front

unfoldable pub filled_to : {B : Type 0} → (ℕ → B) → B → ℕ → ℕ → List B
filled_to f d places n = map f (range_with_len 0 n) ++ replicate (places - n) d

map_range_more : {B : Type 0} (f : ℕ → B) (a n j : ℕ) → a + n ≡ j →
    map f (range_with_len a (suc n)) ≡ map f (range_with_len a n) ++ f j ∷ []
map_range_more f a zero j e = let same : a ≡ j = omega (arith, e) in ap (λ x. f x ∷ []) same
map_range_more f a (suc n) j e = ap (λ xs. f a ∷ xs) (map_range_more f (a + 1) n j (omega arith))

length_range : {B : Type 0} (f : ℕ → B) (a n : ℕ) → length (map f (range_with_len a n)) ≡ n
length_range f a zero = refl
length_range f a (suc n) = ap suc (length_range f (a + 1) n)

set_next : {B : Type 0} (xs ys : List B) (x y : B) (k : ℕ) → length xs ≡ k →
    set (xs ++ y ∷ ys) k x ≡ (xs ++ x ∷ []) ++ ys
set_next [] ys x y zero e = refl
set_next [] ys x y (suc k) e = absurd (omega arith)
set_next (z ∷ xs) ys x y zero e = absurd (omega arith)
set_next (z ∷ xs) ys x y (suc k) e = ap (λ zs. z ∷ zs) (set_next xs ys x y k (omega arith))

pub filled_more : {B : Type 0} (f : ℕ → B) (d : B) (places n : ℕ) (x : B) → n < places → x ≡ f n →
    set (filled_to f d places n) n x ≡ filled_to f d places (n + 1)
unfolding filled_to
filled_more f d places n x h e =
    let left : places - n ≡ suc (places - (n + 1)) = omega arith in
    let longer : suc n ≡ n + 1 = omega arith in
    let start : 0 + n ≡ n = omega arith in
    ap (λ m. set (map f (range_with_len 0 n) ++ replicate m d) n x) left
    ∙ set_next (map f (range_with_len 0 n)) (replicate (places - (n + 1)) d) x d n (length_range f 0 n)
    ∙ ap (λ y. (map f (range_with_len 0 n) ++ y ∷ []) ++ replicate (places - (n + 1)) d) e
    ∙ ap (λ xs. xs ++ replicate (places - (n + 1)) d)
    (sym (map_range_more f 0 n n start) ∙ ap (λ m. map f (range_with_len 0 m)) longer)

pub filled_none : {B : Type 0} (f : ℕ → B) (d : B) (places : ℕ) → replicate places d ≡ filled_to f d places 0
unfolding filled_to
filled_none f d places = let same : places ≡ places - 0 = omega arith in ap (λ m. replicate m d) same
