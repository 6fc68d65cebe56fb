-- How many distinct numbers a list has, by the set of its numbers.
use Rattle.std.proofs.Common.{◌≡◌, ℕ, ◌+◌, ◌≤◌, ◌==◌, Bool, true, false, cond, not, ◌&&◌, ◌||◌, List, [], ◌∷◌, length, refl, sym, ap, ◌∙◌, arith, suc}
use Rattle.std.specs.Prelude.{filter, count_by, nat_lt}
use Rattle.std.specs.List.{list_all}
use Rattle.std.proofs.lemmas.Bool.{eqb-true, leb-true}
use Rattle.std.proofs.lemmas.List.{append-nil}
use Rattle.std.proofs.lemmas.List.Sums.{length-filter}
use Rattle.guards_model.specs.Channels.{has, without, numbers_below}
use Rattle.guards_model.specs.Frames.{is_distinct}
use Rattle.guards_model.specs.JoinBound.{distinct}
use Rattle.guards_model.proofs.Tables.{has-filter}
use Rattle.guards_model.proofs.BoolTests.{both, and_true, not_true}
use Rattle.guards_model.proofs.Counting.{count-split, count-cons, one_if, one_if_true, one_if_false, has-head}
use Rattle.guards_model.proofs.NumbersBelow.{below_there}
use Rattle.guards_model.proofs.ListTests.{weaken}
use Rattle.guards_model.proofs.AscendingLists.{cyclic_distinct}
use Rattle.context_blocks.specs.BlockSets.{numbers_where}

same_by : (xs ys : List ℕ) (x b : ℕ) (here same : Bool) → has xs x ≡ here → (x == b) ≡ same → has ys b ≡ has xs b →
    has (cond here ys (x ∷ ys)) b ≡ (same || has xs b)
same_by xs ys x b true true h e more = more ∙ sym (ap (λ c. has xs c) (eqb-true x b e)) ∙ h
same_by xs ys x b true false h e more = more
same_by xs ys x b false true h e more = ap (λ s. s || has ys b) e
same_by xs ys x b false false h e more = ap (λ s. s || has ys b) e ∙ more

-- the same members
pub has-distinct : (xs : List ℕ) (b : ℕ) → has (distinct xs) b ≡ has xs b
has-distinct [] b = refl
has-distinct (x ∷ xs) b = same_by xs (distinct xs) x b (has xs x) (x == b) refl refl (has-distinct xs b)

apart_by : (xs ys : List ℕ) (x : ℕ) (here : Bool) → has ys x ≡ here → is_distinct ys ≡ true →
    is_distinct (cond here ys (x ∷ ys)) ≡ true
unfolding is_distinct
apart_by xs ys x true h d = d
apart_by xs ys x false h d = and_true (not (has ys x)) (is_distinct ys) (ap not h) d

pub distinct_apart : (xs : List ℕ) → is_distinct (distinct xs) ≡ true
unfolding is_distinct
distinct_apart [] = refl
distinct_apart (x ∷ xs) =
    ap (λ here. is_distinct (cond here (distinct xs) (x ∷ distinct xs))) (sym (has-distinct xs x))
    ∙ apart_by xs (distinct xs) x (has (distinct xs) x) refl (distinct_apart xs)

all_by : (P : ℕ → Bool) (x : ℕ) (ys : List ℕ) (here : Bool) → P x ≡ true → list_all P ys ≡ true →
    list_all P (cond here ys (x ∷ ys)) ≡ true
all_by P x ys true h all = all
all_by P x ys false h all = and_true (P x) (list_all P ys) h all

all-distinct : (P : ℕ → Bool) (xs : List ℕ) → list_all P xs ≡ true → list_all P (distinct xs) ≡ true
all-distinct P [] h = refl
all-distinct P (x ∷ xs) h = let parts = both (P x) (list_all P xs) h in
    all_by P x (distinct xs) (has xs x) parts.0 (all-distinct P xs parts.1)

below_distinct : (n : ℕ) → is_distinct (numbers_below n) ≡ true
below_distinct n = ap is_distinct (sym (append-nil (numbers_below n))) ∙ cyclic_distinct n 0

-- each passes
count_every : (P : ℕ → Bool) (xs : List ℕ) → ((b : ℕ) → has xs b ≡ true → P b ≡ true) → count_by P xs ≡ length xs
count_every P [] h = refl
count_every P (x ∷ xs) h =
    omega (
      arith,
      count-cons P x xs,
      one_if_true (P x) (h x (has-head x xs)),
      count_every P xs (λ b there. h b (later (x == b) (has xs b) there)),
    )
  where
    later : (a b : Bool) → b ≡ true → (a || b) ≡ true
    later true b h = refl
    later false b h = h

-- none passes
count_none : (P : ℕ → Bool) (xs : List ℕ) → ((b : ℕ) → has xs b ≡ true → P b ≡ false) → count_by P xs ≡ 0
count_none P [] h = refl
count_none P (x ∷ xs) h =
    omega (
      arith,
      count-cons P x xs,
      none_if (P x) (h x (has-head x xs)),
      count_none P xs (λ b there. h b (later (x == b) (has xs b) there)),
    )
  where
    later : (a b : Bool) → b ≡ true → (a || b) ≡ true
    later true b h = refl
    later false b h = h

    none_if : (b : Bool) → b ≡ false → one_if b ≡ 0
    none_if b h = one_if_false b h

-- the set of some numbers below n has as many members as there are distinct numbers
pub distinct_counted : (n : ℕ) (xs : List ℕ) → list_all (λ b. nat_lt b n) xs ≡ true →
    length (numbers_where n (has xs)) ≡ length (distinct xs)
unfolding numbers_where
distinct_counted n xs low =
    let ys = distinct xs in
    let there : list_all (has (numbers_below n)) ys ≡ true =
    weaken (λ b. nat_lt b n) (has (numbers_below n)) ys (λ b h. below_there n b (leb-true (suc b) n h))
    (all-distinct (λ b. nat_lt b n) xs low) in
    let split = count-split (has xs) (numbers_below n) ys (below_distinct n) (distinct_apart xs) there in
    let inside : count_by (has xs) ys ≡ length ys = count_every (has xs) ys (λ b h. sym (has-distinct xs b) ∙ h) in
    let outside : count_by (has xs) (without (numbers_below n) ys) ≡ 0 =
    count_none (has xs) (without (numbers_below n) ys)
    (λ b h. sym (has-distinct xs b)
    ∙ not_true (has ys b) (both (not (has ys b)) (has (numbers_below n) b)
    (sym (has-filter (λ q. not (has ys q)) (numbers_below n) b) ∙ h)).0) in
    length-filter (has xs) (numbers_below n) ∙ omega (arith, split, inside, outside)
