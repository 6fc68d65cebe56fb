-- The marked blocks as a list, after what the calls do to the marks.
use Rattle.std.proofs.Common.{◌≡◌, ℕ, zero, suc, ◌+◌, ◌-◌, ◌<◌, ◌≤◌, ◌==◌, Bool, true, false, cond, not, ◌&&◌, ◌||◌, List, [], ◌∷◌, ◌++◌, length, get_or, set, refl, sym, ap, ◌∙◌, arith, eq-eqb, get_or-set_other, get_or-set_same, subst}
use Rattle.std.specs.Prelude.{filter, take, drop, Some, None, count_by, replicate, All}
use Rattle.std.specs.List.{range_with_len, last_or}
use Rattle.std.proofs.lemmas.Bool.{eqb-true}
use Rattle.std.proofs.lemmas.List.{get_or-replicate}
use Rattle.std.proofs.lemmas.List.Elements.{filter-append, All-filter, All-take, All-drop, All-append}
use Rattle.std.proofs.lemmas.List.FromFn.{length-range_with_len, get_or-range_with_len}
use Rattle.std.proofs.lemmas.List.Sums.{sum_by-cons}
use Rattle.guards_model.specs.Channels.{has, numbers_below}
use Rattle.guards_model.specs.Transfers.{remains, remaining_blocks, cyclic_from, cursor_after}
use Rattle.guards_model.specs.Tags.{TagsValue, blocks_in, tags_of, tags_written, tags_noted, tags_closed, plan_by_tags}
use Rattle.guards_model.proofs.NumbersBelow.{below_there}
use Rattle.guards_model.proofs.TagSteps.{filter_alike, kept_test, in_cycle}
use Rattle.dirty_tags.specs.Marks.{is_marked, marked}

-- ---- numbers of a range

in_range_by : (a n b : ℕ) (same : Bool) → (a == b) ≡ same → (same || has (range_with_len (a + 1) n) b) ≡ true →
    (has (range_with_len (a + 1) n) b ≡ true → b < a + 1 + n) → b < a + suc n
in_range_by a n b true e h more = let same : a ≡ b = eqb-true a b e in omega (arith, same)
in_range_by a n b false e h more = let later : b < a + 1 + n = more h in omega (arith, later)

in_range : (a n b : ℕ) → has (range_with_len a n) b ≡ true → b < a + n
in_range a zero b h = absurd cc
in_range a (suc n) b h = in_range_by a n b (a == b) refl h (in_range (a + 1) n b)

pub below_of : (n b : ℕ) → has (numbers_below n) b ≡ true → b < n
below_of n b h = let low : b < 0 + n = in_range 0 n b h in omega (arith, low)

drop_range : (a n k : ℕ) → drop k (range_with_len a n) ≡ range_with_len (a + k) (n - k)
drop_range a n zero =
    let start : a ≡ a + 0 = omega arith in
    let long : n ≡ n - 0 = omega arith in
    ap (λ b. range_with_len b n) start ∙ ap (range_with_len (a + 0)) long
drop_range a zero (suc k) = let none : 0 ≡ 0 - suc k = omega arith in ap (range_with_len (a + suc k)) none
drop_range a (suc n) (suc k) =
    drop_range (a + 1) n k ∙ ap (λ b. range_with_len b (n - k)) (omega arith)
    ∙ ap (λ m. range_with_len (a + suc k) m) (omega arith)

take_range : (a n k : ℕ) → k ≤ n → take k (range_with_len a n) ≡ range_with_len a k
take_range a n zero h = refl
take_range a zero (suc k) h = absurd (omega arith)
take_range a (suc n) (suc k) h = ap (λ xs. a ∷ xs) (take_range (a + 1) n k (omega arith))

-- ---- marks

pub marked_alike : (blocks : ℕ) (marks : List Bool) (test : ℕ → Bool) →
    ((b : ℕ) → b < blocks → is_marked marks b ≡ test b) →
    marked blocks marks ≡ filter test (numbers_below blocks)
unfolding marked
marked_alike blocks marks test alike =
    filter_alike (is_marked marks) test (numbers_below blocks) (λ b h. alike b (below_of blocks b h))

-- a block below the bound is in the list exactly where it is marked
pub has-marked : (blocks : ℕ) (marks : List Bool) (b : ℕ) → b < blocks → has (marked blocks marks) b ≡ is_marked marks b
unfolding marked
has-marked blocks marks b h = kept_test (is_marked marks) blocks b (below_there blocks b h)

pub all_marked : (blocks : ℕ) → blocks ≤ 256 → marked blocks (replicate 256 true) ≡ remaining_blocks blocks []
all_marked blocks h = marked_alike blocks (replicate 256 true) (remains [])
    (λ b low. get_or-replicate 256 b true false (omega arith))

pub none_marked : (blocks : ℕ) → blocks ≤ 256 → marked blocks (replicate 256 false) ≡ blocks_in blocks []
none_marked blocks h = marked_alike blocks (replicate 256 false) (has [])
    (λ b low. get_or-replicate 256 b false false (omega arith))

pub empty_now : (blocks : ℕ) → blocks ≤ 256 → marked blocks (replicate 256 false) ≡ []
empty_now blocks h = none_marked blocks h ∙ nothing (numbers_below blocks)
  where
    nothing : (xs : List ℕ) → filter (has []) xs ≡ []
    nothing [] = refl
    nothing (x ∷ xs) = nothing xs

-- one more marked block
marked_there : (marks : List Bool) (block b : ℕ) (same : Bool) → (block == b) ≡ same → block < length marks →
    is_marked (set marks block true) b ≡ (same || is_marked marks b)
marked_there marks block b true e h =
    let here : block ≡ b = eqb-true block b e in
    ap (is_marked (set marks block true)) (sym here) ∙ get_or-set_same marks block true false h
marked_there marks block b false e h =
    get_or-set_other marks block b true false (λ same. differ (sym (eq-eqb block b (sym same)) ∙ e))
  where
    differ : true ≡ false → ⊥
    differ h = cc

pub one_marked : (blocks : ℕ) (marks : List Bool) (block : ℕ) → block < length marks →
    marked blocks (set marks block true) ≡ blocks_in blocks (block ∷ marked blocks marks)
one_marked blocks marks block h =
    marked_alike blocks (set marks block true) (has (block ∷ marked blocks marks))
    (λ b low. marked_there marks block b (block == b) refl h
    ∙ ap (λ t. (block == b) || t) (sym (has-marked blocks marks b low)))

-- ---- the plan

take_twice : (n : ℕ) (xs ys : List ℕ) → take n (take n xs ++ ys) ≡ take n (xs ++ ys)
take_twice zero xs ys = refl
take_twice (suc n) [] ys = refl
take_twice (suc n) (x ∷ xs) ys = ap (λ zs. x ∷ zs) (take_twice n xs ys)

pub cyclic_plan : (blocks cursor sweep : ℕ) (marks : List Bool) → cursor < blocks →
    take sweep (take sweep (filter (is_marked marks) (range_with_len cursor (blocks - cursor)))
    ++ filter (is_marked marks) (range_with_len 0 (cursor - 0)))
    ≡ take sweep (filter (has (marked blocks marks)) (cyclic_from blocks cursor))
cyclic_plan blocks cursor sweep marks h =
    let p = is_marked marks in
    let late : drop cursor (numbers_below blocks) ≡ range_with_len cursor (blocks - cursor) =
    drop_range 0 blocks cursor ∙ ap (λ a. range_with_len a (blocks - cursor)) (omega arith) in
    let early : take cursor (numbers_below blocks) ≡ range_with_len 0 (cursor - 0) =
    take_range 0 blocks cursor (omega arith) ∙ ap (range_with_len 0) (omega arith) in
    take_twice sweep (filter p (range_with_len cursor (blocks - cursor))) (filter p (range_with_len 0 (cursor - 0)))
    ∙ ap (take sweep)
    (sym (filter-append p (range_with_len cursor (blocks - cursor)) (range_with_len 0 (cursor - 0)))
    ∙ ap (filter p) (ap (λ xs. xs ++ range_with_len 0 (cursor - 0)) (sym late)
    ∙ ap (λ ys. drop cursor (numbers_below blocks) ++ ys) (sym early))
    ∙ sym (filter_alike (has (marked blocks marks)) p (cyclic_from blocks cursor)
    (λ b k. has-marked blocks marks b (below_of blocks b (in_cycle blocks cursor b k)))))

take_all : (most : ℕ) (xs : List ℕ) → length xs ≤ most → take most xs ≡ xs
take_all zero [] h = refl
take_all zero (x ∷ xs) h = absurd (omega arith)
take_all (suc most) [] h = refl
take_all (suc most) (x ∷ xs) h = ap (λ ys. x ∷ ys) (take_all most xs (omega arith))

-- all marked blocks, where they fit
pub whole_rest : (blocks most : ℕ) (marks : List Bool) → length (marked blocks marks) ≤ most →
    take most (filter (is_marked marks) (range_with_len 0 (blocks - 0))) ≡ marked blocks marks
unfolding marked
whole_rest blocks most marks h =
    ap (λ n. take most (filter (is_marked marks) (range_with_len 0 n))) (omega arith)
    ∙ take_all most (marked blocks marks) h

-- ---- how many

one_counted : (x : Bool) (a : ℕ) (rest : List ℕ) (xs : List Bool) → length rest ≡ count_by (λ m. m) xs →
    length (cond x (a ∷ rest) rest) ≡ count_by (λ m. m) (x ∷ xs)
one_counted true a rest xs h =
    let step : count_by (λ m. m) (true ∷ xs) ≡ 1 + count_by (λ m. m) xs = sum_by-cons (λ m. cond m 1 0) true xs in
    let more : suc (length rest) ≡ 1 + count_by (λ m. m) xs = omega (arith, h) in
    more ∙ sym step
one_counted false a rest xs h =
    let step : count_by (λ m. m) (false ∷ xs) ≡ 0 + count_by (λ m. m) xs = sum_by-cons (λ m. cond m 1 0) false xs in
    let same : length rest ≡ 0 + count_by (λ m. m) xs = omega (arith, h) in
    same ∙ sym step

count_marks : (marks : List Bool) (xs : List Bool) (a n : ℕ) →
    ((k : ℕ) → k < n → is_marked marks (a + k) ≡ get_or xs k false) → length xs ≡ n →
    length (filter (is_marked marks) (range_with_len a n)) ≡ count_by (λ m. m) xs
count_marks marks [] a zero same long = refl
count_marks marks [] a (suc n) same long = absurd (omega arith)
count_marks marks (x ∷ xs) a zero same long = absurd (omega arith)
count_marks marks (x ∷ xs) a (suc n) same long =
    let here : is_marked marks a ≡ x = ap (is_marked marks) (omega arith) ∙ same 0 (omega arith) in
    let rest : length (filter (is_marked marks) (range_with_len (a + 1) n)) ≡ count_by (λ m. m) xs
    = count_marks marks xs (a + 1) n (λ k h. ap (is_marked marks) (omega arith) ∙ same (suc k) (omega arith))
    (omega arith) in
    ap (λ t. length (cond t (a ∷ filter (is_marked marks) (range_with_len (a + 1) n))
    (filter (is_marked marks) (range_with_len (a + 1) n)))) here
    ∙ one_counted x a (filter (is_marked marks) (range_with_len (a + 1) n)) xs rest

get_or-take_below : (n k : ℕ) (xs : List Bool) → k < n → get_or (take n xs) k false ≡ get_or xs k false
get_or-take_below zero k xs h = absurd (omega arith)
get_or-take_below (suc n) k [] h = refl
get_or-take_below (suc n) zero (x ∷ xs) h = refl
get_or-take_below (suc n) (suc k) (x ∷ xs) h = get_or-take_below n k xs (omega arith)

pub count_marked : (blocks : ℕ) (marks : List Bool) → blocks ≤ length marks →
    length (marked blocks marks) ≡ count_by (λ m. m) (take blocks marks)
unfolding marked
count_marked blocks marks h =
    count_marks marks (take blocks marks) 0 blocks
    (λ k low. ap (is_marked marks) (omega arith) ∙ sym (get_or-take_below blocks k marks low)) (long blocks marks h)
  where
    long : (n : ℕ) (xs : List Bool) → n ≤ length xs → length (take n xs) ≡ n
    long zero xs h = refl
    long (suc n) [] h = absurd (omega arith)
    long (suc n) (x ∷ xs) h = ap suc (long n xs (omega arith))

-- ---- the last item

last_from : (x : ℕ) (xs : List ℕ) (d : ℕ) → last_or (Some x) xs ≡ Some (get_or (x ∷ xs) (length xs) d)
last_from x [] d = refl
last_from x (y ∷ xs) d = last_from y xs d ∙ ap Some (later x (y ∷ xs) (length xs) (length (y ∷ xs)) d (omega arith))
  where
    later : (x : ℕ) (xs : List ℕ) (k m d : ℕ) → m ≡ k + 1 → get_or xs k d ≡ get_or (x ∷ xs) m d
    later x xs k zero d e = absurd (omega arith)
    later x xs k (suc m) d e = ap (λ i. get_or xs i d) (omega arith)

pub last_is : (xs : List ℕ) (d : ℕ) → 0 < length xs → last_or None xs ≡ Some (get_or xs (length xs - 1) d)
last_is [] d h = absurd (omega arith)
last_is (x ∷ xs) d h = last_from x xs d ∙ ap (λ k. Some (get_or (x ∷ xs) k d)) (omega arith)

-- ---- what the calls make of tags

abbrev pub seen : ℕ → ℕ → List Bool → List Bool → TagsValue
seen blocks cursor remaining written =
    record { blocks = blocks; remaining = marked blocks remaining; cursor = cursor; written = marked blocks written }

pub seen_all : (blocks : ℕ) (remaining written : List Bool) → remaining ≡ replicate 256 true →
    written ≡ replicate 256 false → blocks ≤ 256 →
    seen blocks 0 remaining written ≡ tags_of blocks [] []
unfolding tags_of
seen_all blocks remaining written r w h =
    ap (λ xs. seen blocks 0 xs written) r ∙ ap (seen blocks 0 (replicate 256 true)) w
    ∙ ap (λ xs. record { blocks = blocks; remaining = xs; cursor = 0; written = marked blocks (replicate 256 false) })
    (all_marked blocks h)
    ∙ ap (λ ys. record { blocks = blocks; remaining = remaining_blocks blocks []; cursor = 0; written = ys })
    (none_marked blocks h)

module _ (blocks cursor : ℕ) (remaining written : List Bool) (t : TagsValue)
    (same : seen blocks cursor remaining written ≡ t) where
  pub blocks_seen : t.blocks ≡ blocks
  blocks_seen = sym (ap (λ s. s.blocks) same)

  pub remains_seen : (block : ℕ) → block < blocks → is_marked remaining block ≡ has t.remaining block
  remains_seen block h = sym (has-marked blocks remaining block h) ∙ ap (λ s. has s.remaining block) same

  pub rest_seen : marked blocks remaining ≡ t.remaining
  rest_seen = ap (λ s. s.remaining) same

  pub count_seen : blocks ≤ length remaining → count_by (λ m. m) (take blocks remaining) ≡ length t.remaining
  count_seen h = sym (count_marked blocks remaining h) ∙ ap length rest_seen

  pub seen_written : (at block : ℕ) → at ≡ block → block < length written →
      seen blocks cursor remaining (set written at true) ≡ tags_written block t
  unfolding tags_written
  seen_written at block e h =
      ap (λ b. seen blocks cursor remaining (set written b true)) e
      ∙ ap (λ ys. record { blocks = blocks; remaining = marked blocks remaining; cursor = cursor; written = ys })
      (one_marked blocks written block h)
      ∙ ap (tags_written block) same

  pub seen_noted : (list : List ℕ) (after : List Bool) → blocks ≤ 256 →
      ((b : ℕ) → b < 256 → is_marked after b ≡ (has list b || is_marked written b)) →
      seen blocks cursor remaining after ≡ tags_noted list t
  unfolding tags_noted
  seen_noted list after most noted =
      ap (λ ys. record { blocks = blocks; remaining = marked blocks remaining; cursor = cursor; written = ys })
      (marked_alike blocks after (λ b. has list b || has (marked blocks written) b)
      (λ b h. noted b (omega arith) ∙ ap (λ w. has list b || w) (sym (has-marked blocks written b h))))
      ∙ ap (tags_noted list) same

  pub seen_plan : (sweep : ℕ) (plan : List ℕ) → cursor < blocks →
      plan ≡ take sweep (take sweep (filter (is_marked remaining) (range_with_len cursor (blocks - cursor)))
      ++ filter (is_marked remaining) (range_with_len 0 (cursor - 0))) →
      plan ≡ plan_by_tags sweep t
  unfolding plan_by_tags
  seen_plan sweep plan h e = e ∙ cyclic_plan blocks cursor sweep remaining h ∙ ap (plan_by_tags sweep) same

  pub seen_closed : (plan : List ℕ) (middle after empty : List Bool) (next : ℕ) → blocks ≤ 256 →
      ((b : ℕ) → b < 256 → is_marked middle b ≡ (not (has plan b) && is_marked remaining b)) →
      ((b : ℕ) → b < 256 → is_marked after b ≡ (is_marked written b || is_marked middle b)) →
      empty ≡ replicate 256 false → next ≡ cursor_after blocks cursor (last_or None plan) →
      seen blocks next after empty ≡ tags_closed plan t
  unfolding tags_closed
  seen_closed plan middle after empty next most unmarked merged none moved =
      let test : ℕ → Bool = λ b. has (marked blocks written) b
      || (not (has plan b) && has (marked blocks remaining) b) in
      let alike : marked blocks after ≡ filter test (numbers_below blocks)
      = marked_alike blocks after test
      (λ b h. merged b (omega arith)
      ∙ ap (λ m. is_marked written b || m) (unmarked b (omega arith))
      ∙ ap (λ w. w || (not (has plan b) && is_marked remaining b)) (sym (has-marked blocks written b h))
      ∙ ap (λ r. has (marked blocks written) b || (not (has plan b) && r)) (sym (has-marked blocks remaining b h))) in
      ap (seen blocks next after) none
      ∙ ap (λ ys. record { blocks = blocks; remaining = marked blocks after; cursor = next; written = ys })
      (empty_now blocks most)
      ∙ ap (λ c. record { blocks = blocks; remaining = marked blocks after; cursor = c; written = [] }) moved
      ∙ ap (λ xs. record {
        blocks = blocks;
        remaining = xs;
        cursor = cursor_after blocks cursor (last_or None plan);
        written = [];
      }) alike
      ∙ ap (tags_closed plan) same

pub some_length : (xs : List ℕ) (b : Bool) → b ≡ (length xs == 0) → b ≡ false → 0 < length xs
some_length xs b e f = grind (arith, e, f)

-- what two gatherings in a row made, by the values of their arguments
pub first_gathered : (f : List ℕ → List ℕ) (r : ℕ → ℕ → List ℕ) (plan none : List ℕ)
    (most sweep from cursor to blocks : ℕ) →
    plan ≡ take most (none ++ f (r from (to - from))) → none ≡ [] → most ≡ sweep → from ≡ cursor → to ≡ blocks →
    plan ≡ take sweep (f (r cursor (blocks - cursor)))
first_gathered f r plan none most sweep from cursor to blocks e n m s t =
    e ∙ ap (λ xs. take most (xs ++ f (r from (to - from)))) n ∙ ap (λ k. take k (f (r from (to - from)))) m
    ∙ ap (λ a. take sweep (f (r a (to - a)))) s ∙ ap (λ b. take sweep (f (r cursor (b - cursor)))) t

pub then_gathered : (f : ℕ → List ℕ) (plan before known : List ℕ) (most sweep to cursor : ℕ) →
    plan ≡ take most (before ++ f (to - 0)) → before ≡ known → most ≡ sweep → to ≡ cursor →
    plan ≡ take sweep (known ++ f (cursor - 0))
then_gathered f plan before known most sweep to cursor e b m t =
    e ∙ ap (λ xs. take most (xs ++ f (to - 0))) b ∙ ap (λ k. take k (known ++ f (to - 0))) m
    ∙ ap (λ n. take sweep (known ++ f (n - 0))) t

-- ---- what is planned is below the number of blocks

All-numbers : (n : ℕ) → All (λ b. b < n) (numbers_below n)
All-numbers n = λ k d h. let long : length (numbers_below n) ≡ n = length-range_with_len 0 n in
    let at : get_or (numbers_below n) k d ≡ 0 + k = get_or-range_with_len 0 n k d (omega (arith, h, long)) in
    omega (arith, h, long, at)

pub planned_below : (sweep : ℕ) (t : TagsValue) → All (λ b. b < t.blocks) (plan_by_tags sweep t)
unfolding plan_by_tags
planned_below sweep t =
    All-take (λ b. b < t.blocks) sweep (filter (has t.remaining) (cyclic_from t.blocks t.cursor))
    (All-filter (has t.remaining) (λ b. b < t.blocks) (cyclic_from t.blocks t.cursor)
    (All-append (λ b. b < t.blocks) (drop t.cursor (numbers_below t.blocks)) (take t.cursor (numbers_below t.blocks))
    (All-drop (λ b. b < t.blocks) t.cursor (numbers_below t.blocks) (All-numbers t.blocks))
    (All-take (λ b. b < t.blocks) t.cursor (numbers_below t.blocks) (All-numbers t.blocks))))

pub rest_below : (blocks cursor : ℕ) (remaining written : List Bool) (t : TagsValue) →
    seen blocks cursor remaining written ≡ t → All (λ b. b < t.blocks) t.remaining
unfolding marked
rest_below blocks cursor remaining written t same =
    let P : TagsValue → Type 0 = λ s. All (λ b. b < s.blocks) s.remaining in
    subst P same (All-filter (is_marked remaining) (λ b. b < blocks) (numbers_below blocks) (All-numbers blocks))
