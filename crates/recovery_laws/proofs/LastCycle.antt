-- What the last cycle of a transfer writes remains after it, so it fits a final frame.
use Rattle.std.proofs.Common.{◌≡◌, ℕ, suc, ◌+◌, ◌<◌, ◌≤◌, ◌==◌, Bool, true, false, cond, not, ◌&&◌, ◌||◌, List, [], ◌∷◌, length, refl, ap, subst, ◌∙◌, arith}
use Rattle.std.specs.Prelude.{nat_lt, map, count_by, is_some}
use Rattle.std.specs.List.{list_all, list_any}
use Rattle.std.proofs.lemmas.Bool.{leb-true, eqb-true}
use Rattle.std.proofs.lemmas.List.Sums.{length-filter}
use Rattle.guards_model.specs.Channels.{has, without, numbers_below}
use Rattle.guards_model.specs.Expressions.{fits_or_none}
use Rattle.guards_model.specs.Frames.{is_distinct}
use Rattle.guards_model.specs.Missions.{MissionValue, IsMission, is_write, cycle_writes, written_blocks}
use Rattle.guards_model.specs.Tasks.{WriteValue}
use Rattle.guards_model.specs.Transfers.{TransferCycle, remains, remaining_blocks, planned_blocks}
use Rattle.guards_model.specs.JoinBound.{distinct}
use Rattle.guards_model.proofs.JoinBound.{count_all, count-same}
use Rattle.guards_model.proofs.TagLaw.{remains-step}
use Rattle.guards_model.proofs.NumbersBelow.{below_there}
use Rattle.guards_model.proofs.Counting.{one_if, count-cons, count-split, not_false}
use Rattle.guards_model.proofs.AscendingLists.{ascends_distinct, below_ascends}
use Rattle.guards_model.proofs.BoolTests.{both, and_true, or_true}
use Rattle.guards_model.proofs.ListTests.{weaken}
use Rattle.guards_laws.proofs.IdealWords.{row_writes}
use Rattle.recovery_laws.specs.Lengths.{transfer_cycles, fits_after}

-- ---- a list without its repetitions

same_member : (x y : ℕ) (xs : List ℕ) (b : Bool) → (x == y) ≡ b → has xs x ≡ true → has xs y ≡ (b || has xs y)
same_member x y xs true e h = subst (λ z. has xs z ≡ true) (eqb-true x y e) h
same_member x y xs false e h = refl

members_by : (x y : ℕ) (xs : List ℕ) (b : Bool) → has xs x ≡ b → has (distinct xs) y ≡ has xs y →
    has (cond b (distinct xs) (x ∷ distinct xs)) y ≡ ((x == y) || has xs y)
members_by x y xs true e h = h ∙ same_member x y xs (x == y) refl e
members_by x y xs false e h = ap (λ t. (x == y) || t) h

members : (y : ℕ) (xs : List ℕ) → has (distinct xs) y ≡ has xs y
members y [] = refl
members y (x ∷ xs) = members_by x y xs (has xs x) refl (members y xs)

distinct_by : (x : ℕ) (xs : List ℕ) (b : Bool) → has xs x ≡ b → is_distinct (distinct xs) ≡ true →
    is_distinct (cond b (distinct xs) (x ∷ distinct xs)) ≡ true
unfolding is_distinct
distinct_by x xs true e h = h
distinct_by x xs false e h =
    and_true (not (has (distinct xs) x)) (is_distinct (distinct xs))
    (not_false (has (distinct xs) x) (members x xs ∙ e)) h

are_distinct : (xs : List ℕ) → is_distinct (distinct xs) ≡ true
unfolding is_distinct
are_distinct [] = refl
are_distinct (x ∷ xs) = distinct_by x xs (has xs x) refl (are_distinct xs)

all_by : (p : ℕ → Bool) (x : ℕ) (xs : List ℕ) (b : Bool) → p x ≡ true → list_all p (distinct xs) ≡ true →
    list_all p (cond b (distinct xs) (x ∷ distinct xs)) ≡ true
all_by p x xs true h k = k
all_by p x xs false h k = and_true (p x) (list_all p (distinct xs)) h k

all_distinct : (p : ℕ → Bool) (xs : List ℕ) → list_all p xs ≡ true → list_all p (distinct xs) ≡ true
all_distinct p [] h = refl
all_distinct p (x ∷ xs) h =
    let parts = both (p x) (list_all p xs) h in
    all_by p x xs (has xs x) parts.0 (all_distinct p xs parts.1)

own_by : (x : ℕ) → (x == x) ≡ true
own_by x = grind arith

all_own : (xs : List ℕ) → list_all (has xs) xs ≡ true
all_own [] = refl
all_own (x ∷ xs) =
    and_true ((x == x) || has xs x) (list_all (has (x ∷ xs)) xs) (ap (λ b. b || has xs x) (own_by x))
    (weaken (has xs) (has (x ∷ xs)) xs (λ y h. or_true (x == y) (has xs y) h) (all_own xs))

-- ---- counts

first_by : (w b : Bool) → one_if w ≤ one_if (w || b)
unfolding one_if
first_by true b = omega arith
first_by false b = omega arith

count-first : (w p : ℕ → Bool) (xs : List ℕ) → count_by w xs ≤ count_by (λ b. w b || p b) xs
count-first w p [] = omega arith
count-first w p (x ∷ xs) =
    omega (arith, count-cons w x xs, count-cons (λ b. w b || p b) x xs, first_by (w x) (p x), count-first w p xs)

-- ---- the last cycle

written_below : (blocks width : ℕ) (ws : List WriteValue) → list_all (is_write blocks width) ws ≡ true →
    list_all (λ b. nat_lt b blocks) (map (λ (w : WriteValue). w.block) ws) ≡ true
written_below blocks width [] h = refl
written_below blocks width (w ∷ ws) h =
    let parts = both (is_write blocks width w) (list_all (is_write blocks width) ws) h in
    let here = both (nat_lt w.block blocks && length w.set == 8)
    (list_all (fits_or_none blocks width) w.set && list_any is_some w.set) parts.0 in
    and_true (nat_lt w.block blocks) (list_all (λ b. nat_lt b blocks) (map (λ (v : WriteValue). v.block) ws))
    (both (nat_lt w.block blocks) (length w.set == 8) here.0).0 (written_below blocks width ws parts.1)

remain_all : (blocks : ℕ) (planned written : List ℕ) (earlier : List TransferCycle) →
    list_all (λ b. nat_lt b blocks) written ≡ true →
    length (distinct written)
    ≤ count_by (remains (record { planned = planned; written = written } ∷ earlier)) (numbers_below blocks)
remain_all blocks planned written earlier below =
    let xs : List ℕ = numbers_below blocks in
    let D : List ℕ = distinct written in
    let p : ℕ → Bool = λ b. not (has planned b) && remains earlier b in
    let own : list_all (has written) D ≡ true = all_distinct (has written) written (all_own written) in
    let there : list_all (has xs) D ≡ true =
    all_distinct (has xs) written
    (weaken (λ b. nat_lt b blocks) (has xs) written (λ b h. below_there blocks b (leb-true (suc b) blocks h))
    below) in
    let split : count_by (has written) (without xs D) + count_by (has written) D ≡ count_by (has written) xs =
    count-split (has written) xs D (ascends_distinct xs (below_ascends blocks)) (are_distinct written) there in
    let steps = count-same (remains (record { planned = planned; written = written } ∷ earlier))
    (λ b. has written b || p b) xs (remains-step (record { planned = planned; written = written }) earlier) in
    omega (arith, split, count_all (has written) D own, count-first (has written) p xs, steps)

module _ (M : MissionValue) (mission : IsMission M) (row n : ℕ) where
  pub writes_fit : fits_after M row (suc n) ≡ true → length (distinct (written_blocks M (row + n))) ≤ M.rules.last
  writes_fit fits =
      let cycles : List TransferCycle = transfer_cycles M row (suc n) in
      let small : length (remaining_blocks M.rules.blocks cycles) ≤ M.rules.last =
      leb-true (length (remaining_blocks M.rules.blocks cycles)) M.rules.last fits in
      let all = remain_all M.rules.blocks (planned_blocks M.rules.blocks M.rules.sweep (transfer_cycles M row n))
      (written_blocks M (row + n)) (transfer_cycles M row n)
      (written_below M.rules.blocks M.width (cycle_writes M (row + n)) (row_writes M mission (row + n))) in
      omega (arith, small, all, length-filter (remains cycles) (numbers_below M.rules.blocks))

  unfit_by : (b : Bool) → fits_after M row (suc n) ≡ b → M.rules.last < length (distinct (written_blocks M (row + n))) →
      b ≡ false
  unfit_by true e more = absurd (omega (arith, writes_fit e, more))
  unfit_by false e more = refl

  pub writes_too_much : M.rules.last < length (distinct (written_blocks M (row + n))) → fits_after M row (suc n) ≡ false
  writes_too_much more = unfit_by (fits_after M row (suc n)) refl more
