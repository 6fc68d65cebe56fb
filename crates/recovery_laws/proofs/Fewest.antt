-- A transfer takes no fewer cycles than its plans need to copy each block once.
use Rattle.std.proofs.Common.{◌≡◌, ℕ, zero, suc, ◌+◌, ◌-◌, ◌*◌, ◌<◌, ◌≤◌, ◌⊎◌, inl, inr, Bool, true, false, not, ◌&&◌, ◌||◌, List, [], ◌∷◌, length, Some, refl, arith}
use Rattle.std.specs.Prelude.{nat_lt, filter, min, max, count_by}
use Rattle.std.specs.List.{list_all}
use Rattle.std.specs.Int.{div_ceil}
use Rattle.std.proofs.lemmas.Bool.{leb-true, cases_lt}
use Rattle.std.proofs.lemmas.List.{length-take}
use Rattle.std.proofs.lemmas.List.Sums.{length-filter, count_by-le-length}
use Rattle.std.proofs.lemmas.List.FromFn.{length-range_with_len}
use Rattle.std.proofs.lemmas.Grind.{div_ceil_times}
use Rattle.std.proofs.Math.Nat.{mul-le-mul_right}
use Rattle.guards_model.specs.Channels.{has, without, numbers_below}
use Rattle.guards_model.specs.Missions.{MissionValue, IsMission, written_blocks}
use Rattle.guards_model.specs.Transfers.{TransferCycle, remains, remaining_blocks, planned_blocks, sweep_cursor, cyclic_from}
use Rattle.guards_model.proofs.JoinBound.{count-filter, count-same}
use Rattle.guards_model.proofs.TagLaw.{remains-step}
use Rattle.guards_model.proofs.NumbersBelow.{below_there}
use Rattle.guards_model.proofs.Counting.{one_if, count-cons, count-split, distinct-filter}
use Rattle.guards_model.proofs.AscendingLists.{ascends_distinct, below_ascends, cyclic_distinct, cyclic_under, distinct-take}
use Rattle.guards_model.proofs.ListTests.{all-take, all-filter, weaken}
use Rattle.guards_laws.proofs.Planned.{ranges}
use Rattle.recovery_laws.specs.Lengths.{transfer_cycles, fits_after, transfer_length}
use Rattle.recovery_laws.proofs.Counted.{length_first}

-- ---- counts

more_by : (w b : Bool) → one_if b ≤ one_if (w || b)
unfolding one_if
more_by true true = omega arith
more_by true false = omega arith
more_by false b = omega arith

count-more : (w p : ℕ → Bool) (xs : List ℕ) → count_by p xs ≤ count_by (λ b. w b || p b) xs
count-more w p [] = omega arith
count-more w p (x ∷ xs) =
    omega (arith, count-cons p x xs, count-cons (λ b. w b || p b) x xs, more_by (w x) (p x), count-more w p xs)

count_all : (xs : List ℕ) → count_by (remains []) xs ≡ length xs
unfolding one_if
count_all [] = refl
count_all (x ∷ xs) = omega (arith, count-cons (remains []) x xs, count_all xs)

all_below : (blocks : ℕ) (xs : List ℕ) → list_all (λ b. nat_lt b blocks) xs ≡ true →
    list_all (has (numbers_below blocks)) xs ≡ true
all_below blocks xs h = weaken (λ b. nat_lt b blocks) (has (numbers_below blocks)) xs
    (λ b k. below_there blocks b (leb-true (suc b) blocks k)) h

-- ---- one cycle lowers the number by no more than a plan's blocks

left_after : ℕ → List TransferCycle → ℕ
left_after blocks cycles = count_by (remains cycles) (numbers_below blocks)

one_cycle : (blocks sweep : ℕ) (written : List ℕ) (earlier : List TransferCycle) →
    left_after blocks earlier
    ≤ left_after blocks (record { planned = planned_blocks blocks sweep earlier; written = written }
    ∷ earlier) + sweep
unfolding left_after
one_cycle blocks sweep written earlier =
    let xs : List ℕ = numbers_below blocks in
    let p : ℕ → Bool = remains earlier in
    let order : List ℕ = cyclic_from blocks (sweep_cursor blocks earlier) in
    let chosen : List ℕ = filter p order in
    let P : List ℕ = planned_blocks blocks sweep earlier in
    let e : TransferCycle = record { planned = P; written = written } in
    let small : length P ≡ min sweep (length chosen) = length-take sweep chosen in
    let split : count_by p (without xs P) + count_by p P ≡ count_by p xs =
    count-split p xs P (ascends_distinct xs (below_ascends blocks))
    (distinct-take sweep chosen (distinct-filter p order (cyclic_distinct blocks (sweep_cursor blocks earlier))))
    (all_below blocks P (all-take (λ b. nat_lt b blocks) sweep chosen
    (all-filter (λ b. nat_lt b blocks) p order (cyclic_under blocks (sweep_cursor blocks earlier))))) in
    let rest : count_by p (without xs P) ≡ count_by (λ b. not (has P b) && p b) xs =
    count-filter (λ b. not (has P b)) p xs in
    let steps : count_by (remains (e ∷ earlier)) xs ≡ count_by (λ b. has written b || (not (has P b) && p b)) xs =
    count-same (remains (e ∷ earlier)) (λ b. has written b || (not (has P b) && p b)) xs (remains-step e earlier) in
    let more = count-more (has written) (λ b. not (has P b) && p b) xs in
    omega (arith, steps, more, rest, split, small, count_by-le-length p P)

-- ---- all cycles

module _ (M : MissionValue) (row : ℕ) where
  all_cycles : (n : ℕ) → M.rules.blocks ≤ left_after M.rules.blocks (transfer_cycles M row n) + n * M.rules.sweep
  unfolding left_after
  all_cycles zero = omega (arith, count_all (numbers_below M.rules.blocks), length-range_with_len 0 M.rules.blocks)
  all_cycles (suc n) =
      let one : left_after M.rules.blocks (transfer_cycles M row n)
      ≤ left_after M.rules.blocks (transfer_cycles M row (suc n)) + M.rules.sweep
      = one_cycle M.rules.blocks M.rules.sweep (written_blocks M (row + n)) (transfer_cycles M row n) in
      omega (arith, all_cycles n, one)

  copies_all : (k : ℕ) → fits_after M row k ≡ true → M.rules.blocks ≤ M.rules.last + k * M.rules.sweep
  unfolding left_after
  copies_all k fits =
      let small : length (remaining_blocks M.rules.blocks (transfer_cycles M row k)) ≤ M.rules.last =
      leb-true (length (remaining_blocks M.rules.blocks (transfer_cycles M row k))) M.rules.last fits in
      omega (
        arith,
        small,
        length-filter (remains (transfer_cycles M row k)) (numbers_below M.rules.blocks),
        all_cycles k,
      )

ceil_least : (x d k : ℕ) → 0 < d → x ≤ k * d → div_ceil x d ≤ k
ceil_least x d k some h = by (cases_lt k (div_ceil x d))
  where
    by : (k < div_ceil x d) ⊎ (div_ceil x d ≤ k) → div_ceil x d ≤ k
    by (inr small) = small
    by (inl big) =
        let high : div_ceil x d * d < x + d = (div_ceil_times x d some).1 in
        let low : suc k * d ≤ div_ceil x d * d = mul-le-mul_right d big in
        absurd (omega (arith, high, low, h))

pub no_fewer : (M : MissionValue) (row k : ℕ) → IsMission M → transfer_length M row ≡ Some k →
    max 1 (div_ceil (M.rules.blocks - M.rules.last) M.rules.sweep) ≤ k
no_fewer M row k mission h =
    let first = length_first M row k h in
    let from : 1 ≤ k = first.from in
    let some : 0 < M.rules.sweep = (ranges M mission).some_sweep in
    let enough : M.rules.blocks ≤ M.rules.last + k * M.rules.sweep = copies_all M row k first.passes in
    omega (arith, from, ceil_least (M.rules.blocks - M.rules.last) M.rules.sweep k some (omega (arith, enough)))
