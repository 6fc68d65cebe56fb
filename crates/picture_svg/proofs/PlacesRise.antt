-- Where the cycles stand.
use Rattle.std.proofs.Common.{◌≡◌, ℕ, ◌+◌, ◌*◌, ◌/◌, ◌<◌, ◌≤◌, ◌⊎◌, inl, inr, max, ap, subst, arith}
use Rattle.std.proofs.Math.Nat.{mul-lt-mul_of_pos_right, mul-div-le, mul-le-mul_right, eq-or-lt_of_le}
use Rattle.picture_svg.specs.Sheet.{cycle_width, cycle_x}

some_width : (cycles : ℕ) → 0 < cycle_width cycles
some_width cycles = omega arith

pub rising : (cycles c d : ℕ) → c < d → cycle_x (cycle_width cycles) c < cycle_x (cycle_width cycles) d
rising cycles c d h =
    let more : c * cycle_width cycles < d * cycle_width cycles = mul-lt-mul_of_pos_right h (some_width cycles) in
    omega (arith, more)

-- a width that is one, or a share of the plot
two_widths : (cycles : ℕ) → (cycle_width cycles ≡ 1) ⊎ (cycle_width cycles ≡ 101600 / max 1 cycles)
two_widths cycles = by_size (101600 / max 1 cycles)
  where
    by_size : (share : ℕ) → (max 1 share ≡ 1) ⊎ (max 1 share ≡ share)
    by_size share = by_order (eq-or-lt_of_le low)
      where
        low : 1 ≤ max 1 share
        low = omega arith

        by_order : (1 ≡ max 1 share) ⊎ (1 < max 1 share) → (max 1 share ≡ 1) ⊎ (max 1 share ≡ share)
        by_order (inl e) = inl (omega (arith, e))
        by_order (inr h) = inr (omega (arith, h))

all_fit : (cycles c : ℕ) → cycles ≤ 2000 → c ≤ cycles → c * cycle_width cycles ≤ 101600
all_fit cycles c few h = by_width (two_widths cycles)
  where
    by_width : (cycle_width cycles ≡ 1) ⊎ (cycle_width cycles ≡ 101600 / max 1 cycles) → c * cycle_width cycles ≤ 101600
    by_width (inl e) =
        let one : c * cycle_width cycles ≡ c * 1 = ap (λ w. c * w) e in
        omega (arith, one, few, h)
    by_width (inr e) =
        let low : c ≤ max 1 cycles = omega (arith, h) in
        let share : c * cycle_width cycles ≡ c * (101600 / max 1 cycles) = ap (λ w. c * w) e in
        let most : c * (101600 / max 1 cycles) ≤ max 1 cycles * (101600 / max 1 cycles) =
        mul-le-mul_right (101600 / max 1 cycles) low in
        let all : max 1 cycles * (101600 / max 1 cycles) ≤ 101600 = mul-div-le 101600 (max 1 cycles) in
        omega (arith, share, most, all)

pub within : (cycles c : ℕ) → cycles ≤ 2000 → c ≤ cycles → cycle_x (cycle_width cycles) c ≤ 114400
within cycles c few h = omega (arith, all_fit cycles c few h)
