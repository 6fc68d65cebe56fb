-- The states of a transfer are numbered: the row, the cursor and the blocks that remain.
use Rattle.std.proofs.Common.{◌≡◌, ℕ, zero, suc, ◌+◌, ◌*◌, ◌^◌, ◌<◌, ◌≤◌, inl, inr, Bool, true, false, List, [], ◌∷◌, length, Option, None, Some, refl, sym, ap, ◌∙◌, arith}
use Rattle.std.specs.Prelude.{nat_lt, filter}
use Rattle.std.proofs.lemmas.Bool.{leb-true, cases_lt}
use Rattle.std.proofs.Math.Nat.{mul-le-mul_right, mod-lt, pow-suc}
use Rattle.guards_model.specs.Channels.{numbers_below}
use Rattle.guards_model.specs.Missions.{MissionValue}
use Rattle.guards_model.specs.Tags.{tags_of}
use Rattle.guards_model.specs.Transfers.{TransferCycle, remains, cursor_after, sweep_cursor}
use Rattle.guards_model.proofs.AscendingLists.{below_under, member_passes}
use Rattle.guards_model.proofs.TagSteps.{filter_alike}
use Rattle.recovery_laws.specs.Lengths.{transfer_cycles, tags_in_transfer, row_of}
use Rattle.recovery_laws.specs.Endless.{most_states}
use Rattle.recovery_laws.proofs.Counted.{after-is}

-- ---- numbers of two digits

-- two digits are told by the number that they make
digits_same : (size a b x y : ℕ) → x < size → y < size → a * size + x ≡ b * size + y → (a ≡ b) × (x ≡ y)
digits_same size a b x y low_x low_y same =
    elim (cases_lt a b) [
      | inl under ↦ absurd (let more : suc a * size ≤ b * size = mul-le-mul_right size under in
          omega (arith, same, more, low_x, next a size))
      | inr over ↦ elim (cases_lt b a) [
        | inl under ↦ absurd (let more : suc b * size ≤ a * size = mul-le-mul_right size under in
            omega (arith, same, more, low_y, next b size))
        | inr back ↦ let first : a ≡ b = omega (arith, over, back) in (first, rest first same)
      ]
    ]
  where
    next : (a size : ℕ) → suc a * size ≡ a * size + size
    next a size = grind arith

    rest : a ≡ b → a * size + x ≡ b * size + y → x ≡ y
    rest first same = let alike : a * size ≡ b * size = ap (λ n. n * size) first in omega (arith, alike, same)

digits_small : (size most a x : ℕ) → a < most → x < size → a * size + x < most * size
digits_small size most a x low low_x =
    let more : suc a * size ≤ most * size = mul-le-mul_right size low in omega (arith, more, low_x, next a size)
  where
    next : (a size : ℕ) → suc a * size ≡ a * size + size
    next a size = grind arith

-- ---- sets of blocks

bit : Bool → ℕ
bit true = 1
bit false = 0

-- the numbers below n that pass, as bits
code : (ℕ → Bool) → ℕ → ℕ
code p zero = 0
code p (suc n) = 2 * code p n + bit (p n)

bit_small : (b : Bool) → bit b ≤ 1
unfolding bit
bit_small true = omega arith
bit_small false = omega arith

code_small : (p : ℕ → Bool) (n : ℕ) → code p n < 2 ^ n
unfolding code
code_small p zero = omega arith
code_small p (suc n) = omega (arith, code_small p n, bit_small (p n), pow-suc 2 n)

bits_same : (a b : Bool) (x y : ℕ) → 2 * x + bit a ≡ 2 * y + bit b → (a ≡ b) × (x ≡ y)
unfolding bit
bits_same true true x y h = (refl, omega (arith, h))
bits_same true false x y h = absurd (omega (arith, h))
bits_same false true x y h = absurd (omega (arith, h))
bits_same false false x y h = (refl, omega (arith, h))

code_same : (p q : ℕ → Bool) (n : ℕ) → code p n ≡ code q n → (b : ℕ) → b < n → p b ≡ q b
unfolding code
code_same p q zero same b low = absurd (omega (arith, low))
code_same p q (suc n) same b low =
    let parts = bits_same (p n) (q n) (code p n) (code q n) same in
    elim (cases_lt b n) [
      | inl under ↦ code_same p q n parts.1 b under
      | inr last ↦ let here : b ≡ n = omega (arith, low, last) in ap p here ∙ parts.0 ∙ ap q (sym here)
    ]

kept_same : (p q : ℕ → Bool) (n : ℕ) → code p n ≡ code q n → filter p (numbers_below n) ≡ filter q (numbers_below n)
kept_same p q n same =
    filter_alike p q (numbers_below n)
    (λ b there. code_same p q n same b
    (leb-true (suc b) n (member_passes (λ y. nat_lt y n) (numbers_below n) b (below_under n n (omega arith))
    there)))

-- ---- the state after n cycles

cursor_small : (blocks : ℕ) → 0 < blocks → (before : ℕ) → before < blocks → (o : Option ℕ) →
    cursor_after blocks before o < blocks
cursor_small blocks some before low None = low
cursor_small blocks some before low (Some b) = mod-lt (b + 1) some

sweep_small : (blocks : ℕ) → 0 < blocks → (cycles : List TransferCycle) → sweep_cursor blocks cycles < blocks
sweep_small blocks some [] = some
sweep_small blocks some (e ∷ earlier) =
    cursor_small blocks some (sweep_cursor blocks earlier) (sweep_small blocks some earlier)
    (Rattle.std.specs.List.last_or None e.planned)

module _ (M : MissionValue) (some_rows : 0 < length M.table) (some_blocks : 0 < M.rules.blocks) (s : ℕ) where
  abbrev B : ℕ
  B = M.rules.blocks

  abbrev cycles : ℕ → List TransferCycle
  cycles n = transfer_cycles M s n

  abbrev marked : ℕ → ℕ
  marked n = code (remains (transfer_cycles M s n)) M.rules.blocks

  abbrev placed : ℕ → ℕ
  placed n = sweep_cursor M.rules.blocks (transfer_cycles M s n) * 2 ^ M.rules.blocks + code
      (remains (transfer_cycles M s n)) M.rules.blocks

  pub state : ℕ → ℕ
  state n = row_of M (s + n) * (M.rules.blocks * 2 ^ M.rules.blocks) + placed n

  placed_small : (n : ℕ) → placed n < B * 2 ^ B
  placed_small n =
      digits_small (2 ^ B) B (sweep_cursor B (cycles n)) (marked n) (sweep_small B some_blocks (cycles n))
      (code_small (remains (cycles n)) B)

  pub state_small : (n : ℕ) → state n < most_states M
  unfolding state
  state_small n =
      digits_small (B * 2 ^ B) (length M.table) (row_of M (s + n)) (placed n) (mod-lt (s + n) some_rows)
      (placed_small n)

  -- the state tells the row and the tags
  pub state_tells : (n m : ℕ) → state n ≡ state m →
      (row_of M (s + n) ≡ row_of M (s + m)) × (tags_in_transfer M s n ≡ tags_in_transfer M s m)
  unfolding state tags_of
  state_tells n m same =
      let rows = digits_same (B * 2 ^ B) (row_of M (s + n)) (row_of M (s + m)) (placed n) (placed m) (placed_small n)
      (placed_small m) same in
      let parts = digits_same (2 ^ B) (sweep_cursor B (cycles n)) (sweep_cursor B (cycles m)) (marked n) (marked m)
      (code_small (remains (cycles n)) B) (code_small (remains (cycles m)) B) rows.1 in (
        rows.0,
        after-is M s n
            ∙ ap (λ cursor. record {
              blocks = B;
              remaining = filter (remains (cycles n)) (numbers_below B);
              cursor = cursor;
              written = Rattle.guards_model.specs.Tags.blocks_in B [];
            }) parts.0
            ∙ ap (λ kept. record {
              blocks = B;
              remaining = kept;
              cursor = sweep_cursor B (cycles m);
              written = Rattle.guards_model.specs.Tags.blocks_in B [];
            })
            (kept_same (remains (cycles n)) (remains (cycles m)) B parts.1)
            ∙ sym (after-is M s m),
      )
