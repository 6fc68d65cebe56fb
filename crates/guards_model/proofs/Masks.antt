-- A mask below 128 is the mask of its set, found by trying each.
use Rattle.std.proofs.Common.{◌≡◌, ℕ, zero, suc, ◌+◌, ◌<◌, ◌≤◌, ◌==◌, Bool, true, false, ◌&&◌, refl, sym, subst, arith}
use Rattle.std.specs.List.{list_all, range_with_len}
use Rattle.std.proofs.lemmas.Bool.{eqb-true}
use Rattle.guards_model.specs.Channels.{channels_where, mask, set_of_mask}

both : (a b : Bool) → (a && b) ≡ true → (a ≡ true) × (b ≡ true)
both true b h = (refl, h)
both false b h = absurd cc

-- what was tried of each number from k on holds of each
pub tried : (p : ℕ → Bool) (n k m : ℕ) → list_all p (range_with_len k n) ≡ true → k ≤ m → m < k + n → p m ≡ true
tried p zero k m all low high = absurd (omega arith)
tried p (suc n) k m all low high =
    let parts = both (p k) (list_all p (range_with_len (k + 1) n)) all in
    by_first (m == k) refl parts.0 (λ above. tried p n (k + 1) m parts.1 above (omega arith))
  where
    by_first : (first : Bool) → (m == k) ≡ first → p k ≡ true → (k + 1 ≤ m → p m ≡ true) → p m ≡ true
    by_first true e here rest = subst (λ j. p j ≡ true) (sym (eqb-true m k e)) here
    by_first false e here rest = rest (grind (arith, e, low))

abbrev is_back : ℕ → Bool
is_back m = mask (set_of_mask m) == m

each_back : list_all is_back (range_with_len 0 128) ≡ true
unfolding channels_where mask set_of_mask
each_back = refl

pub mask_back : (m : ℕ) → m < 128 → mask (set_of_mask m) ≡ m
mask_back m below = eqb-true (mask (set_of_mask m)) m (tried is_back 128 0 m each_back (omega arith) below)
