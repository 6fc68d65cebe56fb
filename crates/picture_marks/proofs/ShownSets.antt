-- A set has no channel beyond the greatest one.
use Rattle.std.proofs.Common.{◌≡◌, ℕ, ◌<◌, ◌≤◌, ◌/◌, ◌%◌, ◌^◌, ◌==◌, false, ◌∙◌, arith, eqb-true, refl}
use Rattle.guards_model.proofs.BoolTests.{clear, clear_or, second_false}
use Rattle.guards_model.proofs.Tables.{has-filter}
use Rattle.guards_model.specs.Channels.{channels_where, every_channel, has, set_of_mask}

other : (p q : ℕ) → p < 7 → 7 ≤ q → (p == q) ≡ false
other p q h k = clear (p == q) (λ t. absurd (omega (arith, eqb-true p q t, h, k)))

not_every : (q : ℕ) → 7 ≤ q → has every_channel q ≡ false
not_every q h =
    clear_or (0 == q) _ (other 0 q (omega arith) h)
    (clear_or (1 == q) _ (other 1 q (omega arith) h)
    (clear_or (2 == q) _ (other 2 q (omega arith) h)
    (clear_or (3 == q) _ (other 3 q (omega arith) h)
    (clear_or (4 == q) _ (other 4 q (omega arith) h)
    (clear_or (5 == q) _ (other 5 q (omega arith) h)
    (clear_or (6 == q) _ (other 6 q (omega arith) h) refl))))))

pub beyond_all : (m q : ℕ) → 7 ≤ q → has (set_of_mask m) q ≡ false
unfolding channels_where set_of_mask
beyond_all m q h =
    has-filter (λ p. (m / 2 ^ p) % 2 == 1) every_channel q
    ∙ second_false ((m / 2 ^ q) % 2 == 1) (has every_channel q) (not_every q h)
