-- One cycle of a transfer after the other.
use Rattle.std.proofs.Common.{◌≡◌, ◌<◌, ◌≤◌, ◌+◌, ◌==◌, ◌⊎◌, inl, inr, ◌∙◌, ℕ, zero, suc, Bool, true, false, ◌||◌, List, [], ◌∷◌, length, sym, ap, subst, arith}
use Rattle.std.specs.Prelude.{nat_le}
use Rattle.std.specs.List.{range_with_len}
use Rattle.std.proofs.lemmas.Bool.{cases_lt, eqb-true}
use Rattle.context_blocks.specs.BlockSets.{blocks_where}
use Rattle.context_blocks.proofs.FlagSets.{where_has}
use Rattle.guards_model.specs.Channels.{has, numbers_below}
use Rattle.guards_model.specs.Missions.{MissionValue, written_blocks}
use Rattle.guards_model.specs.Tags.{TagsValue, StandFor, tags_of}
use Rattle.guards_model.specs.Transfers.{TransferCycle, planned_blocks, remaining_blocks, sweep_cursor}
use Rattle.guards_model.proofs.TagSteps.{filter_alike, tags_remain}
use Rattle.recovery_laws.specs.Lengths.{transfer_cycles, fits_after}

or_cases : (a b : Bool) → (a || b) ≡ true → (a ≡ true) ⊎ (b ≡ true)
or_cases true b h = inl h
or_cases false b h = inr h

there_below : (a n b : ℕ) → has (range_with_len a n) b ≡ true → b < a + n
there_below a zero b h = absurd cc
there_below a (suc n) b h =
    elim (or_cases (a == b) (has (range_with_len (a + 1) n) b) h) [
      | inl e ↦ let same : a ≡ b = eqb-true a b e in omega (arith, same)
      | inr e ↦ let low : b < a + 1 + n = there_below (a + 1) n b e in omega (arith, low)
    ]

-- the set of the blocks of a list stands for the list
pub stand_for_list : (t : TagsValue) (cycles : List TransferCycle) (list : List ℕ) → t.blocks ≤ 256 →
    StandFor t cycles (blocks_where (has list)) → StandFor t cycles list
unfolding tags_of
stand_for_list t cycles list few stands =
    stands
    ∙ ap (λ (written : List ℕ).
    record {
      blocks = t.blocks;
      remaining = remaining_blocks t.blocks cycles;
      cursor = sweep_cursor t.blocks cycles;
      written = written;
    })
    (filter_alike (has (blocks_where (has list))) (has list) (numbers_below t.blocks)
    (λ b h. where_has 256 (has list) b
    (let low : b < 0 + t.blocks = there_below 0 t.blocks b h in omega (arith, low, few))))

module _ (M : MissionValue) (row n : ℕ) (new : TagsValue) where
  pub one_longer : (cycle : ℕ) → cycle ≡ row + n →
      StandFor new (record {
        planned = planned_blocks M.rules.blocks M.rules.sweep (transfer_cycles M row n);
        written = written_blocks M cycle;
      } ∷ transfer_cycles M row n) [] →
      StandFor new (transfer_cycles M row (n + 1)) []
  one_longer cycle e stands =
      subst (λ m. StandFor new (transfer_cycles M row m) []) next
      (subst (λ c. StandFor new
      (record {
        planned = planned_blocks M.rules.blocks M.rules.sweep (transfer_cycles M row n);
        written = written_blocks M c;
      } ∷ transfer_cycles M row n) []) e stands)
    where
      next : suc n ≡ n + 1
      next = omega arith

  pub fits_is : new.blocks ≡ M.rules.blocks → StandFor new (transfer_cycles M row (n + 1)) [] →
      fits_after M row (n + 1) ≡ nat_le (length new.remaining) M.rules.last
  fits_is same stands =
      ap (λ (rest : List ℕ). nat_le (length rest) M.rules.last)
      (sym (ap (λ (t : TagsValue). t.remaining) stands ∙ tags_remain new.blocks (transfer_cycles M row (n + 1)) []
      ∙ ap (λ b. remaining_blocks b (transfer_cycles M row (n + 1))) same))

-- none of one number more
pub none_more : (f : ℕ → Bool) (n : ℕ) → ((j : ℕ) → 1 ≤ j → j ≤ n → f j ≡ false) → f (n + 1) ≡ false → (j : ℕ) → 1 ≤ j →
    j ≤ n + 1 → f j ≡ false
none_more f n before this j low high = by (cases_lt n j)
  where
    by : (n < j) ⊎ (j ≤ n) → f j ≡ false
    by (inr under) = before j low under
    by (inl above) = let same : j ≡ n + 1 = omega (arith, above, high) in ap f same ∙ this
