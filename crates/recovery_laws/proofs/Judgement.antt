-- What a cycle's judgement, counts and removal say of a channel.
use Rattle.std.proofs.Common.{◌≡◌, ℕ, zero, suc, ◌*◌, ◌/◌, ◌-◌, ◌<◌, ◌≤◌, ◌==◌, Bool, true, false, cond, ◌&&◌, ◌||◌, List, [], ◌∷◌, length, refl, sym, ap, ◌∙◌, arith}
use Rattle.std.specs.Prelude.{take, nat_le}
use Rattle.guards_model.specs.declared.Law.{Law}
use Rattle.guards_model.specs.declared.Law.TheVariants.{Multiply, Subtract}
use Rattle.guards_model.specs.Channels.{Channel, has, place_or}
use Rattle.guards_model.specs.Missions.{MissionValue}
use Rattle.guards_model.specs.Network.{Log}
use Rattle.guards_model.specs.Diagnosis.{decayed, count_step, counts_of, candidates_of, removed_of, asks}
use Rattle.guards_runs.specs.Cycles.{Past, Cycle, fresh_set, base_counts, cycle_start_of, agreement_of, decision_of, cycle_from, next_cycle}
use Rattle.guards_model.proofs.Tables.{at-by_channel, has-filter}
use Rattle.guards_model.proofs.BoolTests.{clear}

module _ (M : MissionValue) (L : Log) (past : Past) where
  abbrev now : Cycle
  now = next_cycle M L past

  pub counts-are : now.counts
      ≡ counts_of M.rules.law M.rules.keep M.rules.decrement now.active now.judged now.counts_before
  unfolding cycle_from agreement_of decision_of cycle_start_of
  counts-are = refl

  pub before-are : now.counts_before ≡ base_counts M past
  unfolding cycle_from cycle_start_of
  before-are = refl

  pub fresh-is : now.fresh ≡ fresh_set past
  unfolding cycle_from cycle_start_of
  fresh-is = refl

  pub removed-is : now.removed ≡ removed_of M.rules.threshold now.active now.fresh now.agreed now.counts
  unfolding cycle_from agreement_of decision_of cycle_start_of
  removed-is = refl

  -- the count of an active channel after the judgement
  pub stepped : (q : Channel) (errant : Bool) → q < 7 → has now.active q ≡ true → has now.judged q ≡ errant →
      place_or now.counts q 0 ≡ count_step M.rules.law M.rules.keep M.rules.decrement errant
      (place_or now.counts_before q 0)
  stepped q errant low there is =
      ap (λ t. place_or t q 0) counts-are
      ∙ at-by_channel (λ q. cond (has now.active q)
      (count_step M.rules.law M.rules.keep M.rules.decrement (has now.judged q) (place_or now.counts_before q 0)) 0)
      q 0 low
      ∙ ap (λ b. cond b (count_step M.rules.law M.rules.keep M.rules.decrement (has now.judged q)
      (place_or now.counts_before q 0)) 0) there
      ∙ ap (λ b. count_step M.rules.law M.rules.keep M.rules.decrement b (place_or now.counts_before q 0)) is

  -- who is no candidate is not removed
  pub not_removed : (q : Channel) →
      (nat_le M.rules.threshold (place_or now.counts q 0) || asks now.active now.fresh now.agreed q) ≡ false →
      has now.removed q ≡ false
  not_removed q none =
      ap (λ s. has s q) removed-is
      ∙ clear (has (removed_of M.rules.threshold now.active now.fresh now.agreed now.counts) q)
      (λ taken. sym (in_take (length now.active - 3)
      (candidates_of M.rules.threshold now.active now.fresh now.agreed now.counts) q taken)
      ∙ has-filter (λ q. nat_le M.rules.threshold (place_or now.counts q 0) || asks now.active now.fresh now.agreed q)
      now.active q
      ∙ ap (λ b. b && has now.active q) none)
    where
      in_take : (n : ℕ) (xs : List ℕ) (q : ℕ) → has (take n xs) q ≡ true → has xs q ≡ true
      in_take zero xs q h = absurd cc
      in_take (suc n) [] q h = absurd cc
      in_take (suc n) (x ∷ xs) q h = by_first (x == q) (has (take n xs) q) (has xs q) (in_take n xs q) h
        where
          by_first : (b taken there : Bool) → (taken ≡ true → there ≡ true) → (b || taken) ≡ true → (b || there) ≡ true
          by_first true taken there f k = refl
          by_first false taken there f k = f k

-- what is left of a count is no more than it
pub decayed_no_higher : (law : Law) (keep decrement count : ℕ) → keep ≤ 65536 → decayed law keep decrement count ≤ count
decayed_no_higher Subtract keep decrement count few = omega arith
decayed_no_higher Multiply keep decrement count few = by_product count keep few
  where
    by_product : (a k : ℕ) → k ≤ 65536 → (a * k) / 65536 ≤ a
    by_product a k h = omega (arith, times a k h)
      where
        times : (a k : ℕ) → k ≤ 65536 → a * k ≤ a * 65536
        times a k h = grind (arith, h)
