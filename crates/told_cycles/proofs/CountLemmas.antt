-- The counts of all channels, by those of each.
use Rattle.std.proofs.Common.{◌≡◌, ℕ, ◌<◌, Bool, true, false, cond, List, refl, ap}
use Rattle.std.specs.Prelude.{slice_index}
use Rattle.guards_model.specs.declared.Law.{Law}
use Rattle.guards_model.specs.Channels.{ChannelSet, has, place_or, by_channel}
use Rattle.guards_model.specs.Diagnosis.{count_step, counts_of}
use Rattle.guards_base.proofs.EachChannel.{tables_alike}
use Rattle.told_cycles.specs.Counts.{after}

module _ (law : Law) (keep decrement : ℕ) (active fresh judged : ChannelSet) (before base : List ℕ)
    (same : (q : ℕ) → q < 7 → has active q ≡ true →
    cond (has fresh q) 0 (slice_index before q) ≡ place_or base q 0) where
  entry_by : (q : ℕ) (there : Bool) → q < 7 → has active q ≡ there →
      cond there (count_step law keep decrement (has judged q) (cond (has fresh q) 0 (slice_index before q))) 0
      ≡ cond there (count_step law keep decrement (has judged q) (place_or base q 0)) 0
  entry_by q true low e = ap (count_step law keep decrement (has judged q)) (same q low e)
  entry_by q false low e = refl

  pub counts_are : by_channel
      (λ q. after law keep decrement (has active q) (has fresh q) (has judged q) (slice_index before q))
      ≡ counts_of law keep decrement active judged base
  counts_are =
      tables_alike (λ q. after law keep decrement (has active q) (has fresh q) (has judged q) (slice_index before q))
      (λ q. cond (has active q) (count_step law keep decrement (has judged q) (place_or base q 0)) 0)
      (λ q low. entry_by q (has active q) low refl)
