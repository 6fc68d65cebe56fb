-- The count of an active channel is that of its judgements since it last became active.
use Rattle.std.proofs.Common.{◌≡◌, ℕ, zero, suc, ◌<◌, Bool, true, false, cond, not, ◌&&◌, List, [], ◌∷◌, refl, sym, ap, subst, ◌∙◌}
use Rattle.guards_model.specs.Channels.{Channel, has, place_or}
use Rattle.guards_model.specs.Missions.{MissionValue, IsMission}
use Rattle.guards_model.specs.Network.{Log}
use Rattle.guards_model.specs.Diagnosis.{count_step}
use Rattle.guards_runs.specs.Cycles.{Past, Cycle, active_set, cycles_before, next_cycle}
use Rattle.guards_runs.specs.Promises.{EachCycle}
use Rattle.guards_model.proofs.Tables.{at-by_channel}
use Rattle.guards_model.proofs.BoolTests.{differ, and_true, second_false}
use Rattle.guards_model.proofs.Counting.{not_false}
use Rattle.guards_model.proofs.AscendingLists.{member-channel}
use Rattle.guards_laws.proofs.WithinChannels.{active_is_set}
use Rattle.guards_laws.proofs.CycleParts.{active-is}
use Rattle.guards_laws.proofs.StayActive.{joined_passive}
use Rattle.recovery_laws.specs.CountHistories.{count_after, judgements, CountsJudgements}
use Rattle.recovery_laws.proofs.Judgement.{stepped, before-are}
use Rattle.recovery_laws.proofs.LeftAlone.{joined_if_new, each_of}

module _ (M : MissionValue) (L : Log) (mission : IsMission M) where
  abbrev past : ℕ → Past
  past m = cycles_before M L m

  abbrev now : ℕ → Cycle
  now m = next_cycle M L (cycles_before M L m)

  abbrev after : List Bool → ℕ
  after judged = count_after M.rules.law M.rules.keep M.rules.decrement judged

  pub low_now : (m : ℕ) (q : Channel) → has (now m).active q ≡ true → q < 7
  low_now m q there = member-channel (active_set M (past m)) q (active_is_set M (past m) mission)
      (subst (λ s. has s q ≡ true) (active-is M L (past m)) there)

  step : (m : ℕ) (q : Channel) → has (now m).active q ≡ true →
      place_or (now m).counts_before q 0 ≡ after (judgements q (past m)) →
      place_or (now m).counts q 0 ≡ after (judgements q (now m ∷ past m))
  step m q there before =
      stepped M L (past m) q (has (now m).judged q) (low_now m q there) there refl
      ∙ ap (count_step M.rules.law M.rules.keep M.rules.decrement (has (now m).judged q)) before
      ∙ ap (λ b. after (cond b (has (now m).judged q ∷ judgements q (past m)) [])) (sym there)

  pub before : (m : ℕ) (q : Channel) → has (now m).active q ≡ true →
      place_or (now m).counts_before q 0 ≡ after (judgements q (past m))
  before zero q there = ap (λ t. place_or t q 0) (before-are M L (past 0))
      ∙ at-by_channel (λ q. 0) q 0 (low_now 0 q there)
  before (suc m) q there =
      ap (λ t. place_or t q 0) (before-are M L (past (suc m)))
      ∙ at-by_channel (λ q. cond (has (active_set M (past (suc m))) q && not (has (now m).joined q))
      (place_or (now m).counts q 0) 0) q 0 (low_now (suc m) q there)
      ∙ by_active (has (now m).active q) refl (λ was. step m q was (before m q was))
    where
      not_joined : has (now m).active q ≡ true → (b : Bool) → has (now m).joined q ≡ b → b ≡ false
      not_joined was true e = differ (sym was ∙ joined_passive M L m q e)
      not_joined was false e = refl

      there_now : has (active_set M (past (suc m))) q ≡ true
      there_now = subst (λ s. has s q ≡ true) (active-is M L (past (suc m))) there

      by_active : (b : Bool) → has (now m).active q ≡ b →
          (has (now m).active q ≡ true → place_or (now m).counts q 0 ≡ after (judgements q (now m ∷ past m))) →
          cond (has (active_set M (past (suc m))) q && not (has (now m).joined q)) (place_or (now m).counts q 0) 0
          ≡ after (cond b (has (now m).judged q ∷ judgements q (past m)) [])
      by_active true e more =
          ap (λ b. cond b (place_or (now m).counts q 0) 0)
          (and_true (has (active_set M (past (suc m))) q) (not (has (now m).joined q)) there_now
          (not_false (has (now m).joined q) (not_joined e (has (now m).joined q) refl)))
          ∙ more e
          ∙ ap (λ b. after (cond b (has (now m).judged q ∷ judgements q (past m)) [])) e
      by_active false e more =
          ap (λ b. cond b (place_or (now m).counts q 0) 0)
          (second_false (has (active_set M (past (suc m))) q) (not (has (now m).joined q))
          (ap not (joined_if_new M (past m) (now m) q (low_now (suc m) q there) there_now e)))

pub counted_now : (M : MissionValue) (L : Log) → IsMission M → (m : ℕ) →
    CountsJudgements M (cycles_before M L m) (next_cycle M L (cycles_before M L m))
counted_now M L mission m q there = step M L mission m q there (before M L mission m q there)

pub run_counts : (M : MissionValue) (L : Log) → IsMission M → (n : ℕ) →
    EachCycle (CountsJudgements M) (cycles_before M L n)
run_counts M L mission n = each_of M L (CountsJudgements M) n (λ m soon. counted_now M L mission m)
