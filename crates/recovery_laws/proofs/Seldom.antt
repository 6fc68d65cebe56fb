-- A channel that is judged seldom keeps its count below the peak.
use Rattle.std.proofs.Common.{ℕ, ◌≤◌, ◌∷◌, sym, subst, arith}
use Rattle.std.specs.Prelude.{nat_le}
use Rattle.std.proofs.lemmas.Bool.{lt-leb}
use Rattle.guards_model.specs.Channels.{place_or}
use Rattle.guards_model.specs.Missions.{MissionValue, IsMission}
use Rattle.guards_model.specs.Network.{Log}
use Rattle.guards_model.specs.Diagnosis.{asks}
use Rattle.guards_runs.specs.Cycles.{cycles_before, next_cycle}
use Rattle.guards_runs.specs.Promises.{EachCycle}
use Rattle.guards_model.proofs.BoolTests.{clear_or}
use Rattle.guards_laws.proofs.Planned.{ranges}
use Rattle.recovery_laws.specs.CountHistories.{judgements, KeepsSeldomJudged}
use Rattle.recovery_laws.proofs.Judgement.{not_removed}
use Rattle.recovery_laws.proofs.LeftAlone.{each_of}
use Rattle.recovery_laws.proofs.JudgedCounts.{counted_now}
use Rattle.recovery_laws.proofs.HighestCounts.{peak_found}

module _ (M : MissionValue) (L : Log) (mission : IsMission M) where
  keeps : (m : ℕ) → KeepsSeldomJudged M (cycles_before M L m) (next_cycle M L (cycles_before M L m))
  keeps m q few period peak there sparse is =
      let past = cycles_before M L m in
      let e = next_cycle M L past in
      let p = peak_found M.rules.law M.rules.keep M.rules.decrement few period peak (ranges M mission).keep is in
      let low : place_or e.counts q 0 ≤ peak =
      subst (λ c. c ≤ peak) (sym (counted_now M L mission m q there))
      (p.highest (judgements q (e ∷ past)) sparse) in
      record {
        count = low;
        unremoved = λ under asked. not_removed M L past q
            (clear_or (nat_le M.rules.threshold (place_or e.counts q 0)) (asks e.active e.fresh e.agreed q)
            (lt-leb M.rules.threshold (place_or e.counts q 0) (omega (arith, under, low))) asked);
      }

pub run_keeps_seldom : (M : MissionValue) (L : Log) → IsMission M → (n : ℕ) →
    EachCycle (KeepsSeldomJudged M) (cycles_before M L n)
run_keeps_seldom M L mission n = each_of M L (KeepsSeldomJudged M) n (λ m soon. keeps M L mission m)
