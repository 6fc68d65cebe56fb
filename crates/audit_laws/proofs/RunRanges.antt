-- The numbers of a run are in the ranges of a trace.
use Rattle.std.proofs.Common.{◌≡◌, ℕ, zero, suc, ◌+◌, ◌-◌, ◌*◌, ◌/◌, ◌<◌, ◌≤◌, ◌^◌, Bool, true, false, cond, not, ◌&&◌, List, [], ◌∷◌, length, refl, sym, subst, arith}
use Rattle.std.specs.Prelude.{nat_le, min}
use Rattle.std.specs.List.{list_all}
use Rattle.std.proofs.lemmas.Bool.{leb-true, le-leb}
use Rattle.guards_model.specs.declared.Law.{Law}
use Rattle.guards_model.specs.declared.Law.TheVariants.{Multiply, Subtract}
use Rattle.guards_model.specs.Channels.{Channel, ChannelSet, has, place_or, by_channel, every_channel}
use Rattle.guards_model.specs.Missions.{MissionValue, IsMission}
use Rattle.guards_model.specs.Frames.{count_cap}
use Rattle.guards_model.specs.Diagnosis.{count_step, counts_of}
use Rattle.guards_model.specs.Network.{Log}
use Rattle.guards_runs.specs.Cycles.{Past, active_set, base_counts, cycle_start_of, agreement_of, decision_of, cycle_from, next_cycle, cycles_before}
use Rattle.guards_audit.specs.Lines.{is_empty, is_small}
use Rattle.guards_model.proofs.BoolTests.{both}
use Rattle.guards_model.proofs.ListTests.{all-map, weaken}
use Rattle.guards_laws.proofs.Planned.{ranges}
use Rattle.std.proofs.Math.Nat.{div-le_of_le-mul, mul-le-mul_left}

pub small-is : (n : ℕ) → n < 2 ^ 32 → is_small n ≡ true
small-is n h = le-leb (suc n) (2 ^ 32) h

pub not_empty : {A : Type 0} (xs : List A) → 0 < length xs → not (is_empty xs) ≡ true
not_empty [] h = absurd (omega arith)
not_empty (x ∷ xs) h = refl

-- ---- counts

is_count : ℕ → Bool
is_count n = nat_le n count_cap

table_counts : (f : Channel → ℕ) → ((q : ℕ) → is_count (f q) ≡ true) → list_all is_count (by_channel f) ≡ true
unfolding by_channel
table_counts f h = all-map is_count f every_channel h

count_at : (counts : List ℕ) (q : ℕ) → list_all is_count counts ≡ true → is_count (place_or counts q 0) ≡ true
unfolding is_count
count_at [] q h = refl
count_at (x ∷ counts) zero h = (both (is_count x) (list_all is_count counts) h).0
count_at (x ∷ counts) (suc q) h = count_at counts q (both (is_count x) (list_all is_count counts) h).1

or_zero : (b : Bool) (n : ℕ) → is_count n ≡ true → is_count (cond b n 0) ≡ true
unfolding is_count
or_zero true n h = h
or_zero false n h = refl

multiplied : (n keep : ℕ) → n ≤ count_cap → keep ≤ 65536 → (n * keep) / 65536 ≤ count_cap
multiplied n keep h k = div-le_of_le-mul 65536 (omega (arith, mul-le-mul_left n k, h))

step_counts : (law : Law) (keep decrement : ℕ) (errant : Bool) (n : ℕ) → keep ≤ 65536 → is_count n ≡ true →
    is_count (count_step law keep decrement errant n) ≡ true
unfolding is_count
step_counts law keep decrement true n small h = le-leb (min (n + 65536) count_cap) count_cap (omega arith)
step_counts Multiply keep decrement false n small h =
    le-leb ((n * keep) / 65536) count_cap (multiplied n keep (leb-true n count_cap h) small)
step_counts Subtract keep decrement false n small h =
    le-leb (n - decrement) count_cap (omega (arith, leb-true n count_cap h))

module _ (M : MissionValue) (L : Log) (mission : IsMission M) where
  stepped : (active judged : ChannelSet) (base : List ℕ) → list_all is_count base ≡ true →
      list_all is_count (counts_of M.rules.law M.rules.keep M.rules.decrement active judged base) ≡ true
  stepped active judged base h =
      table_counts (λ q. cond (has active q)
      (count_step M.rules.law M.rules.keep M.rules.decrement (has judged q) (place_or base q 0)) 0)
      (λ q. or_zero (has active q)
      (count_step M.rules.law M.rules.keep M.rules.decrement (has judged q) (place_or base q 0))
      (step_counts M.rules.law M.rules.keep M.rules.decrement (has judged q) (place_or base q 0) (ranges M mission).keep
      (count_at base q h)))

  counts-is : (past : Past) →
      (next_cycle M L past).counts
      ≡ counts_of M.rules.law M.rules.keep M.rules.decrement (next_cycle M L past).active (next_cycle M L past).judged
      (base_counts M past)
  unfolding cycle_from decision_of cycle_start_of agreement_of
  counts-is past = refl

  base_good : (n : ℕ) → list_all is_count (base_counts M (cycles_before M L n)) ≡ true
  unfolding is_count
  base_good zero = table_counts (λ q. 0) (λ q. refl)
  base_good (suc n) =
      let past = cycles_before M L n in
      let e = next_cycle M L past in
      table_counts (λ q. cond (has (active_set M (e ∷ past)) q && not (has e.joined q)) (place_or e.counts q 0) 0)
      (λ q. or_zero (has (active_set M (e ∷ past)) q && not (has e.joined q)) (place_or e.counts q 0)
      (count_at e.counts q (subst (λ cs. list_all is_count cs ≡ true) (sym (counts-is past))
      (stepped e.active e.judged (base_counts M past) (base_good n)))))

  pub counts_small : (n : ℕ) → list_all is_small (next_cycle M L (cycles_before M L n)).counts ≡ true
  unfolding is_count
  counts_small n =
      let e = next_cycle M L (cycles_before M L n) in
      weaken is_count is_small e.counts (λ k h. small-is k (omega (arith, leb-true k count_cap h)))
      (subst (λ cs. list_all is_count cs ≡ true) (sym (counts-is (cycles_before M L n)))
      (stepped e.active e.judged (base_counts M (cycles_before M L n)) (base_good n)))
