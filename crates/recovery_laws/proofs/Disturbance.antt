-- A disturbed cycle costs a channel two judgements at most, and no channel is removed but for a cause.
use Rattle.std.proofs.Common.{◌≡◌, ℕ, zero, suc, ◌+◌, ◌-◌, ◌*◌, ◌<◌, ◌≤◌, ◌==◌, Bool, true, false, cond, not, ◌&&◌, ◌||◌, List, [], ◌∷◌, length, refl, sym, ap, subst, ◌∙◌, arith}
use Rattle.std.specs.Prelude.{nat_le, take}
use Rattle.std.proofs.lemmas.Bool.{leb-true}
use Rattle.guards_model.specs.declared.Slot.TheVariants.{Switch}
use Rattle.guards_model.specs.Channels.{Channel, has, place_or}
use Rattle.guards_model.specs.Missions.{MissionValue, IsMission}
use Rattle.guards_model.specs.Network.{Log}
use Rattle.guards_model.specs.Diagnosis.{count_step, candidates_of, asks}
use Rattle.guards_runs.specs.Cycles.{Past, Cycle, active_set, base_counts, cycles_before, next_cycle}
use Rattle.guards_runs.specs.Promises.{is_undisturbed, was_undisturbed_or_absent, EachCycle, HasRun}
use Rattle.guards_model.proofs.Tables.{at-by_channel, has-filter}
use Rattle.guards_model.proofs.BoolTests.{differ, both, second_false}
use Rattle.guards_laws.proofs.CycleParts.{active-is}
use Rattle.guards_laws.proofs.Planned.{ranges}
use Rattle.recovery_laws.specs.Diagnosed.{is_judged, disturbed_cycles, CostsTwo, RemovesForCause}
use Rattle.recovery_laws.proofs.Judgement.{stepped, before-are, removed-is, decayed_no_higher}
use Rattle.recovery_laws.proofs.LeftAlone.{left_alone, none_asks, low_at, joined_if_new, each_of}
use Rattle.recovery_laws.proofs.Rows.{carried}

-- what a channel may still be judged for
unfoldable open_cost : Bool → ℕ
open_cost undisturbed = cond undisturbed 0 65536

in_take : (n : ℕ) (xs : List ℕ) (q : ℕ) → has (take n xs) q ≡ true → has xs q ≡ true
in_take zero xs q h = absurd cc
in_take (suc n) [] q h = absurd cc
in_take (suc n) (x ∷ xs) q h = by_first (x == q) (has (take n xs) q) (has xs q) (in_take n xs q) h
  where
    by_first : (b taken there : Bool) → (taken ≡ true → there ≡ true) → (b || taken) ≡ true → (b || there) ≡ true
    by_first true taken there f k = refl
    by_first false taken there f k = f k

module _ (M : MissionValue) (L : Log) (n : ℕ) (mission : IsMission M) (early : n ≤ M.cycles) (run : HasRun M L n) where
  abbrev past : ℕ → Past
  past m = cycles_before M L m

  abbrev now : ℕ → Cycle
  now m = next_cycle M L (cycles_before M L m)

  abbrev fine : ℕ → Channel → Bool
  fine m q = is_undisturbed (length (cycles_before M L m)) (next_cycle M L (cycles_before M L m)) q

  abbrev quiet : ℕ → Channel → Bool
  quiet m q = was_undisturbed_or_absent (cycles_before M L m) q

  -- a count grows by 1 at most
  one_more : (m : ℕ) → m < n → (q : Channel) → has (now m).active q ≡ true →
      place_or (now m).counts q 0 ≤ place_or (now m).counts_before q 0 + 65536
  one_more m soon q there =
      by_judged (has (now m).judged q)
      (stepped M L (past m) q (has (now m).judged q) (low_at M L n mission early run m soon q there) there refl)
    where
      by_judged : (b : Bool) → place_or (now m).counts q 0
          ≡ count_step M.rules.law M.rules.keep M.rules.decrement b (place_or (now m).counts_before q 0) →
          place_or (now m).counts q 0 ≤ place_or (now m).counts_before q 0 + 65536
      by_judged true e = omega (arith, e)
      by_judged false e = omega (
        arith,
        e,
        decayed_no_higher M.rules.law M.rules.keep M.rules.decrement (place_or (now m).counts_before q 0)
            (ranges M mission).keep,
      )

  -- what the past leaves, and what the cycle then leaves
  abbrev Before : ℕ → Channel → Type 0
  Before m q = place_or (now m).counts_before q 0 + open_cost (quiet m q) ≤ 131072 * disturbed_cycles q (past m)

  abbrev After : ℕ → Channel → Type 0
  After m q = place_or (now m).counts q 0 + open_cost (fine m q) ≤ 131072 * disturbed_cycles q (now m ∷ past m)

  costs_by : (b w : Bool) (count base d : ℕ) → count ≤ base + 65536 → (b ≡ true → w ≡ true → count ≤ base) →
      base + open_cost w ≤ 131072 * d → count + open_cost b ≤ 131072 * cond b d (suc d)
  unfolding open_cost
  costs_by true true count base d one none h = omega (arith, none refl refl, h)
  costs_by true false count base d one none h = omega (arith, one, h)
  costs_by false true count base d one none h = omega (arith, one, h)
  costs_by false false count base d one none h = omega (arith, one, h)

  after : (m : ℕ) → m < n → (q : Channel) → has (now m).active q ≡ true → Before m q → After m q
  after m soon q there before =
      subst (λ b. place_or (now m).counts q 0 + open_cost (fine m q)
      ≤ 131072 * cond b (cond (fine m q) (disturbed_cycles q (past m)) (suc (disturbed_cycles q (past m)))) 0)
      (sym there)
      (costs_by (fine m q) (quiet m q) (place_or (now m).counts q 0) (place_or (now m).counts_before q 0)
      (disturbed_cycles q (past m)) (one_more m soon q there)
      (λ is was. (left_alone M L n mission early run m soon q Switch refl is was).no_higher) before)

  before : (m : ℕ) → m < n → (q : Channel) → has (now m).active q ≡ true → Before m q
  unfolding open_cost
  before zero soon q there =
      omega (
        arith,
        ap (λ t. place_or t q 0) (before-are M L (past 0))
            ∙ at-by_channel (λ q. 0) q 0 (low_at M L n mission early run 0 soon q there),
      )
  before (suc m) soon q there =
      by_active (has (now m).active q) refl
      (λ was. after m (omega (arith, soon)) q was (before m (omega (arith, soon)) q was))
    where
      low : q < 7
      low = low_at M L n mission early run (suc m) soon q there

      is_base : place_or (now (suc m)).counts_before q 0 ≡ place_or (base_counts M (past (suc m))) q 0
      is_base = ap (λ t. place_or t q 0) (before-are M L (past (suc m)))

      none : has (now m).active q ≡ false → place_or (now (suc m)).counts_before q 0 ≡ 0
      none new =
          is_base
          ∙ at-by_channel (λ q. cond (has (active_set M (past (suc m))) q && not (has (now m).joined q))
          (place_or (now m).counts q 0) 0) q 0 low
          ∙ ap (λ b. cond b (place_or (now m).counts q 0) 0)
          (second_false (has (active_set M (past (suc m))) q) (not (has (now m).joined q))
          (ap not (joined_if_new M (past m) (now m) q low
          (subst (λ s. has s q ≡ true) (active-is M L (past (suc m))) there) new)))

      by_active : (b : Bool) → has (now m).active q ≡ b → (has (now m).active q ≡ true → After m q) →
          place_or (now (suc m)).counts_before q 0 + open_cost (not b || fine m q)
          ≤ 131072 * cond b (cond (fine m q) (disturbed_cycles q (past m)) (suc (disturbed_cycles q (past m)))) 0
      by_active true e more =
          subst (λ c. c + open_cost (fine m q)
          ≤ 131072 * cond (fine m q) (disturbed_cycles q (past m)) (suc (disturbed_cycles q (past m))))
          (sym (is_base ∙ carried M L mission n is_judged (λ k low p h. h) m (omega (arith, soon)) q there e low))
          (subst (λ b. place_or (now m).counts q 0 + open_cost (fine m q)
          ≤ 131072 * cond b (cond (fine m q) (disturbed_cycles q (past m)) (suc (disturbed_cycles q (past m)))) 0) e
          (more e))
      by_active false e more = omega (arith, none e)

  costs : (m : ℕ) → m < n → CostsTwo M (past m) (now m)
  costs m soon q there = omega (arith, after m soon q there (before m soon q there))

  -- ---- causes

  more_later : (m : ℕ) (q : Channel) → has (now m).active q ≡ true →
      disturbed_cycles q (past m) ≤ disturbed_cycles q (now m ∷ past m)
  more_later m q there =
      subst (λ b. disturbed_cycles q (past m)
      ≤ cond b (cond (fine m q) (disturbed_cycles q (past m)) (suc (disturbed_cycles q (past m)))) 0) (sym there)
      (by_fine (fine m q) (disturbed_cycles q (past m)))
    where
      by_fine : (b : Bool) (d : ℕ) → d ≤ cond b d (suc d)
      by_fine true d = omega arith
      by_fine false d = omega arith

  unquiet : (m : ℕ) → m < n → (q : Channel) → has (now m).active q ≡ true → (w : Bool) → quiet m q ≡ w →
      asks (now m).active (now m).fresh (now m).agreed q ≡ true → 1 ≤ disturbed_cycles q (now m ∷ past m)
  unfolding open_cost
  unquiet m soon q there true e asked = differ (sym asked ∙ none_asks M L n mission early run m soon q there e)
  unquiet m soon q there false e asked =
      omega (
        arith,
        more_later m q there,
        subst (λ w. place_or (now m).counts_before q 0 + open_cost w ≤ 131072 * disturbed_cycles q (past m)) e
            (before m soon q there),
      )

  causes : (m : ℕ) → m < n → RemovesForCause M (past m) (now m)
  causes m soon q gone =
      let e = now m in
      let test : Channel → Bool =
      λ q. nat_le M.rules.threshold (place_or e.counts q 0) || asks e.active e.fresh e.agreed q in
      let parts = both (test q) (has e.active q) (sym (has-filter test e.active q)
      ∙ in_take (length e.active - 3) (candidates_of M.rules.threshold e.active e.fresh e.agreed e.counts) q
      (sym (ap (λ s. has s q) (removed-is M L (past m))) ∙ gone)) in
      let often : asks e.active e.fresh e.agreed q ≡ false →
      M.rules.threshold ≤ 131072 * disturbed_cycles q (e ∷ past m) = λ unasked.
      omega (
        arith,
        costs m soon q parts.1,
        leb-true M.rules.threshold (place_or e.counts q 0)
            (without_asking (nat_le M.rules.threshold (place_or e.counts q 0)) (asks e.active e.fresh e.agreed q)
            parts.0
            unasked),
      ) in
      record {
        active = parts.1;
        disturbed = by_asked m q (asks e.active e.fresh e.agreed q) refl
            (λ asked. unquiet m soon q parts.1 (quiet m q) refl asked) often;
        often = often;
      }
    where
      without_asking : (a b : Bool) → (a || b) ≡ true → b ≡ false → a ≡ true
      without_asking true b h k = refl
      without_asking false b h k = differ (sym h ∙ k)

      by_asked : (m : ℕ) (q : Channel) (b : Bool) → asks (now m).active (now m).fresh (now m).agreed q ≡ b →
          (asks (now m).active (now m).fresh (now m).agreed q ≡ true → 1 ≤ disturbed_cycles q (now m ∷ past m)) →
          (asks (now m).active (now m).fresh (now m).agreed q ≡ false →
          M.rules.threshold ≤ 131072 * disturbed_cycles q (now m ∷ past m)) →
          1 ≤ disturbed_cycles q (now m ∷ past m)
      by_asked m q true e asked often = asked e
      by_asked m q false e asked often = omega (arith, often e, (ranges M mission).threshold)

pub run_costs : (M : MissionValue) (L : Log) (n : ℕ) → IsMission M → n ≤ M.cycles → HasRun M L n →
    EachCycle (CostsTwo M) (cycles_before M L n)
run_costs M L n mission early run = each_of M L (CostsTwo M) n (costs M L n mission early run)

pub run_causes : (M : MissionValue) (L : Log) (n : ℕ) → IsMission M → n ≤ M.cycles → HasRun M L n →
    EachCycle (RemovesForCause M) (cycles_before M L n)
run_causes M L n mission early run = each_of M L (RemovesForCause M) n (causes M L n mission early run)
