-- The least period, as a loop finds it among the numbers of cycles that a run may have.
use Rattle.std.proofs.Common.{◌≡◌, ◌<◌, ◌≤◌, ◌+◌, ◌⊎◌, inl, inr, ◌∙◌, ℕ, zero, suc, Bool, cond, Option, Some, None, refl, sym, ap, subst, arith}
use Rattle.std.specs.Prelude.{find}
use Rattle.std.specs.List.{range_with_len}
use Rattle.std.proofs.lemmas.Bool.{cases_lt, le-leb}
use Rattle.guards_model.specs.Missions.{MissionValue, RulesValue}
use Rattle.guards_model.proofs.BoolTests.{differ}
use Rattle.recovery_laws.specs.CountHistories.{peak_of}
use Rattle.recovery_laws.specs.LeastPeriods.{is_below, stays_below, most_period, least_period}
use Rattle.recovery_laws.specs.Lengths.{first_from, most_cycles}
use Rattle.recovery_laws.proofs.FirstFrom.{IsFirst, found, least, none_first, none_passes}
use Rattle.mission_lint.specs.RuleLines.{if_at_most}
use Rattle.mission_lint.proofs.FirstNumber.{le_false}

-- whether the peak is below the threshold, by the rules alone
abbrev pub stays : RulesValue → ℕ → Bool
stays rules period = is_below rules.threshold (peak_of rules.law rules.keep rules.decrement rules.threshold period)

none_some : {k : ℕ} → None ≡ Some k → ⊥
none_some h = cc

module _ (f : ℕ → Bool) where
  find_from : (start count : ℕ) → find f (range_with_len start count) ≡ first_from f start count
  find_from start zero = refl
  find_from start (suc count) =
      ap (λ (o : Option ℕ). cond (f start) (Some start) o)
      (find_from (start + 1) count ∙ ap (λ n. first_from f n count) next)
    where
      next : start + 1 ≡ suc start
      next = omega arith

  -- the first of a few numbers is the first of many, if that is among the few
  first_within : (few many : ℕ) → few ≤ many → (o p : Option ℕ) → first_from f 1 few ≡ o → first_from f 1 many ≡ p →
      o ≡ if_at_most few p
  first_within few many less (Some k) p e is =
      let first : IsFirst f 1 k = found f 1 few k e in
      by first (cases_lt few k)
    where
      by : IsFirst f 1 k → (few < k) ⊎ (k ≤ few) → Some k ≡ if_at_most few p
      by first (inl above) = absurd
          (none_some (sym (none_first f 1 few (λ j low high. first.none j low (omega (arith, high, above)))) ∙ e))
      by first (inr under) =
          let here : p ≡ Some k = sym is ∙ least f 1 many k (omega (arith, under, less)) first in
          sym (ap (if_at_most few) here ∙ ap (λ b. cond b (Some k) None) (le-leb k few under))
  first_within few many less None None e is = refl
  first_within few many less None (Some k) e is = by (found f 1 many k is) (cases_lt few k)
    where
      by : IsFirst f 1 k → (few < k) ⊎ (k ≤ few) → None ≡ if_at_most few (Some k)
      by first (inl above) = sym (ap (λ b. cond b (Some k) None) (le_false k few above))
      by first (inr under) = differ (sym first.passes ∙ none_passes f 1 few e k first.from (omega (arith, under)))

pub least_is : (M : MissionValue) (r : RulesValue) → M.rules ≡ r →
    first_from (stays r) 1 2000 ≡ if_at_most most_cycles (least_period M)
unfolding least_period stays_below
least_is M r same =
    subst (λ q. first_from (stays q) 1 2000 ≡ if_at_most most_cycles (least_period M)) same
    (first_within (stays M.rules) most_cycles most_period (omega arith) (first_from (stays M.rules) 1 2000)
    (first_from (stays M.rules) 1 most_period) refl refl
    ∙ ap (if_at_most most_cycles) (sym (find_from (stays M.rules) 1 most_period)))
