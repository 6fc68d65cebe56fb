-- The highest count of a channel that is judged at most once in so many cycles.
use Rattle.std.proofs.Common.{◌≡◌, ℕ, zero, suc, ◌+◌, ◌-◌, ◌*◌, ◌/◌, ◌<◌, ◌≤◌, Bool, true, false, cond, not, ◌&&◌, ◌||◌, List, [], ◌∷◌, Some, refl, ap, subst, ◌∙◌, arith}
use Rattle.std.specs.Prelude.{min, IsTrue}
use Rattle.std.proofs.lemmas.Bool.{leb-true, leb-false}
use Rattle.std.proofs.Math.Nat.{mul-le-mul_left}
use Rattle.guards_model.specs.declared.Law.{Law}
use Rattle.guards_model.specs.declared.Law.TheVariants.{Multiply, Subtract}
use Rattle.guards_model.specs.Frames.{count_cap}
use Rattle.guards_model.specs.Diagnosis.{decayed, count_step}
use Rattle.guards_model.proofs.BoolTests.{both, and_true}
use Rattle.recovery_laws.specs.CountHistories.{count_after, decayed_for, next_peak, is_steady, peak_from, peak_of, is_clear_for, is_sparse, IsPeak}
use Rattle.recovery_laws.proofs.Judgement.{decayed_no_higher}

quotients : (a b : ℕ) → a ≤ b → a / 65536 ≤ b / 65536
quotients a b h = omega (arith, h)

times : (a b k : ℕ) → a ≤ b → a * k ≤ b * k
times a b k h = let left : k * a ≤ k * b = mul-le-mul_left k h in omega (arith, left, turned a k, turned b k)
  where
    turned : (a k : ℕ) → a * k ≡ k * a
    turned a k = grind arith

-- more decays to no less
more_decays : (law : Law) (keep decrement a b : ℕ) → a ≤ b → decayed law keep decrement a ≤ decayed law keep decrement b
more_decays Multiply keep decrement a b h = quotients (a * keep) (b * keep) (times a b keep h)
more_decays Subtract keep decrement a b h = omega (arith, h)

module _ (law : Law) (keep decrement : ℕ) where
  more_decays_for : (k a b : ℕ) → a ≤ b → decayed_for law keep decrement k a ≤ decayed_for law keep decrement k b
  more_decays_for zero a b h = h
  more_decays_for (suc k) a b h =
      more_decays law keep decrement (decayed_for law keep decrement k a) (decayed_for law keep decrement k b)
      (more_decays_for k a b h)

  module _ (small : keep ≤ 65536) where
    -- a steady count is not exceeded
    module _ (period top : ℕ) (steady : is_steady law keep decrement period top ≡ true) where
      bounded_by : (errant : Bool) (c : ℕ) → c ≤ top →
          (errant ≡ true → c ≤ decayed_for law keep decrement (period - 1) top) →
          count_step law keep decrement errant c ≤ top
      bounded_by true c under peak =
          omega (arith, peak refl, leb-true (next_peak law keep decrement period top) top steady)
      bounded_by false c under peak = omega (arith, under, decayed_no_higher law keep decrement c small)

      clear_part : (errant clear rest : Bool) → ((not errant || clear) && rest) ≡ true → errant ≡ true → clear ≡ true
      clear_part true true rest h e = refl
      clear_part true false rest h e = absurd cc
      clear_part false clear rest h e = absurd cc

      both_bounded : (judged : List Bool) → is_sparse period judged ≡ true →
          (count_after law keep decrement judged ≤ top)
          × ((k : ℕ) → is_clear_for k judged ≡ true →
          count_after law keep decrement judged ≤ decayed_for law keep decrement k top)
      both_bounded [] sparse = (omega arith, λ k clear. omega arith)
      both_bounded (errant ∷ earlier) sparse =
          let rest = (both (not errant || is_clear_for (period - 1) earlier) (is_sparse period earlier) sparse).1 in
          let more = both_bounded earlier rest in
          let under : count_after law keep decrement (errant ∷ earlier) ≤ top =
          bounded_by errant (count_after law keep decrement earlier) more.0
          (λ e. more.1 (period - 1)
          (clear_part errant (is_clear_for (period - 1) earlier) (is_sparse period earlier) sparse e)) in
          (under, λ k clear. by_cycles k under clear (λ j. more.1 j))
        where
          decays_again : (e : Bool) (j : ℕ) → (not e && is_clear_for j earlier) ≡ true →
              (is_clear_for j earlier ≡ true →
              count_after law keep decrement earlier ≤ decayed_for law keep decrement j top) →
              count_after law keep decrement (e ∷ earlier)
              ≤ decayed law keep decrement (decayed_for law keep decrement j top)
          decays_again true j clear more = absurd cc
          decays_again false j clear more =
              more_decays law keep decrement (count_after law keep decrement earlier)
              (decayed_for law keep decrement j top) (more clear)

          by_cycles : (k : ℕ) → count_after law keep decrement (errant ∷ earlier) ≤ top →
              is_clear_for k (errant ∷ earlier) ≡ true →
              ((j : ℕ) → is_clear_for j earlier ≡ true →
              count_after law keep decrement earlier ≤ decayed_for law keep decrement j top) →
              count_after law keep decrement (errant ∷ earlier) ≤ decayed_for law keep decrement k top
          by_cycles zero under clear more = under
          by_cycles (suc j) under clear more = decays_again errant j clear (more j)

      pub bounded : (judged : List Bool) → is_sparse period judged ≡ true → count_after law keep decrement judged ≤ top
      bounded judged sparse = (both_bounded judged sparse).0

  -- ---- the peaks

  module _ (period : ℕ) where
    -- so many cycles without a judgement after a history
    quiet_for : ℕ → List Bool → List Bool
    quiet_for zero judged = judged
    quiet_for (suc k) judged = false ∷ quiet_for k judged

    quiet_clear : (k : ℕ) (judged : List Bool) → is_clear_for k (quiet_for k judged) ≡ true
    unfolding quiet_for
    quiet_clear zero judged = refl
    quiet_clear (suc k) judged = quiet_clear k judged

    quiet_sparse : (k : ℕ) (judged : List Bool) → is_sparse period judged ≡ true →
        is_sparse period (quiet_for k judged) ≡ true
    unfolding quiet_for
    quiet_sparse zero judged h = h
    quiet_sparse (suc k) judged h = quiet_sparse k judged h

    quiet_count : (k : ℕ) (judged : List Bool) →
        count_after law keep decrement (quiet_for k judged)
        ≡ decayed_for law keep decrement k (count_after law keep decrement judged)
    unfolding quiet_for
    quiet_count zero judged = refl
    quiet_count (suc k) judged = ap (decayed law keep decrement) (quiet_count k judged)

    abbrev pub Reached : ℕ → Type 0
    Reached count = (judged : List Bool) × IsTrue (is_sparse period judged)
        × (count_after law keep decrement judged ≡ count)

    capped : (c : ℕ) → c + 65536 ≤ count_cap → min (c + 65536) count_cap ≡ c + 65536
    capped c h = omega (arith, h)

    pub next_reached : (count : ℕ) → Reached count → next_peak law keep decrement period count ≤ count_cap →
        Reached (next_peak law keep decrement period count)
    next_reached count (judged, sparse, is) low = (
      true ∷ quiet_for (period - 1) judged,
      and_true (is_clear_for (period - 1) (quiet_for (period - 1) judged))
          (is_sparse period (quiet_for (period - 1) judged)) (quiet_clear (period - 1) judged)
          (quiet_sparse (period - 1) judged sparse),
      ap (λ c. min (c + 65536) count_cap)
          (quiet_count (period - 1) judged ∙ ap (decayed_for law keep decrement (period - 1)) is)
          ∙ capped (decayed_for law keep decrement (period - 1) count) low,
    )

    -- what is found of the peaks
    record IsFound (count peak : ℕ) : Type 0 where
      pub steady : is_steady law keep decrement period peak ≡ true
      pub least : (other : ℕ) → count ≤ other → is_steady law keep decrement period other ≡ true → peak ≤ other
      pub reached : (count ≤ count_cap → Reached count) → peak ≤ count_cap → Reached peak

    found_by : (few count peak : ℕ) (b : Bool) → is_steady law keep decrement period count ≡ b →
        cond b (Some count) (peak_from law keep decrement few period (next_peak law keep decrement period count))
        ≡ Some peak →
        (peak_from law keep decrement few period (next_peak law keep decrement period count) ≡ Some peak →
        IsFound (next_peak law keep decrement period count) peak) → IsFound count peak
    found_by few count peak true e h more =
        let same : count ≡ peak = inner h in
        subst (λ p. IsFound count p) same (record { steady = e; least = λ other low steady. low; reached = λ r. r })
      where
        inner : Some count ≡ Some peak → count ≡ peak
        inner k = cc
    found_by few count peak false e h more =
        let f = more h in
        let up : count < next_peak law keep decrement period count =
        leb-false (next_peak law keep decrement period count) count e in
        record {
          steady = f.steady;
          least = λ other low steady. f.least other
              (omega (
                arith,
                more_decays_for (period - 1) count other low,
                leb-true (next_peak law keep decrement period other) other steady,
              )) steady;
          reached = λ r. f.reached (λ low. next_reached count (r (omega (arith, up, low))) low);
        }

    found : (few count peak : ℕ) → peak_from law keep decrement few period count ≡ Some peak → IsFound count peak
    found zero count peak h = absurd cc
    found (suc few) count peak h =
        found_by few count peak (is_steady law keep decrement period count) refl h
        (found few (next_peak law keep decrement period count) peak)

    pub first_reached : Reached 65536
    first_reached = (true ∷ [], and_true (is_clear_for (period - 1) []) true (clear_nil (period - 1)) refl, refl)
      where
        clear_nil : (k : ℕ) → is_clear_for k [] ≡ true
        clear_nil zero = refl
        clear_nil (suc k) = refl

pub peak_found : (law : Law) (keep decrement few period peak : ℕ) → keep ≤ 65536 →
    peak_of law keep decrement few period ≡ Some peak → IsPeak law keep decrement few period peak
peak_found law keep decrement few period peak small h =
    let f = found law keep decrement period few 65536 peak h in
    record {
      steady = f.steady;
      least = f.least;
      highest = bounded law keep decrement small period peak f.steady;
      reached = λ low. f.reached (λ any. first_reached law keep decrement period) low;
    }
