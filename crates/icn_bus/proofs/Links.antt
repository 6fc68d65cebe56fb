-- Links that are made from the last place to the first.
use Rattle.std.proofs.Common.{◌≡◌, ◌⊎◌, inl, inr, ℕ, ◌+◌, ◌<◌, ◌≤◌, List, length, get_or, replicate, sym, ◌∙◌, ap, subst, arith, get_or-set_same, get_or-set_other}
use Rattle.std.proofs.Math.ListN.{set}
use Rattle.std.proofs.lemmas.List.{length-set, get_or-replicate}
use Rattle.std.proofs.lemmas.Bool.{cases_eq}
use Rattle.icn_bus.specs.Indexes.{LeadsTo, LeadsFrom}

-- no link is made yet
pub leads_none : (buckets heads nexts : List ℕ) → heads ≡ replicate (length heads) (length buckets) →
    LeadsFrom (length buckets) buckets heads nexts
leads_none buckets heads nexts unset = record {
  first = λ b lt.
      let e : get_or heads b 0 ≡ length buckets =
      ap (λ xs. get_or xs b 0) unset ∙ get_or-replicate (length heads) b (length buckets) 0 lt in
      record {
        low = omega (arith, e);
        high = omega (arith, e);
        passed = λ j low high. absurd (omega (arith, e, low, high));
        found = λ below. absurd (omega (arith, e, below));
      };
  next = λ i low high. absurd (omega (arith, low, high));
}

-- a place of another bucket is passed
earlier : (buckets : List ℕ) (b i p : ℕ) → LeadsTo buckets b (i + 1) p → (get_or buckets i 0 ≡ b → ⊥) →
    LeadsTo buckets b i p
earlier buckets b i p h other = record {
  low = omega (arith, h.low);
  high = h.high;
  passed = λ j low high. by_place j low high (cases_eq j i);
  found = h.found;
}
  where
    by_place : (j : ℕ) → i ≤ j → j < p → (j ≡ i) ⊎ (j ≡ i → ⊥) → get_or buckets j 0 ≡ b → ⊥
    by_place j low high (inl e) same = other (ap (λ k. get_or buckets k 0) (sym e) ∙ same)
    by_place j low high (inr ne) same = h.passed j (omega (arith, low, ne)) high same

-- a place more
pub leads_more : (buckets heads nexts : List ℕ) (i : ℕ) → i < length buckets → get_or buckets i 0 < length heads →
    length nexts ≡ length buckets
    → LeadsFrom (i + 1) buckets heads nexts
    → LeadsFrom i buckets (set heads (get_or buckets i 0) i) (set nexts i (get_or heads (get_or buckets i 0) 0))
leads_more buckets heads nexts i lt inside places leads = record {
  first = λ b below. by_bucket b (omega (arith, below, length-set heads (get_or buckets i 0) i))
      (cases_eq b (get_or buckets i 0));
  next = λ k low high. by_place k low high (cases_eq k i);
}
  where
    by_bucket : (b : ℕ) → b < length heads → (b ≡ get_or buckets i 0) ⊎ (b ≡ get_or buckets i 0 → ⊥)
        → LeadsTo buckets b i (get_or (set heads (get_or buckets i 0) i) b 0)
    by_bucket b below (inl e) =
        let here : get_or (set heads (get_or buckets i 0) i) b 0 ≡ i =
        ap (λ k. get_or (set heads (get_or buckets i 0) i) k 0) e
        ∙ get_or-set_same heads (get_or buckets i 0) i 0 inside in
        subst (λ p. LeadsTo buckets b i p) (sym here) record {
          low = omega arith;
          high = omega (arith, lt);
          passed = λ j low high. absurd (omega (arith, low, high));
          found = λ _. sym e;
        }
    by_bucket b below (inr ne) =
        subst (λ p. LeadsTo buckets b i p) (sym (get_or-set_other heads (get_or buckets i 0) b i 0 ne))
        (earlier buckets b i (get_or heads b 0) (leads.first b below) (λ e. ne (sym e)))

    by_place : (k : ℕ) → i ≤ k → k < length buckets → (k ≡ i) ⊎ (k ≡ i → ⊥)
        → LeadsTo buckets (get_or buckets k 0) (k + 1) (get_or (set nexts i (get_or heads (get_or buckets i 0) 0)) k 0)
    by_place k low high (inl e) =
        let at : get_or (set nexts i (get_or heads (get_or buckets i 0) 0)) i 0 ≡ get_or heads (get_or buckets i 0) 0 =
        get_or-set_same nexts i _ 0 (omega (arith, lt, places)) in
        subst (λ m. LeadsTo buckets (get_or buckets m 0) (m + 1)
        (get_or (set nexts i (get_or heads (get_or buckets i 0) 0)) m 0)) (sym e)
        (subst (λ p. LeadsTo buckets (get_or buckets i 0) (i + 1) p) (sym at) (leads.first (get_or buckets i 0) inside))
    by_place k low high (inr ne) =
        subst (λ p. LeadsTo buckets (get_or buckets k 0) (k + 1) p)
        (sym (get_or-set_other nexts i k (get_or heads (get_or buckets i 0) 0) 0 ne))
        (leads.next k (omega (arith, low, ne)) high)
