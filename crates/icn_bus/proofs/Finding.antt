-- The first rule that fits is found along the links.
use Rattle.std.proofs.Common.{◌≡◌, ℕ, suc, zero, ◌+◌, ◌-◌, ◌==◌, ◌<◌, ◌≤◌, Bool, true, false, ◌&&◌, ◌⊎◌, inl, inr, List, length, get_or, drop, refl, sym, ◌∙◌, ap, subst, arith, Some, None, add-zero}
use Rattle.std.specs.Prelude.{find, option_map}
use Rattle.std.proofs.lemmas.Bool.{cases_Bool, eqb-true}
use Rattle.std.proofs.lemmas.List.{at_drop_more, at_drop_all, length-map, get_or_read}
use Rattle.std.proofs.lemmas.Option.{slice_get_cases, slice_get_within, slice_get-map, get_or_from_slice_get}
use Rattle.std.specs.List.{slice_get}
use Rattle.guards_model.proofs.Codecs.{both}
use Rattle.guards_model.specs.declared.Slot.{Slot}
use Rattle.guards_model.specs.Slots.{slot_index, same_slot}
use Rattle.guards_model.specs.BusRules.{RuleValue}
use Rattle.guards_model.specs.ScriptedBus.{fits_carry, fits_receiver}
use Rattle.icn_bus.specs.Indexes.{LeadsTo, IsIndex, bucket, buckets_of}

module _ {A : Type 0} (p : A → Bool) (xs : List A) where
  one_more : (i : ℕ) → i < length xs → ((x : A) → slice_get xs i ≡ Some x → p x ≡ false) →
      find p (drop i xs) ≡ find p (drop (i + 1) xs)
  one_more i lt none = by_item (slice_get_cases xs i).1
    where
      by_item : ((x : A) × (i < length xs) × (slice_get xs i ≡ Some x) × (get_or xs i x ≡ x))
          ⊎ ((length xs ≤ i) × (slice_get xs i ≡ None)) → find p (drop i xs) ≡ find p (drop (i + 1) xs)
      by_item (inl w) =
          let e : p (get_or xs i w.0) ≡ false = ap p w.3 ∙ none w.0 w.2 in
          at_drop_more (find p) xs i w.0 lt ∙ rw e refl
      by_item (inr w) = absurd (omega (arith, lt, w.0))

  -- of so many items from a place on none passes
  skips : (n i : ℕ) → i + n ≤ length xs →
      ((j : ℕ) (x : A) → i ≤ j → j < i + n → slice_get xs j ≡ Some x → p x ≡ false) →
      find p (drop i xs) ≡ find p (drop (i + n) xs)
  skips zero i le none = rw add-zero refl
  skips (suc n) i le none =
      let e : (i + 1) + n ≡ i + suc n = omega arith in
      let here = one_more i (omega (arith, le)) (λ x at. none i x (omega arith) (omega arith) at) in
      let rest = skips n (i + 1) (omega (arith, le))
      (λ j x low high at. none j x (omega (arith, low)) (omega (arith, high)) at) in
      here ∙ rest ∙ ap (λ k. find p (drop k xs)) e

  -- the item at this place passes
  pub is_found : (i : ℕ) (x : A) → slice_get xs i ≡ Some x → p x ≡ true → find p (drop i xs) ≡ Some x
  is_found i x at passes =
      let x_is : get_or xs i x ≡ x = get_or_from_slice_get xs i x x at in
      let e : p (get_or xs i x) ≡ true = ap p x_is ∙ passes in
      at_drop_more (find p) xs i x (slice_get_within xs i x at) ∙ rw e (ap (λ (y : A). Some y) x_is)

  pub is_none : (i : ℕ) → length xs ≤ i → find p (drop i xs) ≡ None
  is_none i le = at_drop_all (find p) xs i le

-- a rule that fits is in the bucket
same_bucket : (count cycle : ℕ) (slot : Slot) (from to : ℕ) (r : RuleValue) → fits_carry cycle slot from to r ≡ true →
    bucket count r.cycle r.slot ≡ bucket count cycle slot
unfolding bucket
same_bucket count cycle slot from to r fits =
    let sent = both ((r.cycle == cycle && same_slot r.slot slot) && r.from == from) (fits_receiver r.to to) fits in
    let times = both (r.cycle == cycle && same_slot r.slot slot) (r.from == from) sent.0 in
    let of = both (r.cycle == cycle) (same_slot r.slot slot) times.0 in
    let cycle_is : r.cycle ≡ cycle = eqb-true r.cycle cycle of.0 in
    let slot_is : slot_index r.slot ≡ slot_index slot = eqb-true (slot_index r.slot) (slot_index slot) of.1 in
    rw (cycle_is, slot_is) refl

-- the rules that a link passes do not fit
pub leads_on : (rules : List RuleValue) (count cycle : ℕ) (slot : Slot) (from to i k : ℕ) →
    LeadsTo (buckets_of count rules) (bucket count cycle slot) i k
    → find (fits_carry cycle slot from to) (drop i rules) ≡ find (fits_carry cycle slot from to) (drop k rules)
leads_on rules count cycle slot from to i k leads =
    let e : i + (k - i) ≡ k = omega (arith, leads.low) in
    let within : i + (k - i) ≤ length rules =
    omega (arith, leads.low, leads.high, length-map rules (λ (r : RuleValue). bucket count r.cycle r.slot)) in
    skips (fits_carry cycle slot from to) rules (k - i) i within
    (λ j x low high at. other j x low (omega (arith, high, leads.low)) at)
    ∙ ap (λ m. find (fits_carry cycle slot from to) (drop m rules)) e
  where
    other : (j : ℕ) (x : RuleValue) → i ≤ j → j < k → slice_get rules j ≡ Some x →
        fits_carry cycle slot from to x ≡ false
    other j x low high at = by_test (cases_Bool (fits_carry cycle slot from to x))
      where
        by_test : (fits_carry cycle slot from to x ≡ true) ⊎ (fits_carry cycle slot from to x ≡ false) →
            fits_carry cycle slot from to x ≡ false
        by_test (inl fits) =
            let there : slice_get (buckets_of count rules) j ≡ Some (bucket count x.cycle x.slot) =
            slice_get-map (λ (r : RuleValue). bucket count r.cycle r.slot) rules j
            ∙ ap (option_map (λ (r : RuleValue). bucket count r.cycle r.slot)) at in
            absurd (leads.passed j low high
            (get_or_from_slice_get (buckets_of count rules) j (bucket count x.cycle x.slot) 0 there
            ∙ same_bucket count cycle slot from to x fits))
        by_test (inr unfit) = unfit

some_inj : {A : Type 0} {x y : A} → Some x ≡ Some y → x ≡ y
some_inj h = cc

module _ (rules : List RuleValue) (count cycle : ℕ) (slot : Slot) (from to : ℕ) where
  abbrev pub IsReached : ℕ → Type 0
  IsReached k =
      (k ≤ length rules) × (k < length rules → get_or (buckets_of count rules) k 0 ≡ bucket count cycle slot)
      × (find (fits_carry cycle slot from to) (drop k rules) ≡ find (fits_carry cycle slot from to) rules)

  -- a link leads from a place before which no rule fits to such a place
  reached : (i k : ℕ) → LeadsTo (buckets_of count rules) (bucket count cycle slot) i k
      → find (fits_carry cycle slot from to) (drop i rules) ≡ find (fits_carry cycle slot from to) rules → IsReached k
  reached i k leads so_far =
      let places = length-map rules (λ (r : RuleValue). bucket count r.cycle r.slot) in (
        omega (arith, leads.high, places),
        (λ lt. leads.found (omega (arith, lt, places))),
        sym (leads_on rules count cycle slot from to i k leads) ∙ so_far,
      )

  pub begins : (heads nexts : List ℕ) (b k : ℕ) → length heads ≡ count → IsIndex rules heads nexts →
      b ≡ bucket count cycle slot → b < count → k ≡ get_or heads b k → IsReached k
  begins heads nexts b k places index value lt read =
      let inside : b < length heads = omega (arith, lt, places) in
      let head : get_or heads b 0 ≡ k = sym (get_or_read heads b k inside read 0) in
      let leads : LeadsTo (buckets_of count rules) b 0 k =
      subst (λ n. LeadsTo (buckets_of n rules) b 0 k) places
      (subst (λ j. LeadsTo (buckets_of (length heads) rules) b 0 j) head (index.leads.first b inside)) in
      reached 0 k (subst (λ w. LeadsTo (buckets_of count rules) w 0 k) value leads) refl

  -- the rule at the place does not fit
  pub goes_on : (heads nexts : List ℕ) (i k : ℕ) (r : RuleValue) → length heads ≡ count → IsIndex rules heads nexts →
      IsReached i → slice_get rules i ≡ Some r
      → fits_carry cycle slot from to r ≡ false → k ≡ get_or nexts i k → IsReached k
  goes_on heads nexts i k r places index so_far at unfit read =
      let lt : i < length rules = slice_get_within rules i r at in
      let link : get_or nexts i 0 ≡ k = sym (get_or_read nexts i k (omega (arith, lt, index.places)) read 0) in
      let within : i < length (buckets_of count rules) =
      omega (arith, lt, length-map rules (λ (x : RuleValue). bucket count x.cycle x.slot)) in
      let linked : LeadsTo (buckets_of count rules) (get_or (buckets_of count rules) i 0) (i + 1) k =
      subst (λ j. LeadsTo (buckets_of count rules) (get_or (buckets_of count rules) i 0) (i + 1) j) link
      (next within) in
      let leads : LeadsTo (buckets_of count rules) (bucket count cycle slot) (i + 1) k =
      subst (λ w. LeadsTo (buckets_of count rules) w (i + 1) k) (so_far.1 lt) linked in
      reached (i + 1) k leads (sym (one_more (fits_carry cycle slot from to) rules i lt only) ∙ so_far.2)
    where
      next : i < length (buckets_of count rules) →
          LeadsTo (buckets_of count rules) (get_or (buckets_of count rules) i 0) (i + 1) (get_or nexts i 0)
      next = subst (λ n. i < length (buckets_of n rules) →
          LeadsTo (buckets_of n rules) (get_or (buckets_of n rules) i 0) (i + 1) (get_or nexts i 0)) places
          (λ lt. index.leads.next i (omega arith) lt)

      only : (x : RuleValue) → slice_get rules i ≡ Some x → fits_carry cycle slot from to x ≡ false
      only x there =
          let same : r ≡ x = some_inj (sym at ∙ there) in
          subst (λ y. fits_carry cycle slot from to y ≡ false) same unfit

  -- the rule at the place fits
  pub is_first : (i : ℕ) (r : RuleValue) → IsReached i → slice_get rules i ≡ Some r →
      fits_carry cycle slot from to r ≡ true → Some r ≡ find (fits_carry cycle slot from to) rules
  is_first i r so_far at fits = sym (is_found (fits_carry cycle slot from to) rules i r at fits) ∙ so_far.2

  pub ends : (i : ℕ) → IsReached i → length rules ≤ i → None ≡ find (fits_carry cycle slot from to) rules
  ends i so_far le = sym (is_none (fits_carry cycle slot from to) rules i le) ∙ so_far.2
