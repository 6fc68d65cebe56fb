-- What a script says stands among its entries for the bus and among the others.
use Rattle.std.proofs.Common.{◌≡◌, ℕ, ◌+◌, Bool, true, false, not, if◌then◌else◌, List, [], ◌∷◌, map, filter, refl, ap, sym, ◌∙◌, arith}
use Rattle.std.specs.Prelude.{◌||◌, filter_map, count_by}
use Rattle.std.specs.List.{list_any}
use Rattle.std.proofs.lemmas.List.Recursion.{is_count_by}
use Rattle.guards_model.specs.Faults.{FaultValue, crash, restart, damage, bus}
use Rattle.guards_model.specs.BusRules.{RuleValue}
use Rattle.guards_model.specs.Missions.{bus_rule}
use Rattle.fault_script.specs.Entries.{fault_value, is_for_bus}
use Rattle.fault_script.specs.declared.script.Fault.{Fault}

-- the entries that are not for the bus
abbrev pub not_for_bus : List FaultValue → List FaultValue
not_for_bus entries = filter (λ entry. not (is_for_bus entry)) entries

or_assoc : (a b c : Bool) → (a || (b || c)) ≡ ((a || b) || c)
or_assoc true b c = refl
or_assoc false b c = refl

or_swap : (a b c : Bool) → (a || (b || c)) ≡ (b || (a || c))
or_swap true true c = refl
or_swap true false c = refl
or_swap false true c = refl
or_swap false false c = refl

one_more : (b : Bool) (n m r : ℕ) → n ≡ m + r → (if b then 1 + n else n) ≡ (if b then 1 + m else m) + r
one_more true n m r e = omega (arith, e)
one_more false n m r e = e

one_behind : (b : Bool) (n m r : ℕ) → n ≡ m + r → (if b then 1 + n else n) ≡ m + (if b then 1 + r else r)
one_behind true n m r e = omega (arith, e)
one_behind false n m r e = e

-- how many pass the test, one after the other
counting : {A : Type 0} → (A → Bool) → List A → ℕ
counting test [] = 0
counting test (x ∷ xs) = if test x then 1 + counting test xs else counting test xs

counted_so : {A : Type 0} (test : A → Bool) (xs : List A) → counting test xs ≡ count_by test xs
unfolding counting
counted_so test xs = is_count_by (counting test) test refl (λ x rest. refl) xs

module _ (test : FaultValue → Bool) where
  any_of_parts : (entries : List FaultValue) → list_any test entries ≡ (list_any test (not_for_bus entries) || list_any (λ rule. test (bus rule)) (filter_map bus_rule entries))
  any_of_parts [] = refl
  any_of_parts (crash q c slot ∷ entries) = ap (λ b. test (crash q c slot) || b) (any_of_parts entries) ∙ or_assoc (test (crash q c slot)) _ _
  any_of_parts (restart q c ∷ entries) = ap (λ b. test (restart q c) || b) (any_of_parts entries) ∙ or_assoc (test (restart q c)) _ _
  any_of_parts (damage q c block word value ∷ entries) =
      ap (λ b. test (damage q c block word value) || b) (any_of_parts entries) ∙ or_assoc (test (damage q c block word value)) _ _
  any_of_parts (bus rule ∷ entries) =
      ap (λ b. test (bus rule) || b) (any_of_parts entries) ∙ or_swap (test (bus rule)) (list_any test (not_for_bus entries)) (list_any (λ rule. test (bus rule)) (filter_map bus_rule entries))

  any_mapped : (entries : List Fault) → list_any (λ entry. test (fault_value entry)) entries ≡ list_any test (map fault_value entries)
  any_mapped [] = refl
  any_mapped (entry ∷ entries) = ap (λ b. test (fault_value entry) || b) (any_mapped entries)

  pub said_by_parts : (others : List Fault) (rules : List RuleValue) (script : List FaultValue) → map fault_value others ≡ not_for_bus script → rules ≡ filter_map bus_rule script
      → (list_any (λ entry. test (fault_value entry)) others || list_any (λ rule. test (bus rule)) rules) ≡ list_any test script
  said_by_parts others rules script same_others same_rules = rw (any_mapped others, same_others, same_rules) (sym (any_of_parts script))

  counts_of_parts : (entries : List FaultValue) → counting test entries ≡ counting test (not_for_bus entries) + counting (λ rule. test (bus rule)) (filter_map bus_rule entries)
  unfolding counting
  counts_of_parts [] = refl
  counts_of_parts (crash q c slot ∷ entries) =
      one_more (test (crash q c slot)) (counting test entries) (counting test (not_for_bus entries)) (counting (λ rule. test (bus rule)) (filter_map bus_rule entries)) (counts_of_parts entries)
  counts_of_parts (restart q c ∷ entries) =
      one_more (test (restart q c)) (counting test entries) (counting test (not_for_bus entries)) (counting (λ rule. test (bus rule)) (filter_map bus_rule entries)) (counts_of_parts entries)
  counts_of_parts (damage q c block word value ∷ entries) =
      one_more (test (damage q c block word value)) (counting test entries) (counting test (not_for_bus entries)) (counting (λ rule. test (bus rule)) (filter_map bus_rule entries)) (counts_of_parts entries)
  counts_of_parts (bus rule ∷ entries) =
      one_behind (test (bus rule)) (counting test entries) (counting test (not_for_bus entries)) (counting (λ rule. test (bus rule)) (filter_map bus_rule entries)) (counts_of_parts entries)

  counts_mapped : (entries : List Fault) → counting (λ entry. test (fault_value entry)) entries ≡ counting test (map fault_value entries)
  unfolding counting
  counts_mapped [] = refl
  counts_mapped (entry ∷ entries) = ap (λ (n : ℕ). if test (fault_value entry) then 1 + n else n) (counts_mapped entries)

  pub counted_by_parts : (others : List Fault) (rules : List RuleValue) (script : List FaultValue) → map fault_value others ≡ not_for_bus script → rules ≡ filter_map bus_rule script
      → count_by (λ entry. test (fault_value entry)) others + count_by (λ rule. test (bus rule)) rules ≡ count_by test script
  counted_by_parts others rules script same_others same_rules =
      rw (← counted_so (λ entry. test (fault_value entry)) others, ← counted_so (λ rule. test (bus rule)) rules, ← counted_so test script, counts_mapped others, same_others, same_rules)
      (sym (counts_of_parts script))
