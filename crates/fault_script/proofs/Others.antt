-- What a script says of channels stands among the entries that are not for the bus.
use Rattle.std.proofs.Common.{◌≡◌, Bool, false, not, List, [], ◌∷◌, map, filter, refl, ap, sym, ◌∙◌}
use Rattle.std.specs.Prelude.{◌||◌}
use Rattle.std.specs.List.{list_any}
use Rattle.guards_model.specs.Faults.{FaultValue, crash, restart, damage, bus}
use Rattle.guards_model.specs.BusRules.{RuleValue}
use Rattle.fault_script.specs.Entries.{fault_value, is_for_bus}
use Rattle.fault_script.specs.declared.script.Fault.{Fault}

-- the entries that are not for the bus
abbrev pub not_for_bus : List FaultValue → List FaultValue
not_for_bus entries = filter (λ entry. not (is_for_bus entry)) entries

module _ (test : FaultValue → Bool) (bus_fails : (rule : RuleValue) → test (bus rule) ≡ false) where
  any_of_others : (entries : List FaultValue) → list_any test (not_for_bus entries) ≡ list_any test entries
  any_of_others [] = refl
  any_of_others (crash q c slot ∷ entries) = ap (λ b. test (crash q c slot) || b) (any_of_others entries)
  any_of_others (restart q c ∷ entries) = ap (λ b. test (restart q c) || b) (any_of_others entries)
  any_of_others (damage q c block word value ∷ entries) =
      ap (λ b. test (damage q c block word value) || b) (any_of_others entries)
  any_of_others (bus rule ∷ entries) =
      any_of_others entries ∙ sym (ap (λ b. b || list_any test entries) (bus_fails rule))

  any_mapped : (entries : List Fault) →
      list_any (λ entry. test (fault_value entry)) entries ≡ list_any test (map fault_value entries)
  any_mapped [] = refl
  any_mapped (entry ∷ entries) = ap (λ b. test (fault_value entry) || b) (any_mapped entries)

  pub said_by_others : (others : List Fault) (script : List FaultValue) → map fault_value others ≡ not_for_bus script
      → list_any (λ entry. test (fault_value entry)) others ≡ list_any test script
  said_by_others others script same = any_mapped others ∙ (ap (list_any test) same ∙ any_of_others script)
