-- A script has no entry where it has none for the bus and no other.
use Rattle.std.proofs.Common.{◌≡◌, ℕ, suc, Bool, true, false, not, List, [], ◌∷◌, ◌&&◌, ◌==◌, length, map, filter, refl, sym, ap, ◌∙◌}
use Rattle.std.specs.Prelude.{filter_map}
use Rattle.std.proofs.Math.Dec.{eqb-suc-zero}
use Rattle.std.proofs.lemmas.List.{length-map}
use Rattle.guards_model.specs.BusRules.{RuleValue}
use Rattle.guards_model.specs.Faults.{FaultValue, crash, restart, damage, bus}
use Rattle.guards_model.specs.Missions.{bus_rule}
use Rattle.fault_script.specs.Entries.{fault_value, is_for_bus}
use Rattle.fault_script.specs.declared.script.Fault.{Fault}

and_false : (a : Bool) → (a && false) ≡ false
and_false true = refl
and_false false = refl

-- one more entry for the bus, or one more of the others
one_more_rule : (rules others all : ℕ) → (suc rules == 0 && others == 0) ≡ (suc all == 0)
one_more_rule rules others all = ap (λ (b : Bool). b && (others == 0)) (eqb-suc-zero rules) ∙ sym (eqb-suc-zero all)

one_more_other : (rules others all : ℕ) → (rules == 0 && suc others == 0) ≡ (suc all == 0)
one_more_other rules others all =
    ap (λ (b : Bool). (rules == 0) && b) (eqb-suc-zero others) ∙ and_false (rules == 0) ∙ sym (eqb-suc-zero all)

-- how many entries are for the bus, and how many are not
abbrev rules_in : List FaultValue → ℕ
rules_in script = length (filter_map bus_rule script)

abbrev others_in : List FaultValue → ℕ
others_in script = length (filter (λ entry. not (is_for_bus entry)) script)

parts_empty : (script : List FaultValue) →
    (length (filter_map bus_rule script) == 0 && length (filter (λ entry. not (is_for_bus entry)) script) == 0)
    ≡ (length script == 0)
parts_empty [] = refl
parts_empty (crash q c slot ∷ script) = one_more_other (rules_in script) (others_in script) (length script)
parts_empty (restart q c ∷ script) = one_more_other (rules_in script) (others_in script) (length script)
parts_empty (damage q c block word value ∷ script) =
    one_more_other (rules_in script) (others_in script) (length script)
parts_empty (bus rule ∷ script) = one_more_rule (rules_in script) (others_in script) (length script)

pub empty_by_parts : (rules : List RuleValue) (others : List Fault) (script : List FaultValue) →
    rules ≡ filter_map bus_rule script → map fault_value others ≡ filter (λ entry. not (is_for_bus entry)) script →
    (length rules == 0 && length others == 0) ≡ (length script == 0)
empty_by_parts rules others script same_rules same_others =
    rw (same_rules, sym (length-map others fault_value), same_others) (parts_empty script)
