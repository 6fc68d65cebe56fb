-- What is told of a script by the entries that are not for the bus.
use Rattle.std.proofs.Common.{◌≡◌, ◌∙◌, ◌+◌, ◌&&◌, ◌||◌, ℕ, suc, not, List, [], ◌∷◌, ◌++◌, map, filter, refl, ap, arith}
use Rattle.std.specs.Prelude.{flat_map}
use Rattle.std.specs.List.{list_any}
use Rattle.guards_model.specs.Faults.{FaultValue, crash, restart, damage, bus}
use Rattle.guards_model.specs.BusRules.{RuleValue}
use Rattle.guards_model.specs.Modes.{is_restart}
use Rattle.fault_script.specs.Entries.{fault_value, is_for_bus}
use Rattle.fault_script.specs.declared.script.Fault.{Fault}
use Rattle.lint_lines.specs.declared.line.LintLine.{LintLine}
use Rattle.lint_lines.specs.ScriptLines.{is_crash_in, is_down_before}

module _ (f : FaultValue → List LintLine) (bus_none : (rule : RuleValue) → f (bus rule) ≡ []) where
  of_others : (entries : List FaultValue) →
      flat_map f (filter (λ entry. not (is_for_bus entry)) entries) ≡ flat_map f entries
  of_others [] = refl
  of_others (crash q c slot ∷ entries) = ap (λ (ls : List LintLine). f (crash q c slot) ++ ls) (of_others entries)
  of_others (restart q c ∷ entries) = ap (λ (ls : List LintLine). f (restart q c) ++ ls) (of_others entries)
  of_others (damage q c block word value ∷ entries) =
      ap (λ (ls : List LintLine). f (damage q c block word value) ++ ls) (of_others entries)
  of_others (bus rule ∷ entries) =
      of_others entries ∙ ap (λ (ls : List LintLine). ls ++ flat_map f entries) (back (f (bus rule)) (bus_none rule))
    where
      back : (ls : List LintLine) → ls ≡ [] → [] ≡ ls
      back ls e = cc

  mapped : (entries : List Fault) →
      flat_map (λ entry. f (fault_value entry)) entries ≡ flat_map f (map fault_value entries)
  mapped [] = refl
  mapped (entry ∷ entries) = ap (λ (ls : List LintLine). f (fault_value entry) ++ ls) (mapped entries)

  pub lines_of_others : (others : List Fault) (script : List FaultValue) →
      map fault_value others ≡ filter (λ entry. not (is_for_bus entry)) script →
      flat_map (λ entry. f (fault_value entry)) others ≡ flat_map f script
  lines_of_others others script same = mapped others ∙ ap (flat_map f) same ∙ of_others script

-- one cycle later
pub down_next : (script : List FaultValue) (q n : ℕ) →
    (list_any (is_crash_in q n) script || (is_down_before script q n && not (list_any (is_restart q n) script)))
    ≡ is_down_before script q (n + 1)
down_next script q n = ap (is_down_before script q) next
  where
    next : suc n ≡ n + 1
    next = omega arith
