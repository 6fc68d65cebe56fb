-- The texts of a list of entries, by their values.
use Rattle.std.proofs.Common.{◌≡◌, List, [], ◌∷◌, ◌++◌, map, flat_map, refl, ap}
use Rattle.guards_model.specs.Texts.{TextValue}
use Rattle.fault_script.specs.Entries.{fault_value}
use Rattle.fault_script.specs.declared.script.Fault.{Fault}
use Rattle.script_text.specs.ScriptTexts.{entry_text}

pub by_values : (entries : List Fault) →
    flat_map (λ entry. entry_text (fault_value entry)) entries ≡ flat_map entry_text (map fault_value entries)
by_values [] = refl
by_values (entry ∷ entries) = ap (λ (t : TextValue). entry_text (fault_value entry) ++ t) (by_values entries)
