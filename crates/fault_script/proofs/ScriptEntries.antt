-- One more entry of the script, on the side where it belongs.
use Rattle.std.proofs.Common.{◌≡◌, not, List, [], ◌∷◌, ◌++◌, map, filter, filter_map, ap, ◌∙◌}
use Rattle.std.proofs.lemmas.List.{map-append}
use Rattle.std.proofs.lemmas.List.Elements.{filter_map-append, filter-append}
use Rattle.guards_model.specs.Faults.{FaultValue}
use Rattle.guards_model.specs.Missions.{bus_rule}
use Rattle.fault_script.specs.Entries.{fault_value, is_for_bus}
use Rattle.fault_script.specs.declared.script.Fault.{Fault}

pub one_more_rule : (entries : List Fault) (entry : Fault)
    → filter_map bus_rule (map fault_value (entries ++ entry ∷ []))
    ≡ filter_map bus_rule (map fault_value entries) ++ filter_map bus_rule (fault_value entry ∷ [])
one_more_rule entries entry =
    ap (filter_map bus_rule) (map-append fault_value entries (entry ∷ []))
    ∙ filter_map-append bus_rule (map fault_value entries) (fault_value entry ∷ [])

pub one_more_other : (entries : List Fault) (entry : Fault)
    → filter (λ (e : FaultValue). not (is_for_bus e)) (map fault_value (entries ++ entry ∷ []))
    ≡ filter (λ (e : FaultValue). not (is_for_bus e)) (map fault_value entries)
    ++ filter (λ (e : FaultValue). not (is_for_bus e)) (fault_value entry ∷ [])
one_more_other entries entry =
    ap (filter (λ (e : FaultValue). not (is_for_bus e))) (map-append fault_value entries (entry ∷ []))
    ∙ filter-append (λ (e : FaultValue). not (is_for_bus e)) (map fault_value entries) (fault_value entry ∷ [])
