use Rattle.std.proofs.Common.{◌≡◌, map, filter, filter_map, not}
use Rattle.guards_model.specs.Missions.{bus_rule}
use Rattle.fault_script.specs.Entries.{fault_value, is_for_bus}
use Rattle.fault_script.proofs.script.parted.Given as goal

abbrev pub invariant-loop-entry : goal.invariant-loop-entry
invariant-loop-entry l =
    (l.rules.items ≡ filter_map bus_rule (map fault_value l.yielded))
    × (map fault_value l.others.items ≡ filter (λ entry. not (is_for_bus entry)) (map fault_value l.yielded))
