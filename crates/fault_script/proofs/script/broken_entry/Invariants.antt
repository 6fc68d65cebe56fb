use Rattle.std.proofs.Common.{◌≡◌, drop, map}
use Rattle.guards_model.specs.ScriptFaults.{entry_fault}
use Rattle.fault_script.specs.Entries.{fault_value}
use Rattle.fault_script.proofs.script.broken_entry.Given as goal

-- the entries that are left break the rule that all of them break first
abbrev pub invariant-loop-at : goal.invariant-loop-at
invariant-loop-at l =
    entry_fault l.sizes.channels l.sizes.cycles l.sizes.blocks l.at (map fault_value (drop l.at l.entries))
    ≡ entry_fault l.sizes.channels l.sizes.cycles l.sizes.blocks 0 (map fault_value l.entries)
