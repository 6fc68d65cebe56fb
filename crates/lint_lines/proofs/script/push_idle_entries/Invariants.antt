use Rattle.std.proofs.Common.{◌≡◌, ◌++◌, take}
use Rattle.std.specs.Prelude.{flat_map}
use Rattle.fault_script.specs.Entries.{fault_value}
use Rattle.lint_lines.specs.ScriptLines.{idle_entry}
use Rattle.lint_lines.proofs.script.push_idle_entries.Given as goal

abbrev pub invariant-loop-entry : goal.invariant-loop-entry
invariant-loop-entry l = l.lines.items
    ≡ l.initial.lines.items ++ flat_map (λ entry. idle_entry l.script (fault_value entry))
    (take l.entry-index l.entries)
