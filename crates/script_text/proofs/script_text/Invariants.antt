use Rattle.std.proofs.Common.{◌≡◌, flat_map, take, string_bytes}
use Rattle.fault_script.specs.Entries.{fault_value}
use Rattle.script_text.specs.ScriptTexts.{entry_text}
use Rattle.script_text.proofs.script_text.Given as goal

abbrev pub invariant-loop-entry : goal.invariant-loop-entry
invariant-loop-entry l =
    string_bytes l.text ≡ flat_map (λ entry. entry_text (fault_value entry)) (take l.entry-index l.entries)
