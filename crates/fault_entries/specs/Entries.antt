-- What is known of entries that were read, and what the faults of a script mean.
use Rattle.std.specs.Prelude.{◌≡◌, ℕ, Bool, true, IsTrue, ◌&&◌, nat_le, List, length, Option, Some, None}
use Rattle.std.specs.List.{list_all}
use Rattle.guards_model.specs.Slots.{on_bus}
use Rattle.guards_model.specs.Words.{is_word}
use Rattle.guards_model.specs.Faults.{FaultValue, crash, restart, damage, bus}
use Rattle.guards_model.specs.Missions.{MissionValue, is_fault}
use Rattle.guards_model.specs.ScriptFaults.{ScriptFaultValue, too_many_entries, wrong_cycle, wrong_channel, wrong_block, wrong_word, wrong_receiver, long_piece}
use Rattle.fault_script.specs.declared.script.ScriptFault.{ScriptFault}
use Rattle.fault_script.specs.declared.script.ScriptFault.TheVariants as faults

-- a crash is in a slot of the cycle, and a damaged word takes a word
abbrev pub is_entry : FaultValue → Bool
is_entry (crash q c slot) = on_bus slot
is_entry (restart q c) = true
is_entry (damage q c block at value) = is_word value
is_entry (bus rule) = true

-- the script of a mission with these sizes
abbrev pub FitsSizes : ℕ → ℕ → ℕ → List FaultValue → Type 0
FitsSizes channels cycles blocks script =
    (M : MissionValue) → M.cycles ≡ cycles → M.rules.channels ≡ channels → M.rules.blocks ≡ blocks
    → IsTrue (nat_le (length script) 1024 && list_all (is_fault M) script)

-- the rule that is broken; none for want of memory
abbrev pub broken_rule : ScriptFault → Option ScriptFaultValue
broken_rule faults.TooMany = Some too_many_entries
broken_rule (faults.Cycle at) = Some (wrong_cycle at)
broken_rule (faults.Channel at) = Some (wrong_channel at)
broken_rule (faults.Block at) = Some (wrong_block at)
broken_rule (faults.Word at) = Some (wrong_word at)
broken_rule (faults.To at) = Some (wrong_receiver at)
broken_rule (faults.Long at) = Some (long_piece at)
broken_rule faults.Memory = None
