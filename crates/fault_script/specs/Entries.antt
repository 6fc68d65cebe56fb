-- What the entries of a fault script, its faults and the modes of channels mean.
use Rattle.std.specs.Prelude.{Bool, true, false, nat_lt, Option, Some, None, ◌≡◌, refl}
use Rattle.guards_model.specs.Faults.{FaultValue, crash, restart, damage, bus}
use Rattle.guards_model.specs.Slots.{slot_index}
use Rattle.guards_model.specs.Modes.{ModeValue, up, down, waiting, joining}
use Rattle.guards_model.specs.ScriptFaults.{ScriptFaultValue, too_many_entries, wrong_cycle, wrong_channel, wrong_block, wrong_word, wrong_receiver, long_piece}
use Rattle.guards_model.specs.declared.Mode.{Mode}
use Rattle.guards_model.specs.declared.Mode.TheVariants as modes
use Rattle.fault_script.specs.declared.script.Fault.{Fault}
use Rattle.fault_script.specs.declared.script.Fault.TheVariants as entries
use Rattle.fault_script.specs.declared.script.ScriptFault.{ScriptFault}
use Rattle.fault_script.specs.declared.script.ScriptFault.TheVariants as faults
use Rattle.fault_script.specs.declared.ledger.CountedMode.{CountedMode}
use Rattle.fault_script.specs.declared.ledger.CountedMode.TheVariants as counted

abbrev pub fault_value : Fault → FaultValue
fault_value (entries.Crash channel cycle slot) = crash channel cycle slot
fault_value (entries.Restart channel cycle) = restart channel cycle
fault_value (entries.Damage channel cycle block word value) = damage channel cycle block word value
fault_value (entries.Bus rule) = bus rule

-- whether an entry is for the bus
abbrev pub is_for_bus : FaultValue → Bool
is_for_bus (bus rule) = true
is_for_bus (crash q c slot) = false
is_for_bus (restart q c) = false
is_for_bus (damage q c block word value) = false

-- a crash is in a slot of a cycle, not in that of the actuator
abbrev pub is_in_cycle : FaultValue → Bool
is_in_cycle (crash q c slot) = nat_lt (slot_index slot) 9
is_in_cycle (restart q c) = true
is_in_cycle (damage q c block word value) = true
is_in_cycle (bus rule) = true

-- an answer names this fault, and want of memory names none
abbrev pub Breaks : ScriptFault → Option ScriptFaultValue → Type 0
Breaks faults.Memory fault = ⊥
Breaks faults.TooMany fault = fault ≡ Some too_many_entries
Breaks (faults.Cycle at) fault = fault ≡ Some (wrong_cycle at)
Breaks (faults.Channel at) fault = fault ≡ Some (wrong_channel at)
Breaks (faults.Block at) fault = fault ≡ Some (wrong_block at)
Breaks (faults.Word at) fault = fault ≡ Some (wrong_word at)
Breaks (faults.To at) fault = fault ≡ Some (wrong_receiver at)
Breaks (faults.Long at) fault = fault ≡ Some (long_piece at)

-- an answer is this fault, or that there is none
abbrev pub IsAnswer : Option ScriptFault → Option ScriptFaultValue → Type 0
IsAnswer None fault = fault ≡ None
IsAnswer (Some answer) fault = Breaks answer fault

abbrev pub counted_value : CountedMode → ModeValue
counted_value counted.Up = up
counted_value counted.Down = down
counted_value (counted.Waiting cycles) = waiting cycles
counted_value counted.Joining = joining

-- a mode as the ledger keeps it
abbrev pub counted_of : ModeValue → CountedMode
counted_of up = counted.Up
counted_of down = counted.Down
counted_of (waiting cycles) = counted.Waiting cycles
counted_of joining = counted.Joining

pub counted_back : (s : CountedMode) → counted_of (counted_value s) ≡ s
counted_back counted.Up = refl
counted_back counted.Down = refl
counted_back (counted.Waiting cycles) = refl
counted_back counted.Joining = refl

-- the mode without how long a channel waits
abbrev pub plain_mode : ModeValue → Mode
plain_mode up = modes.Up
plain_mode down = modes.Down
plain_mode (waiting cycles) = modes.Waiting
plain_mode joining = modes.Joining
