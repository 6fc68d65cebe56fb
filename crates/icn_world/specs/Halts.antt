-- The value of a halt.
use Rattle.std.specs.Prelude.{Result, Ok, Err}
use Rattle.guards_world.specs.Worlds.{HaltValue, disturbed, no_memory}
use Rattle.icn_world.specs.declared.world.Halt.{Halt}
use Rattle.icn_world.specs.declared.world.Halt.TheVariants as halt

abbrev pub halt_value : Halt → HaltValue
halt_value (halt.Disturbed c slot set active) =
    disturbed (record { cycle = c; slot = slot; set = set; active = active })
halt_value halt.NoMemory = no_memory

-- an answer with the value of its halt
abbrev pub with_halt_value : {A : Type 0} → Result A Halt → Result A HaltValue
with_halt_value (Ok x) = Ok x
with_halt_value (Err h) = Err (halt_value h)
