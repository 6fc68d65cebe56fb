-- How a run ended. This project's own.
use Rattle.std.specs.Prelude.{◌≡◌, Option, None, Some, Result, Ok, Err}
use Rattle.guards_model.specs.Texts.{StopValue}
use Rattle.icn_world.specs.declared.world.Halt.{Halt}
use Rattle.icn_world.specs.declared.world.Halt.TheVariants as halt
use Rattle.world_run.specs.Running.{stop_value}

-- with its last cycle, by a stop, or for want of memory
abbrev pub EndsAs : {E : Type 0} → Result (Unit {0}) Halt → Result (Option StopValue) E → Type 0
EndsAs (Ok _) (Ok stop) = stop ≡ None
EndsAs (Err (halt.Disturbed cycle slot set active)) (Ok stop) = stop ≡ Some (stop_value cycle slot set active)
EndsAs (Err halt.NoMemory) (Ok stop) = ⊥
EndsAs (Ok _) (Err e) = ⊥
EndsAs (Err (halt.Disturbed cycle slot set active)) (Err e) = ⊥
EndsAs (Err halt.NoMemory) (Err e) = Unit {0}
