-- Runs with an actuator over a bus that does what the script says, up to their end. This project's own.
use Rattle.std.specs.Prelude.{◌≡◌, ◌<◌, ◌⊎◌, ◌&&◌, ◌==◌, ℕ, [], ◌∷◌, ◌++◌, filter, Option, Some, None}
use Rattle.std.specs.List.{AllByRecursion, AllZip}
use Rattle.guards_model.specs.declared.Slot.TheVariants.{Output}
use Rattle.guards_model.specs.Slots.{same_slot}
use Rattle.guards_model.specs.Missions.{ActuatorValue, MissionValue, bus_rules}
use Rattle.guards_model.specs.Network.{Log, without_outputs}
use Rattle.guards_model.specs.ScriptedBus.{IsScripted}
use Rattle.guards_model.specs.Texts.{StopValue}
use Rattle.guards_runs.specs.Cycles.{Past, this_cycle, cycles_before, cycle_at}
use Rattle.guards_runs.specs.Disturbed.{stop_in, first_of_two}
use Rattle.guards_runs.specs.Due.{IsDue, cycle_carries, carries_through}
use Rattle.guards_runs.specs.Outputs.{AreOutputsDue, acted_stop, output_stop}
use Rattle.script_laws.specs.Scripts.{IsScriptedRun}
use Rattle.run_laws.specs.Acting.{AreOutputsThrough}

-- the output entries of a cycle
abbrev pub outputs_of : ℕ → Log → Log
outputs_of c F = filter (λ y. y.cycle == c && same_slot y.slot Output) F

-- Some entries are the due ones of some cycles with their exchanges, the latest of which stands first: those of the
-- earlier cycles, one for each carry of the cycle's nine slots, in order, and those of its output slot.
abbrev pub AreActed : MissionValue → Past → Log → Type 0
AreActed M [] entries = entries ≡ []
AreActed M (e ∷ past) entries =
    (before now outs : Log) × (entries ≡ before ++ (now ++ outs)) × AreActed M past before
    × AllZip (IsDue M past e) (cycle_carries (this_cycle past) e) now
    × AreOutputsDue M.rules.version (this_cycle past) e outs

-- A run of n cycles with their exchanges: F has the due entries and no others, and it stopped nowhere, in no output
-- slot either. The facts of the cycles are those of L, which is F without output entries.
pub record IsActedRun (M : MissionValue) (L F : Log) (n : ℕ) : Type 0 where
  pub due : AreActed M (cycles_before M L n) F
  pub unstopped : acted_stop F (cycles_before M L n) ≡ None

-- A run stopped: the cycles before ran with their exchanges, and of its own cycle the entries are the due ones up to
-- the end of the slot that stopped it.
pub record StopsActing (M : MissionValue) (L F : Log) (stop : StopValue) : Type 0 where
  pub within : stop.cycle < M.cycles
  pub before : Log
  pub now : Log
  pub outs : Log
  pub entries : F ≡ before ++ (now ++ outs)
  pub due : AreActed M (cycles_before M L stop.cycle) before
  pub due_now : AllZip (IsDue M (cycles_before M L stop.cycle) (cycle_at M L stop.cycle))
      (carries_through stop.cycle (cycle_at M L stop.cycle) stop.slot) now
  pub due_outs : AreOutputsThrough stop.slot M.rules.version stop.cycle (cycle_at M L stop.cycle) outs
  pub unstopped : acted_stop F (cycles_before M L stop.cycle) ≡ None
  pub stopped : first_of_two (stop_in stop.cycle (cycle_at M L stop.cycle))
      (output_stop stop.cycle (cycle_at M L stop.cycle) F) ≡ Some stop

-- A run with an actuator over the scripted bus came to its end: all cycles ran, or it stopped.
abbrev pub IsScriptedActing : MissionValue → Log → Type 0
IsScriptedActing M F =
    AllByRecursion (IsScripted (bus_rules M)) F
    × (IsActedRun M (without_outputs F) F M.cycles ⊎ ((stop : StopValue) × StopsActing M (without_outputs F) F stop))

-- the same with an actuator or without one
abbrev pub IsScriptedWith : Option ActuatorValue → MissionValue → Log → Type 0
IsScriptedWith None M F = IsScriptedRun M F
IsScriptedWith (Some a) M F = IsScriptedActing M F
