-- A run over a bus whose rules were just loaded is a run from before.
use Rattle.std.proofs.Common.{◌≡◌, ◌++◌, inr, ℕ, Bool, true, false, List, [], Option, Some, None, Result, Ok, Err, refl, ap, ◌∙◌}
use Rattle.std.specs.Prelude.{OnOk, OnErr, is_err, option_map}
use Rattle.guards_model.specs.BusRules.{RuleValue}
use Rattle.guards_model.specs.Missions.{MissionValue, IsMission, bus_rules}
use Rattle.guards_model.specs.Network.{EntryValue, Log, BusValue}
use Rattle.demo_mission.specs.Demo.{demo_mission}
use Rattle.guards_io.specs.Views.{SinkView}
use Rattle.guards_io.specs.declared.writing.WriteStop.TheVariants as write
use Rattle.run_laws.specs.Runs.{HasCarried}
use Rattle.run_laws.proofs.RunPassed.{begins, ran_short}
use Rattle.guards_world.specs.Worlds.{first_world}
use Rattle.run_laws.specs.Driving.{first_gate}
use Rattle.run_laws.proofs.Driving.{mission_begins}
use Rattle.icn_world.specs.declared.world.Halt.TheVariants as halt
use Rattle.world_run.specs.declared.stop.RunStop.{RunStop}
use Rattle.world_run.specs.declared.stop.RunStop.TheVariants as stop
use Rattle.world_run.specs.Running.{Runs}
use Rattle.world_run.specs.Keeping.{RunsLast}
use Rattle.world_run.specs.Tallying.{Summarizes}
use Rattle.world_run.proofs.Keepings.{not_begun as not_begun_last}
use Rattle.world_run.proofs.RunSteps.{head_done}
use Rattle.mission_run.specs.TopCall.{RunsMission, RunsMissionLast, RunsBy, RunsTold, RunsDemo, status_of}

-- what holds of an answer that is no error
pub of_ok : {T E P : Type 0} (r : Result T E) → OnOk r P → is_err r ≡ false → P
of_ok (Ok _) h k = h
of_ok (Err _) h k = absurd cc

pub of_err : {T E P : Type 0} (r : Result T E) → OnErr r P → is_err r ≡ true → P
of_err (Ok _) h k = absurd cc
of_err (Err _) h k = h

module _ (may : List RuleValue → EntryValue → Type 0) (M : MissionValue) (bus loaded : BusValue)
    (same : loaded.log ≡ bus.log) where
  moved : (after : BusValue) (L : Log) → HasCarried may M loaded after L → HasCarried may M bus after L
  moved after L ran = record { log = ran.log ∙ ap (λ log. log ++ L) same; script = ran.script; each = ran.each }

  pub run_from : (trace : Bool) (after : BusValue) (out out' : SinkView) (r : Result (Unit {0}) RunStop) →
      Runs may trace M M.actuator loaded after out out' r → RunsMission may trace M bus after out out' (status_of r)
  run_from trace after out out' (Ok _) r = (r.0, r.1, moved after r.0 r.2, r.3, r.4, r.5)
  run_from trace after out out' (Err (stop.Halted (halt.Disturbed cycle slot set active))) r =
      (r.0, r.1, r.2, moved after r.0 r.3, r.4, r.5, r.6)
  run_from trace after out out' (Err stop.WriteFault) r = (r.0, r.1, r.2, moved after r.0 r.3, r.4, r.5, r.6)
  run_from trace after out out' (Err (stop.Halted halt.NoMemory)) r =
      inr (r.0, r.1, r.2, moved after r.0 r.3, r.4, r.5, r.6)

  pub last_from : (k : ℕ) (trace : Bool) (after : BusValue) (out out' : SinkView) (r : Result (Unit {0}) RunStop) →
      RunsLast may k trace M M.actuator loaded after out out' r →
      RunsMissionLast may k trace M bus after out out' (status_of r)
  last_from k trace after out out' (Ok _) r = (r.0, r.1, moved after r.0 r.2, r.3, r.4, r.5)
  last_from k trace after out out' (Err (stop.Halted (halt.Disturbed cycle slot set active))) r =
      (r.0, r.1, r.2, moved after r.0 r.3, r.4, r.5, r.6)
  last_from k trace after out out' (Err stop.WriteFault) r = (r.0, r.1, moved after r.0 r.2, r.3, r.4, r.5)
  last_from k trace after out out' (Err (stop.Halted halt.NoMemory)) r =
      inr (r.0, r.1, r.2, moved after r.0 r.3, r.4, r.5)

  pub told_from : (last : Option ℕ) (trace : Bool) (after : BusValue) (out out' : SinkView)
      (r : Result (Unit {0}) RunStop) → RunsBy may last trace M loaded after out out' r →
      RunsTold may last trace M bus after out out' (status_of r)
  told_from None trace after out out' r ran = run_from trace after out out' r ran
  told_from (Some k) trace after out out' r ran = last_from k trace after out out' r ran

  -- memory for the world was wanting
  pub run_not_begun : (last : Option ℕ) (trace : Bool) (out : SinkView) → IsMission M → loaded.script ≡ bus_rules M →
      RunsTold may last trace M bus loaded out out (status_of (Err (stop.Halted halt.NoMemory)))
  run_not_begun (Some k) trace out mission script =
      last_from k trace loaded out out (Err (stop.Halted halt.NoMemory))
      (not_begun_last may k trace M M.actuator loaded out (option_map first_gate M.actuator)
      (mission_begins may M loaded mission script))
  run_not_begun None trace out mission script =
      run_from trace loaded out out (Err (stop.Halted halt.NoMemory))
      (head_done may trace M M.actuator loaded out out (option_map first_gate M.actuator)
      (mission_begins may M loaded mission script) (Err write.Memory) refl)

  summarized_from : (number : ℕ) (after : BusValue) (out out' : SinkView) (r : Result (Unit {0}) RunStop) →
      Summarizes may number M loaded after out out' r → Summarizes may number M bus after out out' r
  summarized_from number after out out' (Ok _) r = (r.0, r.1, moved after r.0 r.2, r.3, r.4, r.5)
  summarized_from number after out out' (Err (stop.Halted (halt.Disturbed cycle slot set active))) r =
      (r.0, r.1, moved after r.0 r.2, r.3, r.4)
  summarized_from number after out out' (Err stop.WriteFault) r = (r.0, r.1, moved after r.0 r.2, r.3, r.4, r.5)
  summarized_from number after out out' (Err (stop.Halted halt.NoMemory)) r =
      (r.0, r.1, r.2, moved after r.0 r.3, r.4, r.5)

  not_begun : (number : ℕ) (out : SinkView) → IsMission M → loaded.script ≡ bus_rules M →
      Summarizes may number M bus loaded out out (Err (stop.Halted halt.NoMemory))
  not_begun number out mission script =
      summarized_from number loaded out out (Err (stop.Halted halt.NoMemory)) (
        [],
        [],
        0,
        (begins may M loaded mission script).ran,
        ran_short may loaded loaded (first_world M) [] [] [] M (begins may M loaded mission script),
        refl,
      )

module _ (may : List RuleValue → EntryValue → Type 0) (number : ℕ) (bus loaded : BusValue)
    (same : loaded.log ≡ bus.log) where
  pub demo_from : (after : BusValue) (out out' : SinkView) (r : Result (Unit {0}) RunStop) →
      Summarizes may number (demo_mission number) loaded after out out' r →
      RunsDemo may number bus after out out' (status_of r)
  demo_from after out out' (Ok tt) ran =
      summarized_from may (demo_mission number) bus loaded same number after out out' (Ok tt) ran
  demo_from after out out' (Err (stop.Halted (halt.Disturbed cycle slot set active))) ran =
      summarized_from may (demo_mission number) bus loaded same number after out out'
      (Err (stop.Halted (halt.Disturbed cycle slot set active))) ran
  demo_from after out out' (Err stop.WriteFault) ran =
      summarized_from may (demo_mission number) bus loaded same number after out out' (Err stop.WriteFault) ran
  demo_from after out out' (Err (stop.Halted halt.NoMemory)) ran =
      inr (summarized_from may (demo_mission number) bus loaded same number after out out'
      (Err (stop.Halted halt.NoMemory)) ran)

  pub demo_not_begun : (out : SinkView) → IsMission (demo_mission number) →
      loaded.script ≡ bus_rules (demo_mission number) →
      RunsDemo may number bus loaded out out (status_of (Err (stop.Halted halt.NoMemory)))
  demo_not_begun out mission script =
      inr (not_begun may (demo_mission number) bus loaded same number out mission script)
