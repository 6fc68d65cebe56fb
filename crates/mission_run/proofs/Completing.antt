-- A command is carried out to its end, unless memory runs out, a fault comes or a slot stops the run.
use Rattle.std.proofs.Common.{◌≡◌, ◌≤◌, ◌⊎◌, inl, inr, ℕ, Bool, List, ◌++◌, length, Option, Some, None, Ok, refl, sym, ap, subst, ◌∙◌}
use Rattle.std.proofs.Math.Seq.{drop-append_seam}
use Rattle.std.specs.Prelude.{drop}
use Rattle.guards_io.specs.Causes.{Rose}
use Rattle.guards_model.specs.BusRules.{RuleValue}
use Rattle.guards_model.specs.Missions.{ActuatorValue, MissionValue}
use Rattle.guards_model.specs.Network.{EntryValue, Log, BusValue}
use Rattle.guards_model.specs.Rounds.{Histories}
use Rattle.guards_model.specs.Texts.{StopValue}
use Rattle.guards_runs.specs.Cycles.{cycles_before}
use Rattle.guards_runs.specs.Disturbed.{stop_of}
use Rattle.guards_runs.specs.ActedReport.{first_stop, stop_with}
use Rattle.run_laws.specs.Driving.{RunStopped}
use Rattle.run_laws.proofs.Ends.{this_stop}
use Rattle.demo_mission.specs.Demo.{demo_mission}
use Rattle.mission_text.specs.Mission.{mission_of}
use Rattle.guards_io.specs.Views.{SinkView}
use Rattle.check_text.specs.Check.{check_of}
use Rattle.command_line.specs.declared.command.Command.{Command}
use Rattle.command_line.specs.declared.command.Command.TheVariants as command
use Rattle.run_laws.specs.Runs.{HasCarried}
use Rattle.world_run.specs.Running.{stop_value}
use Rattle.mission_check.specs.declared.limit.TheConstants.{MAX_MISSION_BYTES}
use Rattle.mission_check.specs.declared.status.Status.{Status}
use Rattle.mission_check.specs.declared.status.Status.TheVariants.{Done, Usage, BadMission, TooLong, ReadFault, WriteFault, TooManyDisturbed, NoMemory, NotARun}
use Rattle.mission_check.specs.Reading.{OfMission, Tells}
use Rattle.mission_run.specs.TopCall.{Outside, RunsMission, RunsMissionLast, RunsTold, RunsDemo, Serves, Outcome, CompletesCommand, Completes}
use Rattle.mission_check.proofs.MissionTold.{refused_for_memory, same_mission, told_to_end}
use Rattle.mission_run.proofs.Audited.{audit_completes}
use Rattle.mission_run.proofs.ByCommand.{by_command}

-- the entries of a run are those that the log grew by
same_entries : (log K L : Log) → log ++ K ≡ log ++ L → K ≡ L
same_entries log K L h = sym (drop-append_seam log K) ∙ ap (drop (length log)) h ∙ drop-append_seam log L

module _ (may : List RuleValue → EntryValue → Type 0) (M : MissionValue) (bus bus' : BusValue) where
  -- a run whose entries stop in no cycle does not stop
  not_stopped : (o : Option ActuatorValue) (K L : Log) (stop : StopValue) (histories : Histories) →
      HasCarried may M bus bus' K → RunStopped o M stop.cycle stop K histories → bus'.log ≡ bus.log ++ L →
      stop_with o M L ≡ None → ⊥
  not_stopped o K L stop histories ran stopped grew goes_on =
      let same : K ≡ L = same_entries bus.log K L (sym ran.log ∙ grew) in
      let unstopped : stop_with o M K ≡ None = ap (stop_with o M) same ∙ goes_on in
      cc (sym unstopped ∙ this_stop M K histories o stop.cycle stop stopped)

  run_to_end : (trace : Bool) (out out' : SinkView) (status : Status) (L : Log) →
      RunsMission may trace M bus bus' out out' status → bus'.log ≡ bus.log ++ L → first_stop M L ≡ None →
      (Rose out.faults out'.faults → ⊥) → (status ≡ Done) ⊎ (status ≡ NoMemory)
  run_to_end trace out out' Done L ran grew goes_on no_write = inl refl
  run_to_end trace out out' NoMemory L ran grew goes_on no_write = inr refl
  run_to_end trace out out' WriteFault L ran grew goes_on no_write = absurd (no_write ran.6)
  run_to_end trace out out' (TooManyDisturbed cycle slot set active) L ran grew goes_on no_write =
      absurd (not_stopped M.actuator ran.0 L (stop_value cycle slot set active) ran.1 ran.3 ran.4 grew goes_on)
  run_to_end trace out out' (NotARun line) L ran grew goes_on no_write = absurd ran
  run_to_end trace out out' Usage L ran grew goes_on no_write = absurd ran
  run_to_end trace out out' (BadMission why) L ran grew goes_on no_write = absurd ran
  run_to_end trace out out' TooLong L ran grew goes_on no_write = absurd ran
  run_to_end trace out out' ReadFault L ran grew goes_on no_write = absurd ran

  last_to_end : (k : ℕ) (trace : Bool) (out out' : SinkView) (status : Status) (L : Log) →
      RunsMissionLast may k trace M bus bus' out out' status → bus'.log ≡ bus.log ++ L → first_stop M L ≡ None →
      (Rose out.faults out'.faults → ⊥) → (status ≡ Done) ⊎ (status ≡ NoMemory)
  last_to_end k trace out out' Done L ran grew goes_on no_write = inl refl
  last_to_end k trace out out' NoMemory L ran grew goes_on no_write = inr refl
  last_to_end k trace out out' WriteFault L ran grew goes_on no_write = absurd (no_write ran.5)
  last_to_end k trace out out' (TooManyDisturbed cycle slot set active) L ran grew goes_on no_write =
      absurd (not_stopped M.actuator ran.0 L (stop_value cycle slot set active) ran.1 ran.3 ran.4 grew goes_on)
  last_to_end k trace out out' (NotARun line) L ran grew goes_on no_write = absurd ran
  last_to_end k trace out out' Usage L ran grew goes_on no_write = absurd ran
  last_to_end k trace out out' (BadMission why) L ran grew goes_on no_write = absurd ran
  last_to_end k trace out out' TooLong L ran grew goes_on no_write = absurd ran
  last_to_end k trace out out' ReadFault L ran grew goes_on no_write = absurd ran

  told_to_its_end : (last : Option ℕ) (trace : Bool) (out out' : SinkView) (status : Status) (L : Log) →
      RunsTold may last trace M bus bus' out out' status → bus'.log ≡ bus.log ++ L → first_stop M L ≡ None →
      (Rose out.faults out'.faults → ⊥) → (status ≡ Done) ⊎ (status ≡ NoMemory)
  told_to_its_end None trace out out' status L ran grew goes_on no_write =
      run_to_end trace out out' status L ran grew goes_on no_write
  told_to_its_end (Some k) trace out out' status L ran grew goes_on no_write =
      last_to_end k trace out out' status L ran grew goes_on no_write

demo_to_end : (may : List RuleValue → EntryValue → Type 0) (number : ℕ) (bus bus' : BusValue) (out out' : SinkView)
    (status : Status) (L : Log) → RunsDemo may number bus bus' out out' status →
    bus'.log ≡ bus.log ++ L → stop_of (cycles_before (demo_mission number) L (demo_mission number).cycles) ≡ None →
    (Rose out.faults out'.faults → ⊥) → (status ≡ Done) ⊎ (status ≡ NoMemory)
demo_to_end may number bus bus' out out' Done L ran grew goes_on no_write = inl refl
demo_to_end may number bus bus' out out' NoMemory L ran grew goes_on no_write = inr refl
demo_to_end may number bus bus' out out' WriteFault L ran grew goes_on no_write = absurd (no_write ran.5)
demo_to_end may number bus bus' out out' (TooManyDisturbed cycle slot set active) L ran grew goes_on no_write =
    absurd (not_stopped may (demo_mission number) bus bus' None ran.0 L (stop_value cycle slot set active) ran.1 ran.2
    ran.3 grew goes_on)
demo_to_end may number bus bus' out out' (NotARun line) L ran grew goes_on no_write = absurd ran
demo_to_end may number bus bus' out out' Usage L ran grew goes_on no_write = absurd ran
demo_to_end may number bus bus' out out' (BadMission why) L ran grew goes_on no_write = absurd ran
demo_to_end may number bus bus' out out' TooLong L ran grew goes_on no_write = absurd ran
demo_to_end may number bus bus' out out' ReadFault L ran grew goes_on no_write = absurd ran

module _ (may : List RuleValue → EntryValue → Type 0) (old new : Outside) (status : Status) where
  served : (asked : Command) → Serves may asked old new status → CompletesCommand asked old new status
  served (command.Run trace last) (inl refused) = λ bytes M told within is L grew goes_on no_read no_write.
      refused_for_memory old.source new.source old.sink new.sink status bytes M refused.0 told within is no_read
  served (command.Run trace last) (inr ran) = λ bytes M told within is L grew goes_on no_read no_write.
      let same = same_mission old.source new.source ran.0 bytes ran.1 M ran.2 ran.3 told is in
      told_to_its_end may M old.bus new.bus last trace old.sink new.sink status L
      (subst (λ K. RunsTold may last trace K old.bus new.bus old.sink new.sink status) same ran.4) grew goes_on
      no_write
  served command.Check (went, kept) =
      λ bytes M told within is no_read no_write. by went bytes M told within is no_read no_write
    where
      by : OfMission (Unit {0}) (λ M. Tells (check_of M) old.sink new.sink status) old.source new.source old.sink
          new.sink status →
          (bytes : List ℕ) (M : MissionValue) → old.source.left ≡ Some bytes → length bytes ≤ MAX_MISSION_BYTES →
          mission_of bytes ≡ Ok M →
          (Rose old.source.faults new.source.faults → ⊥) → (Rose old.sink.faults new.sink.faults → ⊥) → (status ≡ Done)
          ⊎ (status ≡ NoMemory)
      by (inl refused) bytes M told within is no_read no_write =
          refused_for_memory old.source new.source old.sink new.sink status bytes M refused.0 told within is no_read
      by (inr ran) bytes M told within is no_read no_write =
          told_to_end (check_of ran.1) old.sink new.sink status ran.4 no_write
  served command.Audit (audits, kept) = audit_completes old.source new.source old.sink new.sink status audits
  served (command.Demo number) (kept, ran) =
      λ L grew goes_on no_read no_write.
      demo_to_end may number old.bus new.bus old.sink new.sink status L ran grew goes_on no_write

short_completes : (asked : Command) (old new : Outside) → CompletesCommand asked old new NoMemory
short_completes (command.Run trace last) old new = λ bytes M told within is L grew goes_on no_read no_write. inr refl
short_completes command.Check old new = λ bytes M told within is no_read no_write. inr refl
short_completes command.Audit old new = λ input M told within fits is no_read no_write. inr (inr refl)
short_completes (command.Demo number) old new = λ L grew goes_on no_read no_write. inr refl

pub outcome_completes : (may : List RuleValue → EntryValue → Type 0) (words : List (List ℕ)) (old new : Outside)
    (status : Status) → Outcome may words old new status → Completes words old new status
outcome_completes may words old new status outcome =
    by_command may words old new (λ asked status. CompletesCommand asked old new status)
    (λ asked status. served may old new status asked) (λ asked. short_completes asked old new) status outcome
