-- A mission without faults is run to its end, and its report is the ideal machine's.
use Rattle.std.proofs.Common.{◌≡◌, ◌≤◌, ◌⊎◌, ◌++◌, inl, inr, ℕ, Bool, true, false, cond, List, [], ◌∷◌, Option, None, Some, refl, sym, ap, subst, ◌∙◌, arith, append-nil}
use Rattle.std.specs.Prelude.{find, option_map, if◌then◌else◌}
use Rattle.std.specs.List.{AllByRecursion, list_all}
use Rattle.std.specs.Io.KnownBytes.{Appends}
use Rattle.guards_io.specs.Causes.{Rose}
use Rattle.guards_model.specs.declared.Slot.{Slot}
use Rattle.guards_model.specs.declared.Slot.TheVariants.{Output, Switch}
use Rattle.guards_model.specs.Slots.{every_slot, on_bus}
use Rattle.guards_model.specs.BusRules.{RuleValue}
use Rattle.guards_model.specs.Missions.{ActuatorValue, MissionValue, IsMission, bus_rules}
use Rattle.guards_model.specs.Network.{EntryValue, Log, without_outputs, BusValue}
use Rattle.guards_model.specs.Rounds.{Histories}
use Rattle.guards_model.specs.ScriptedBus.{IsScripted}
use Rattle.guards_model.specs.Texts.{Part, StopValue, done_line, head_line, text_of_parts}
use Rattle.guards_model.proofs.BoolTests.{both}
use Rattle.guards_runs.specs.Cycles.{Cycle, Past, cycles_before, cycle_at}
use Rattle.guards_runs.specs.Disturbed.{disturbed_channels, first_of_two, halts, stop_in}
use Rattle.guards_runs.specs.Outputs.{output_disturbed, output_halts, output_stop}
use Rattle.guards_laws.proofs.Unsent.{All-filter}
use Rattle.guards_runs.specs.Faultless.{IsFaultless, HasDue}
use Rattle.guards_laws.proofs.LogGrows.{length-cycles_before}
use Rattle.guards_laws.proofs.NoFaults.{faultless_slots}
use Rattle.script_laws.proofs.IdealReports.{report_is}
use Rattle.guards_io.specs.Views.{SinkView}
use Rattle.mission_laws.proofs.WholeMission.{read_missions}
use Rattle.run_laws.specs.Runs.{HasCarried, HasRunCycles}
use Rattle.run_laws.specs.Acting.{ActedCycles}
use Rattle.run_laws.specs.Driving.{CyclesRan, RunStopped, told_text}
use Rattle.run_laws.proofs.Ends.{text_whole}
use Rattle.run_laws.proofs.DrivenTold.{untraced_acted}
use Rattle.run_laws.specs.ActedScripts.{StopsActing}
use Rattle.run_laws.proofs.ActedLogs.{acted_by, acted_due, stop_due}
use Rattle.script_laws.proofs.OutputCharges.{uncharged_stop}
use Rattle.script_laws.specs.ActedIdeal.{ideal_report_with}
use Rattle.script_laws.proofs.ActedIdeals.{none_charged, whole_is}
use Rattle.run_laws.proofs.RunContinues.{due_by, each_due, from_through}
use Rattle.world_run.specs.Running.{stop_value}
use Rattle.command_line.specs.declared.command.Command.{Command}
use Rattle.command_line.specs.declared.command.Command.TheVariants as command
use Rattle.mission_check.specs.declared.status.Status.{Status}
use Rattle.mission_check.specs.declared.status.Status.TheVariants.{Done, Usage, BadMission, TooLong, ReadFault, WriteFault, TooManyDisturbed, NoMemory, NotARun}
use Rattle.mission_run.specs.TopCall.{Outside, RunsMission, RunsMissionLast, RunsTold, Serves, Outcome, DoesScript, HasNoFaults, TellsIdeal, RunsIdeal, EndsWell}
use Rattle.mission_check.proofs.MissionTold.{refused_for_memory, same_mission}
use Rattle.mission_run.proofs.ByCommand.{by_command}
use Rattle.mission_run.proofs.Repeating.{scripted, stopped_acting, refused_repeats}

-- ---- no slot stops the run

none_found : (p : Slot → Bool) (slots : List Slot) → list_all on_bus slots ≡ true →
    ((slot : Slot) → on_bus slot ≡ true → p slot ≡ false) → find p slots ≡ None
none_found p [] all h = refl
none_found p (x ∷ slots) all h =
    let parts = both (on_bus x) (list_all on_bus slots) all in
    ap (λ b. cond b (Some x) (find p slots)) (h x parts.0) ∙ none_found p slots parts.1 h

-- a cycle that no slot halts has no stop
no_stop : (c : ℕ) (e : Cycle) → ((slot : Slot) → on_bus slot ≡ true → halts c e slot ≡ false) → stop_in c e ≡ None
no_stop c e goes_on =
    let stop_at : Slot → StopValue =
    λ slot. record { cycle = c; slot = slot; set = disturbed_channels c e slot; active = e.active } in
    ap (option_map stop_at) (none_found (halts c e) every_slot refl goes_on)

none_is_some : {x : StopValue} → None ≡ Some x → ⊥
none_is_some h = cc

module _ (may : List RuleValue → EntryValue → Type 0) (does : DoesScript may) (M : MissionValue) (mission : IsMission M)
    (none : HasNoFaults M) (bus bus' : BusValue) where
  script_of : (L : Log) (histories : Histories) → HasCarried may M bus bus' L →
      AllByRecursion (IsScripted (bus_rules M)) L
  script_of L histories ran = scripted may does M bus bus' L histories ran

  faultless : (L : Log) (histories : Histories) → HasCarried may M bus bus' L → IsFaultless M L
  faultless L histories ran = record { harmless = none; scripted = script_of L histories ran }

  -- the entries of the nine slots alone
  nine_faultless : (L : Log) (histories : Histories) → HasCarried may M bus bus' L → IsFaultless M (without_outputs L)
  nine_faultless L histories ran =
      record {
        harmless = none;
        scripted = All-filter (IsScripted (bus_rules M)) (λ (y : EntryValue). on_bus y.slot) L
            (script_of L histories ran);
      }

  has_due : (L : Log) (histories : Histories) → HasRunCycles M M.cycles L histories → HasDue M L M.cycles
  has_due L histories cycles = record {
    before = L;
    later = [];
    entries = sym (append-nil L);
    after = tt;
    due = due_by M histories (cycles_before M L M.cycles) L cycles.due;
  }

  acted_has_due : (a : ActuatorValue) (L : Log) (histories : Histories) →
      ActedCycles M a M.cycles L (without_outputs L) histories → HasDue M (without_outputs L) M.cycles
  acted_has_due a L histories cycles = record {
    before = without_outputs L;
    later = [];
    entries = sym (append-nil (without_outputs L));
    after = tt;
    due = acted_due M (cycles_before M (without_outputs L) M.cycles) L
        (acted_by M histories (cycles_before M (without_outputs L) M.cycles) L cycles.acted);
  }

  -- no slot of the next cycle stops it
  nine_unstopped : (L : Log) (n : ℕ) → n ≤ M.cycles → IsFaultless M L → HasDue M L n → (slot : Slot) →
      on_bus slot ≡ true → halts n (cycle_at M L n) slot ≡ false
  nine_unstopped L n early calm due slot on =
      subst (λ c. halts c (cycle_at M L n) slot ≡ false) (length-cycles_before M L n)
      (faultless_slots M L n slot mission early calm due on)

  not_stopped : (o : Option ActuatorValue) (L : Log) (stop : StopValue) (histories : Histories) →
      HasCarried may M bus bus' L → RunStopped o M stop.cycle stop L histories → ⊥
  not_stopped None L stop histories ran to =
      let n = stop.cycle in
      let past : Past = cycles_before M L n in
      let e = cycle_at M L n in
      let due : HasDue M L n =
      record {
        before = to.before;
        later = to.now;
        entries = to.entries;
        after = from_through M past e n stop.slot to.now (each_due M past e to.steps _ to.now to.due_now);
        due = due_by M histories past to.before to.due;
      } in
      none_is_some (sym (no_stop n e (nine_unstopped L n (omega (arith, to.within)) (faultless L histories ran) due))
      ∙ to.stopped)
  not_stopped (Some a) L stop histories ran to =
      let n = stop.cycle in
      let K = without_outputs L in
      let e = cycle_at M K n in
      let s : StopsActing M K L stop = stopped_acting M a L stop histories to in
      let calm : (slot : Slot) → on_bus slot ≡ true →
      halts n e slot ≡ false = nine_unstopped K n (omega (arith, to.within)) (nine_faultless L histories ran)
      (stop_due M L K refl stop s) in
      let nine : stop_in n e ≡ None = no_stop n e calm in
      let tenth : output_halts n e L ≡ false =
      uncharged_stop n e L (λ q. none_charged M L n q none (script_of L histories ran)) ∙ calm Switch refl in
      let out : output_stop n e L ≡ None =
      ap (λ b. if b then Some (record { cycle = n; slot = Output; set = output_disturbed n e L; active = e.active })
      else None) tenth in
      none_is_some (sym (ap (λ o. first_of_two o (output_stop n e L)) nine ∙ out) ∙ to.stopped)

  -- ---- what is written

  module _ (out out' : SinkView) where
    -- the text of a whole run, with an actuator or without one
    text_is : (o : Option ActuatorValue) (L : Log) (histories : Histories) → HasCarried may M bus bus' L →
        CyclesRan o M M.cycles L histories → told_text o false M L histories ≡ ideal_report_with o M
    text_is None L histories ran cycles = report_is M L mission (faultless L histories ran) (has_due L histories cycles)
    text_is (Some a) L histories ran cycles =
        let K = without_outputs L in
        text_whole M L histories false (Some a) cycles
        ∙ ap (λ (parts : List Part). text_of_parts ((head_line M.rules.channels M.cycles ∷ []) ∷ parts)
        ++ done_line M.cycles) (untraced_acted M a L histories [] (cycles_before M K M.cycles))
        ∙ whole_is M a L K mission (nine_faultless L histories ran) cycles.ideal (acted_has_due a L histories cycles)

    tells_ideal : (trace : Bool) (L : Log) (histories : Histories) → HasCarried may M bus bus' L →
        CyclesRan M.actuator M M.cycles L histories →
        Appends out.written out'.written (told_text M.actuator trace M L histories) →
        TellsIdeal None trace M out out'
    tells_ideal true L histories ran cycles wrote = tt
    tells_ideal false L histories ran cycles wrote =
        subst (Appends out.written out'.written) (text_is M.actuator L histories ran cycles) wrote

    run_is_ideal : (trace : Bool) (status : Status) → RunsMission may trace M bus bus' out out' status →
        (Rose out.faults out'.faults → ⊥) → (status ≡ NoMemory) ⊎ ((status ≡ Done) × TellsIdeal None trace M out out')
    run_is_ideal trace Done (L, histories, ran, cycles, wrote, quiet) no_write =
        inr (refl, tells_ideal trace L histories ran cycles wrote)
    run_is_ideal trace NoMemory ran no_write = inl refl
    run_is_ideal trace WriteFault ran no_write = absurd (no_write ran.6)
    run_is_ideal trace (TooManyDisturbed cycle slot set active) ran no_write =
        absurd (not_stopped M.actuator ran.0 (stop_value cycle slot set active) ran.1 ran.3 ran.4)
    run_is_ideal trace (NotARun line) ran no_write = absurd ran
    run_is_ideal trace Usage ran no_write = absurd ran
    run_is_ideal trace (BadMission why) ran no_write = absurd ran
    run_is_ideal trace TooLong ran no_write = absurd ran
    run_is_ideal trace ReadFault ran no_write = absurd ran

    last_is_ideal : (k : ℕ) (trace : Bool) (status : Status) → RunsMissionLast may k trace M bus bus' out out' status →
        (Rose out.faults out'.faults → ⊥) → (status ≡ NoMemory)
        ⊎ ((status ≡ Done) × TellsIdeal (Some k) trace M out out')
    last_is_ideal k trace Done ran no_write = inr (refl, tt)
    last_is_ideal k trace NoMemory ran no_write = inl refl
    last_is_ideal k trace WriteFault ran no_write = absurd (no_write ran.5)
    last_is_ideal k trace (TooManyDisturbed cycle slot set active) ran no_write =
        absurd (not_stopped M.actuator ran.0 (stop_value cycle slot set active) ran.1 ran.3 ran.4)
    last_is_ideal k trace (NotARun line) ran no_write = absurd ran
    last_is_ideal k trace Usage ran no_write = absurd ran
    last_is_ideal k trace (BadMission why) ran no_write = absurd ran
    last_is_ideal k trace TooLong ran no_write = absurd ran
    last_is_ideal k trace ReadFault ran no_write = absurd ran

    told_is_ideal : (last : Option ℕ) (trace : Bool) (status : Status) →
        RunsTold may last trace M bus bus' out out' status → (Rose out.faults out'.faults → ⊥) → (status ≡ NoMemory)
        ⊎ ((status ≡ Done) × TellsIdeal last trace M out out')
    told_is_ideal None trace status ran no_write = run_is_ideal trace status ran no_write
    told_is_ideal (Some k) trace status ran no_write = last_is_ideal k trace status ran no_write

-- ---- the call

-- what the call does where it is `run`
abbrev Ideal : Outside → Outside → Command → Status → Type 0
Ideal old new (command.Run trace last) status = RunsIdeal last trace old new status
Ideal old new command.Check status = Unit {0}
Ideal old new command.Audit status = Unit {0}
Ideal old new (command.Demo number) status = Unit {0}

module _ (may : List RuleValue → EntryValue → Type 0) (does : DoesScript may) (old new : Outside) where
  served : (asked : Command) (status : Status) → Serves may asked old new status → Ideal old new asked status
  served (command.Run trace last) status (inl refused) = λ bytes M told within is none no_read no_write.
      inl (refused_repeats old.source new.source old.sink new.sink status refused.0
      (refused_for_memory old.source new.source old.sink new.sink status bytes M refused.0 told within is no_read))
  served (command.Run trace last) status (inr ran) = λ bytes M told within is none no_read no_write.
      let same = same_mission old.source new.source ran.0 bytes ran.1 M ran.2 ran.3 told is in
      told_is_ideal may does M (read_missions bytes M is) none old.bus new.bus old.sink new.sink last trace status
      (subst (λ J. RunsTold may last trace J old.bus new.bus old.sink new.sink status) same ran.4) no_write
  served command.Check status ran = tt
  served command.Audit status ran = tt
  served (command.Demo number) status ran = tt

short_of_memory : (asked : Command) (old new : Outside) → Ideal old new asked NoMemory
short_of_memory (command.Run trace last) old new = λ bytes M told within is none no_read no_write. inl refl
short_of_memory command.Check old new = tt
short_of_memory command.Audit old new = tt
short_of_memory (command.Demo number) old new = tt

pub outcome_ends_well : (may : List RuleValue → EntryValue → Type 0) (words : List (List ℕ)) (old new : Outside)
    (status : Status) → Outcome may words old new status → EndsWell may words old new status
outcome_ends_well may words old new status outcome = λ does trace last is.
    by_command may words old new (Ideal old new) (served may does old new) (λ asked. short_of_memory asked old new)
    status outcome (command.Run trace last) is
