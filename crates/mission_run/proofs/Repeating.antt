-- What `run` and `demo` answer and write is what any run of the mission over the scripted bus tells that came to its
-- end.
use Rattle.std.proofs.Common.{◌≡◌, ◌⊎◌, ◌-◌, inl, inr, ℕ, true, false, List, [], Option, None, ◌++◌, Some, refl, sym, ap, subst, ◌∙◌}
use Rattle.std.specs.List.{AllByRecursion, AllZip}
use Rattle.std.specs.Io.KnownBytes.{Appends}
use Rattle.guards_io.specs.Causes.{Rose}
use Rattle.guards_model.specs.declared.Slot.TheVariants.{Sweep}
use Rattle.guards_model.specs.BusRules.{RuleValue, lose}
use Rattle.guards_model.specs.Missions.{ActuatorValue, MissionValue, bus_rules}
use Rattle.guards_model.specs.Network.{EntryValue, Log, without_outputs, BusValue}
use Rattle.guards_model.specs.Rounds.{Histories}
use Rattle.guards_model.specs.ScriptedBus.{IsScripted}
use Rattle.guards_model.specs.Texts.{Part, TextValue, StopValue, stop_line, text_of_parts}
use Rattle.guards_model.proofs.Membership.{All-weaker}
use Rattle.guards_runs.specs.Cycles.{cycles_before, cycle_at}
use Rattle.guards_runs.specs.Due.{IsDue, carries_through}
use Rattle.guards_runs.specs.Promises.{IsRun}
use Rattle.guards_runs.specs.ActedReport.{stop_with}
use Rattle.guards_laws.proofs.LogGrows.{length-cycles_before}
use Rattle.script_laws.specs.Scripts.{ForgesNoSweep, StopsAt, IsScriptedRun}
use Rattle.script_laws.proofs.Reports.{stops_alike, parts_alike, reports_alike}
use Rattle.run_laws.specs.Runs.{HasCarried, shortened, with_unfinished}
use Rattle.run_laws.specs.Acting.{ActedToStop}
use Rattle.run_laws.specs.Driving.{CyclesRan, RunStopped}
use Rattle.run_laws.proofs.Ends.{short_untraced, text_untraced, this_stop, whole_stop}
use Rattle.run_laws.specs.ActedScripts.{IsActedRun, IsScriptedWith, StopsActing}
use Rattle.run_laws.proofs.ActedLogs.{acted_by}
use Rattle.run_laws.proofs.ActedEnds.{reports_alike as acted_reports_alike, run_parts_alike, stops_alike as acted_stops_alike}
use Rattle.run_laws.specs.Summaries.{summary}
use Rattle.run_laws.proofs.RunContinues.{due_by, each_due}
use Rattle.world_run.specs.Running.{stop_value, EndsWith}
use Rattle.guards_io.specs.Views.{SinkView, SourceView}
use Rattle.guards_io.specs.Writes.{WritesLine}
use Rattle.demo_mission.specs.Demo.{demo_mission}
use Rattle.demo_mission.proofs.IsDemo.{demo_rules_lose}
use Rattle.command_line.specs.declared.command.Command.{Command}
use Rattle.command_line.specs.declared.command.Command.TheVariants as command
use Rattle.mission_check.specs.declared.status.Status.{Status}
use Rattle.mission_check.specs.declared.status.Status.TheVariants.{Done, Usage, BadMission, TooLong, ReadFault, WriteFault, TooManyDisturbed, NoMemory, NotARun}
use Rattle.mission_check.specs.Reading.{RefusesBytes}
use Rattle.mission_run.specs.TopCall.{Outside, RunsMission, RunsMissionLast, RunsTold, RunsDemo, Serves, Outcome, DoesScript, status_of_end, text_or_stop, demo_text, told_report, TellsAsAny, RepeatsCommand, Repeats}
use Rattle.mission_check.proofs.MissionTold.{refused_for_memory, same_mission}
use Rattle.mission_run.proofs.ByCommand.{by_command}
use Rattle.mission_run.proofs.DemoTexts.{demo_texts_alike}

-- ---- a run that came to its end

-- with an actuator, what was made up to a stop is due
pub stopped_acting : (M : MissionValue) (a : ActuatorValue) (L : Log) (stop : StopValue) (histories : Histories) →
    ActedToStop M a stop.cycle stop L (without_outputs L) histories → StopsActing M (without_outputs L) L stop
stopped_acting M a L stop histories to =
    let past = cycles_before M (without_outputs L) stop.cycle in
    let e = cycle_at M (without_outputs L) stop.cycle in
    record {
      within = to.within;
      before = to.before;
      now = to.now;
      outs = to.outs;
      entries = to.entries;
      due = acted_by M histories past to.before to.acted;
      due_now = each_due M past e to.steps (carries_through stop.cycle e stop.slot) to.now to.due_now;
      due_outs = to.due_outs;
      unstopped = to.unstopped;
      stopped = to.stopped;
    }

module _ (may : List RuleValue → EntryValue → Type 0) (does : DoesScript may) (M : MissionValue) (bus bus' : BusValue)
    (L : Log) (histories : Histories) (ran : HasCarried may M bus bus' L) where
  pub scripted : AllByRecursion (IsScripted (bus_rules M)) L
  scripted = All-weaker (may (bus_rules M)) (IsScripted (bus_rules M)) L (does (bus_rules M)) ran.each

  whole_ends : (o : Option ActuatorValue) → CyclesRan o M M.cycles L histories → IsScriptedWith o M L
  whole_ends None cycles =
      let run : IsRun M L M.cycles =
      record { due = due_by M histories (cycles_before M L M.cycles) L cycles.due; unstopped = cycles.unstopped } in
      (scripted, inl run)
  whole_ends (Some a) cycles =
      let run : IsActedRun M (without_outputs L) L M.cycles =
      record {
        due = acted_by M histories (cycles_before M (without_outputs L) M.cycles) L cycles.acted;
        unstopped = cycles.unstopped;
      } in
      (scripted, inl run)

  stop_ends : (o : Option ActuatorValue) (stop : StopValue) → RunStopped o M stop.cycle stop L histories →
      IsScriptedWith o M L
  stop_ends None stop to =
      let past = cycles_before M L stop.cycle in
      let e = cycle_at M L stop.cycle in
      let now : AllZip (IsDue M past e) (carries_through stop.cycle e stop.slot) to.now =
      each_due M past e to.steps (carries_through stop.cycle e stop.slot) to.now to.due_now in
      let stopped : StopsAt M L stop =
      record {
        within = to.within;
        due = (
          to.before,
          to.now,
          to.entries,
          due_by M histories past to.before to.due,
          subst (λ c. AllZip (IsDue M past e) (carries_through c e stop.slot) to.now)
              (sym (length-cycles_before M L stop.cycle)) now,
        );
        unstopped = to.unstopped;
        stopped = to.stopped;
      } in
      (scripted, inr (stop, stopped))
  stop_ends (Some a) stop to = (scripted, inr (stop, stopped_acting M a L stop histories to))

-- ---- what is answered and written

-- two such runs have the same stop, or none
same_end : (o : Option ActuatorValue) (M : MissionValue) (L K : Log) → ForgesNoSweep (bus_rules M) →
    IsScriptedWith o M L → IsScriptedWith o M K → stop_with o M L ≡ stop_with o M K
same_end None M L K none run_l run_k = stops_alike M L K none run_l run_k
same_end (Some a) M L K none run_l run_k = acted_stops_alike M L K none run_l run_k

-- what a run that came to its end told, each other tells, where two such runs have the same text
module _ (may : List RuleValue → EntryValue → Type 0) (does : DoesScript may) (o : Option ActuatorValue)
    (M : MissionValue) (none : ForgesNoSweep (bus_rules M)) (text : MissionValue → Log → TextValue)
    (same_text : (L K : Log) → IsScriptedWith o M L → IsScriptedWith o M K → text M L ≡ text M K) (bus bus' : BusValue)
    (out out' : SinkView) where
  tells : (L : Log) (status : Status) → bus'.log ≡ bus.log ++ L → IsScriptedWith o M L →
      status ≡ status_of_end (stop_with o M L) →
      Appends out.written out'.written (text M L) → TellsAsAny o text M bus bus' out out' status
  tells L status grew run is wrote = (
    (L, grew, run),
    λ K run_k. (
      is ∙ ap status_of_end (same_end o M L K none run run_k),
      subst (Appends out.written out'.written) (same_text L K run run_k) wrote,
    ),
  )

  told_whole : (L : Log) (histories : Histories) → HasCarried may M bus bus' L → CyclesRan o M M.cycles L histories →
      Appends out.written out'.written (text M L) → TellsAsAny o text M bus bus' out out' Done
  told_whole L histories ran cycles wrote =
      tells L Done ran.log (whole_ends may does M bus bus' L histories ran o cycles)
      (sym (ap status_of_end (whole_stop M L histories o cycles))) wrote

  told_stop : (L : Log) (stop : StopValue) (histories : Histories) → HasCarried may M bus bus' L →
      RunStopped o M stop.cycle stop L histories → Appends out.written out'.written (text M L) →
      TellsAsAny o text M bus bus' out out' (TooManyDisturbed stop.cycle stop.slot stop.set stop.active)
  told_stop L stop histories ran to wrote =
      tells L (TooManyDisturbed stop.cycle stop.slot stop.set stop.active) ran.log
      (stop_ends may does M bus bus' L histories ran o stop to)
      (sym (ap status_of_end (this_stop M L histories o stop.cycle stop to))) wrote

-- two such runs have the same text
report_alike : (o : Option ActuatorValue) (last : Option ℕ) (M : MissionValue) (L K : Log) →
    ForgesNoSweep (bus_rules M) → IsScriptedWith o M L → IsScriptedWith o M K →
    told_report o last M L ≡ told_report o last M K
report_alike None None M L K none run_l run_k = reports_alike M L K none run_l run_k
report_alike (Some a) None M L K none run_l run_k = acted_reports_alike M L K none run_l run_k a
report_alike None (Some k) M L K none run_l run_k =
    ap (λ (parts : List Part). text_of_parts (shortened k parts)) (parts_alike M L K none run_l run_k)
report_alike (Some a) (Some k) M L K none run_l run_k =
    ap (λ (parts : List Part). text_of_parts (shortened k parts)) (run_parts_alike M L K none run_l run_k a)

module _ (may : List RuleValue → EntryValue → Type 0) (does : DoesScript may) (bus bus' : BusValue)
    (out out' : SinkView) (no_write : Rose out.faults out'.faults → ⊥) where
  -- ---- `run`

  module _ (M : MissionValue) (none : ForgesNoSweep (bus_rules M)) where
    abbrev o : Option ActuatorValue
    o = M.actuator

    report_ended : (before : TextValue) (stop : StopValue) → EndsWith out out' before (stop_line stop) →
        Appends out.written out'.written (before ++ stop_line stop)
    report_ended before stop (inl all) = all.0
    report_ended before stop (inr front) = absurd (no_write front.5)

    run_repeats : (status : Status) → RunsMission may false M bus bus' out out' status → (status ≡ NoMemory)
        ⊎ TellsAsAny o (told_report o None) M bus bus' out out' status
    run_repeats Done (L, histories, ran, cycles, wrote, quiet) =
        inr (told_whole may does o M none (told_report o None)
        (λ L K run_l run_k. report_alike o None M L K none run_l run_k) bus bus' out out' L histories ran cycles
        (subst (Appends out.written out'.written) (text_untraced M L histories o []) wrote))
    run_repeats (TooManyDisturbed cycle slot set active) (L, histories, before, ran, to, text, ends) =
        let stop = stop_value cycle slot set active in
        inr (told_stop may does o M none (told_report o None)
        (λ L K run_l run_k. report_alike o None M L K none run_l run_k) bus bus' out out' L stop histories ran to
        (subst (Appends out.written out'.written)
        (sym text ∙ text_untraced M L (with_unfinished (M.cycles - cycle) histories) o [])
        (report_ended before stop ends)))
    run_repeats NoMemory ran = inl refl
    run_repeats WriteFault ran = absurd (no_write ran.6)
    run_repeats (NotARun line) ran = absurd ran
    run_repeats Usage ran = absurd ran
    run_repeats (BadMission why) ran = absurd ran
    run_repeats TooLong ran = absurd ran
    run_repeats ReadFault ran = absurd ran

    -- ---- with the last k cycles alone

    module _ (k : ℕ) where
      abbrev short_report : MissionValue → Log → TextValue
      short_report M L = told_report o (Some k) M L

      short_alike : (L K : Log) → IsScriptedWith o M L → IsScriptedWith o M K → short_report M L ≡ short_report M K
      short_alike L K run_l run_k = report_alike o (Some k) M L K none run_l run_k

      line_ended : (text : TextValue) → WritesLine out out' text → Appends out.written out'.written text
      line_ended text (inl all) = all.0
      line_ended text (inr front) = absurd (no_write front.1)

      last_repeats : (status : Status) → RunsMissionLast may k false M bus bus' out out' status → (status ≡ NoMemory)
          ⊎ TellsAsAny o short_report M bus bus' out out' status
      last_repeats Done (L, histories, ran, cycles, wrote, quiet) =
          inr (told_whole may does o M none short_report short_alike bus bus' out out' L histories ran cycles
          (subst (Appends out.written out'.written) (short_untraced M L histories k o []) wrote))
      last_repeats (TooManyDisturbed cycle slot set active) (L, histories, before, ran, to, text, ends) =
          let stop = stop_value cycle slot set active in
          inr (told_stop may does o M none short_report short_alike bus bus' out out' L stop histories ran to
          (subst (Appends out.written out'.written)
          (sym text ∙ short_untraced M L (with_unfinished (M.cycles - cycle) histories) k o [])
          (line_ended (before ++ stop_line stop) ends)))
      last_repeats NoMemory ran = inl refl
      last_repeats WriteFault ran = absurd (no_write ran.5)
      last_repeats (NotARun line) ran = absurd ran
      last_repeats Usage ran = absurd ran
      last_repeats (BadMission why) ran = absurd ran
      last_repeats TooLong ran = absurd ran
      last_repeats ReadFault ran = absurd ran

    told_repeats : (last : Option ℕ) (status : Status) → RunsTold may last false M bus bus' out out' status →
        (status ≡ NoMemory) ⊎ TellsAsAny o (told_report o last) M bus bus' out out' status
    told_repeats None status ran = run_repeats status ran
    told_repeats (Some k) status ran = last_repeats k status ran

  -- ---- `demo`

  module _ (number : ℕ) where
    abbrev D : MissionValue
    D = demo_mission number

    forges_none : ForgesNoSweep (bus_rules D)
    forges_none = All-weaker (λ (rule : RuleValue). rule.act ≡ lose)
        (λ (rule : RuleValue). rule.slot ≡ Sweep → rule.act ≡ lose) (bus_rules D) (λ rule loses slot. loses)
        (demo_rules_lose number)

    demo_text_alike : (L K : Log) → IsScriptedRun D L → IsScriptedRun D K → demo_text number D L ≡ demo_text number D K
    demo_text_alike L K run_l run_k = demo_texts_alike number D forges_none L K run_l run_k

    line_written : (stop : StopValue) → WritesLine out out' (stop_line stop) →
        Appends out.written out'.written (stop_line stop)
    line_written stop (inl all) = all.0
    line_written stop (inr front) = absurd (no_write front.1)

    demo_repeats : (status : Status) → RunsDemo may number bus bus' out out' status → (status ≡ NoMemory)
        ⊎ TellsAsAny None (demo_text number) D bus bus' out out' status
    demo_repeats Done (L, histories, ran, cycles, wrote, quiet) =
        inr (told_whole may does None D forges_none (demo_text number) demo_text_alike bus bus' out out' L histories ran
        cycles
        (subst (Appends out.written out'.written) (sym (ap (text_or_stop (summary number D L)) cycles.unstopped))
        wrote))
    demo_repeats (TooManyDisturbed cycle slot set active) (L, histories, ran, to, line) =
        let stop = stop_value cycle slot set active in
        inr (told_stop may does None D forges_none (demo_text number) demo_text_alike bus bus' out out' L stop histories
        ran to
        (subst (Appends out.written out'.written)
        (sym (ap (text_or_stop (summary number D L)) (this_stop D L histories None stop.cycle stop to)))
        (line_written stop line)))
    demo_repeats NoMemory ran = inl refl
    demo_repeats WriteFault ran = absurd (no_write ran.5)
    demo_repeats (NotARun line) ran = absurd ran
    demo_repeats Usage ran = absurd ran
    demo_repeats (BadMission why) ran = absurd ran
    demo_repeats TooLong ran = absurd ran
    demo_repeats ReadFault ran = absurd ran

-- ---- the call

-- bytes that are a mission are refused for want of memory alone
pub refused_repeats : (src src' : SourceView) (out out' : SinkView) (status : Status) →
    RefusesBytes src src' out out' status → (status ≡ Done) ⊎ (status ≡ NoMemory) → status ≡ NoMemory
refused_repeats src src' out out' status refused (inl done) =
    absurd (subst (RefusesBytes src src' out out') done refused)
refused_repeats src src' out out' status refused (inr short) = short

module _ (may : List RuleValue → EntryValue → Type 0) (does : DoesScript may) (old new : Outside) where
  served : (asked : Command) (status : Status) → Serves may asked old new status → RepeatsCommand asked old new status
  served (command.Run false last) status (inl refused) = λ bytes M told within is none no_read no_write.
      inl (refused_repeats old.source new.source old.sink new.sink status refused.0
      (refused_for_memory old.source new.source old.sink new.sink status bytes M refused.0 told within is no_read))
  served (command.Run false last) status (inr ran) = λ bytes M told within is none no_read no_write.
      let same = same_mission old.source new.source ran.0 bytes ran.1 M ran.2 ran.3 told is in
      told_repeats may does old.bus new.bus old.sink new.sink no_write M none last status
      (subst (λ J. RunsTold may last false J old.bus new.bus old.sink new.sink status) same ran.4)
  served (command.Run true last) status ran = tt
  served command.Check status ran = tt
  served command.Audit status ran = tt
  served (command.Demo number) status (kept, ran) =
      λ no_write. demo_repeats may does old.bus new.bus old.sink new.sink no_write number status ran

short_repeats : (asked : Command) (old new : Outside) → RepeatsCommand asked old new NoMemory
short_repeats (command.Run false last) old new = λ bytes M told within is none no_read no_write. inl refl
short_repeats (command.Run true last) old new = tt
short_repeats command.Check old new = tt
short_repeats command.Audit old new = tt
short_repeats (command.Demo number) old new = λ no_write. inl refl

pub outcome_repeats : (may : List RuleValue → EntryValue → Type 0) (words : List (List ℕ)) (old new : Outside)
    (status : Status) → Outcome may words old new status → Repeats may words old new status
outcome_repeats may words old new status outcome = λ does.
    by_command may words old new (λ asked status. RepeatsCommand asked old new status) (served may does old new)
    (λ asked. short_repeats asked old new) status outcome
