-- What one more cycle does to what is kept of a run, and what is told of it in the end.
use Rattle.std.proofs.Common.{◌≡◌, ◌≤◌, ◌-◌, ℕ, suc, Bool, List, [], ◌∷◌, ◌++◌, length, map, drop, Option, Some, None, Result, Ok, Err, refl, sym, ap, subst, ◌∙◌, arith}
use Rattle.std.specs.Prelude.{flat_map}
use Rattle.std.specs.Io.KnownBytes.{Appends}
use Rattle.std.proofs.lemmas.List.{map-append}
use Rattle.circular_buffer.specs.Buffer.{keep_last}
use Rattle.flight_log.specs.Kept.{Kept, kept}
use Rattle.flight_log.proofs.LastKept.{kept_again}
use Rattle.guards_model.specs.BusRules.{RuleValue}
use Rattle.guards_model.specs.Missions.{ActuatorValue, MissionValue}
use Rattle.guards_model.specs.Records.{shown}
use Rattle.guards_model.specs.Network.{EntryValue, Log, BusValue}
use Rattle.guards_model.specs.Rounds.{Histories}
use Rattle.guards_model.specs.Texts.{TextValue, Part, RecordValue, StopValue, part_text, cycle_part, stop_line}
use Rattle.guards_world.specs.Worlds.{WorldValue, first_world}
use Rattle.guards_runs.specs.IdealReport.{head, last}
use Rattle.guards_io.specs.Writes.{AppendsPart, Puts, WritesLine}
use Rattle.guards_io.specs.Views.{SinkView}
use Rattle.guards_io.specs.declared.writing.WriteStop.{WriteStop}
use Rattle.guards_io.specs.declared.writing.WriteStop.TheVariants as write
use Rattle.icn_world.specs.declared.world.Halt.{Halt}
use Rattle.icn_world.specs.declared.world.Halt.TheVariants as halt
use Rattle.icn_world.specs.Halts.{halt_value}
use Rattle.run_laws.specs.Runs.{HasCarried, with_head}
use Rattle.output_gate.specs.Gates.{GateValue}
use Rattle.run_laws.specs.Driving.{CyclesRan, RunStopped, RunBroken, IsDriven, Drives, last_told, parts_told, short_told, with_words}
use Rattle.run_laws.proofs.Driving.{driven_mission, driven_cycles, driven_log, driven_ran, driven_short}
use Rattle.run_laws.proofs.Ends.{stopped_cycle, short_is_whole, short_is_stopped}
use Rattle.world_run.specs.declared.stop.RunStop.{RunStop}
use Rattle.world_run.specs.declared.stop.RunStop.TheVariants.{Halted, WriteFault}
use Rattle.world_run.specs.Running.{cycle_text, stop_text, stop_value, run_told_by}
use Rattle.world_run.specs.Keeping.{IsKept, Keeps, KeepsTo, KeptToHalt, KeptToStop, RunsLast, RunsToStopLast, TellsKept, kept_text}
use Rattle.world_run.proofs.RunSteps.{head_is, last_is, part_is, stop_is}

module _ (may : List RuleValue → EntryValue → Type 0) (k : ℕ) (trace : Bool) (M : MissionValue)
    (o : Option ActuatorValue) (start : BusValue) (w : WorldValue) (bus : BusValue) (gate : Option GateValue)
    (log : Kept) where
  pub kept_mission : IsKept may k trace M o start w bus gate log → w.mission ≡ M
  kept_mission at = driven_mission may M start w bus gate at.0 at.1 o at.2

  pub kept_cycles : IsKept may k trace M o start w bus gate log → w.done ≤ w.mission.cycles
  kept_cycles at = driven_cycles may M start w bus gate at.0 at.1 o at.2

module _ (may : List RuleValue → EntryValue → Type 0) (k : ℕ) (trace : Bool) (M : MissionValue)
    (o : Option ActuatorValue) (start : BusValue) where
  none_told : parts_told o trace M [] [] 0 ≡ []
  none_told = by o
    where
      by : (o : Option ActuatorValue) → parts_told o trace M [] [] 0 ≡ []
      by None = refl
      by (Some a) = refl

  -- no cycle ran, and nothing was kept
  pub first_kept : (w : WorldValue) (gate : Option GateValue) (log : Kept) → w ≡ first_world M →
      IsDriven o may M start (first_world M) start gate [] [] → log ≡ kept [] k →
      IsKept may k trace M o start w start gate log
  first_kept w gate log fresh first empty =
      let none : 0 - k ≡ 0 = omega arith in
      let texts : last_told k o trace M [] [] 0 ≡ [] =
      ap (λ (parts : List Part). keep_last k (map part_text parts)) none_told ∙ ap (λ n. drop n []) none in
      subst (λ (x : WorldValue). IsKept may k trace M o start x start gate log) (sym fresh)
      ([], [], first, empty ∙ ap (λ (ps : List TextValue). kept ps k) (sym texts))

  module _ (w new : WorldValue) (bus after : BusValue) (gate gate_after : Option GateValue) (log log' : Kept)
      (at : IsKept may k trace M o start w bus gate log) where
    abbrev L : Log
    L = at.0

    abbrev histories : Histories
    histories = at.1

    abbrev texts : List TextValue
    texts = map part_text (parts_told o trace M L histories w.done)

    module _ (part : RecordValue) (d : Drives o may M start w L histories (Ok part) new after gate_after) where
      abbrev K : Log
      K = d.0

      abbrev more : Histories
      more = d.1

      next : IsDriven o may M start new after gate_after K more
      next = d.2

      done : new.done ≡ suc w.done
      done = d.3

      abbrev here : Part
      here = with_words gate_after (cycle_part trace (shown M.rules.channels M.width (length M.outputs) part))

      part_here : cycle_text trace new.mission gate_after part ≡ part_text here
      part_here = part_is trace M new.mission gate_after part
          (driven_mission may M start new after gate_after K more o next)

      parts_are : parts_told o trace M K more new.done ≡ parts_told o trace M L histories w.done ++ here ∷ []
      parts_are = ap (λ n. parts_told o trace M K more n) done ∙ d.4 trace

      texts_are : last_told k o trace M K more new.done
          ≡ keep_last k (keep_last k texts ++ cycle_text trace new.mission gate_after part ∷ [])
      texts_are =
          ap (λ (parts : List Part). keep_last k (map part_text parts)) parts_are
          ∙ ap (keep_last k) (map-append part_text (parts_told o trace M L histories w.done) (here ∷ []))
          ∙ sym (kept_again k texts (part_text here))
          ∙ ap (λ text. keep_last k (keep_last k texts ++ text ∷ [])) (sym part_here)

      pub keep_done : (r : Result (Unit {0}) Halt) → Keeps log log' (cycle_text trace new.mission gate_after part) r →
          KeepsTo may k trace M o start (suc w.done) new after gate_after log' r
      keep_done (Ok _) keeps = (
        (
          K,
          more,
          next,
          keeps ∙ ap
              (λ (l : Kept). kept (keep_last l.room (l.parts ++ cycle_text trace new.mission gate_after part ∷ []))
              l.room) at.3 ∙ ap (λ (ps : List TextValue). kept ps k) (sym texts_are),
        ),
        done,
      )
      keep_done (Err h) keeps =
          subst (λ (x : Halt). KeptToHalt may k trace M o x start after log') (sym keeps) (
            K,
            more,
            new.done,
            driven_log may M start new after gate_after K more o next,
            driven_short may M start new after gate_after K more o next,
          )

    pub keep_halted : (h : Halt) → Drives o may M start w L histories (Err (halt_value h)) new after gate_after →
        KeptToHalt may k trace M o h start after log
    keep_halted (halt.Disturbed cycle slot set active) (K, ran, stopped, broken, same) =
        let s : StopValue = stop_value cycle slot set active in
        let at_cycle : s.cycle ≡ w.done = stopped_cycle M K histories o w.done s stopped in
        let here : log ≡ kept (last_told k o trace M K histories w.done) k =
        at.3 ∙ ap (λ (parts : List Part). kept (keep_last k (map part_text parts)) k) (sym (same trace)) in (
          K,
          histories,
          ran,
          subst (λ n. RunStopped o M n s K histories) (sym at_cycle) stopped,
          subst (λ n. RunBroken o M n K histories) (sym at_cycle) broken,
          subst (λ n. log ≡ kept (last_told k o trace M K histories n) k) (sym at_cycle) here,
        )
    keep_halted halt.NoMemory (K, ran, broken, same) = (K, histories, w.done, ran, broken)

  -- ---- what is told

  -- the head line, what was kept, and a line
  kept_is : (log : Kept) (texts : List TextValue) → log ≡ kept texts k →
      kept_text (head M) log.parts ≡ with_head M texts
  kept_is log texts is =
      ap (λ (l : Kept). kept_text (head M) l.parts) is ∙ ap (λ line. line ++ flat_map (λ text. text) texts) (head_is M)

  module _ (w : WorldValue) (bus : BusValue) (gate : Option GateValue) (log : Kept) (out out' : SinkView)
      (at : IsKept may k trace M o start w bus gate log) (all : w.done ≡ M.cycles) where
    ran_all : CyclesRan o M M.cycles at.0 at.1
    ran_all = subst (λ n. CyclesRan o M n at.0 at.1) all (driven_ran may M start w bus gate at.0 at.1 o at.2)

    log_all : HasCarried may M start bus at.0
    log_all = driven_log may M start w bus gate at.0 at.1 o at.2

    text_is : kept_text (head M) log.parts ++ last M ≡ short_told k o trace M at.0 at.1
    text_is =
        let texts = last_told k o trace M at.0 at.1 M.cycles in
        let is : log ≡ kept texts k = at.3 ∙ ap (λ n. kept (last_told k o trace M at.0 at.1 n) k) all in
        ap (λ text. text ++ last M) (kept_is log texts is)
        ∙ ap (λ line. with_head M texts ++ line) (last_is M)
        ∙ sym (short_is_whole M at.0 at.1 trace k o ran_all)

    pub last_done : (r : Result (Unit {0}) WriteStop) → Puts out out' (kept_text (head M) log.parts ++ last M) r →
        RunsLast may k trace M o start bus out out' (run_told_by r)
    last_done (Ok _) wrote = (
      at.0,
      at.1,
      log_all,
      ran_all,
      subst (Appends out.written out'.written) text_is wrote.0,
      wrote.1,
    )
    last_done (Err write.Failed) wrote =
        (at.0, at.1, log_all, ran_all, subst (AppendsPart out.written out'.written) text_is wrote.0, wrote.1)
    last_done (Err write.Memory) wrote = (
      at.0,
      at.1,
      M.cycles,
      log_all,
      subst (λ n. RunBroken o M n at.0 at.1) all (driven_short may M start w bus gate at.0 at.1 o at.2),
      wrote,
    )

  module _ (bus : BusValue) (log : Kept) (out out' : SinkView) where
    stops : (s : StopValue) → KeptToStop may k trace M o s start bus log →
        WritesLine out out' (kept_text (head M) log.parts ++ stop_text s) →
        RunsToStopLast may k trace M o s start bus out out'
    stops s (L, histories, ran, to, broken, is) wrote =
        let texts = last_told k o trace M L histories s.cycle in
        let text : kept_text (head M) log.parts ++ stop_text s ≡ with_head M texts ++ stop_line s =
        ap (λ text. text ++ stop_text s) (kept_is log texts is) ∙ ap (λ line. with_head M texts ++ line) (stop_is s) in (
          L,
          histories,
          with_head M texts,
          ran,
          to,
          short_is_stopped M L histories trace k o s.cycle s to,
          subst (WritesLine out out') text wrote,
        )

    pub last_halted : (h : Halt) (stop : RunStop) → KeptToHalt may k trace M o h start bus log →
        TellsKept h (kept_text (head M) log.parts) out out' stop →
        RunsLast may k trace M o start bus out out' (Err stop)
    last_halted (halt.Disturbed cycle slot set active) (Halted (halt.Disturbed cycle' slot' set' active')) at told =
        subst (λ s. RunsToStopLast may k trace M o s start bus out out') (sym told.0)
        (stops (stop_value cycle slot set active) at told.1)
    last_halted (halt.Disturbed cycle slot set active) WriteFault at told = absurd told
    last_halted (halt.Disturbed cycle slot set active) (Halted halt.NoMemory) (L, histories, ran, to, broken, is) told =
        (L, histories, cycle, ran, broken, told)
    last_halted halt.NoMemory stop (L, histories, n, ran, part) told =
        subst (λ (x : RunStop). RunsLast may k trace M o start bus out out' (Err x)) (sym told.0)
        (L, histories, n, ran, part, told.1)

  -- memory ran out before the first cycle
  pub not_begun : (out : SinkView) (gate : Option GateValue) → IsDriven o may M start (first_world M) start gate [] [] →
      RunsLast may k trace M o start start out out (Err (Halted halt.NoMemory))
  not_begun out gate first = (
    [],
    [],
    0,
    driven_log may M start (first_world M) start gate [] [] o first,
    driven_short may M start (first_world M) start gate [] [] o first,
    refl,
  )
