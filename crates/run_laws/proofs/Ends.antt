-- What is told of a run's end, for a mission with an actuator and without one.
use Rattle.std.proofs.Common.{◌≡◌, ℕ, suc, ◌<◌, ◌≤◌, ◌-◌, ◌+◌, Bool, true, false, List, [], ◌∷◌, ◌++◌, length, Option, Some, None, refl, sym, ap, subst, ◌∙◌, arith, length-append}
use Rattle.std.specs.Prelude.{if◌then◌else◌}
use Rattle.guards_model.specs.declared.Slot.TheVariants.{Output}
use Rattle.guards_model.specs.Missions.{MissionValue, ActuatorValue}
use Rattle.guards_model.specs.Network.{Log, without_outputs}
use Rattle.guards_model.specs.Rounds.{Histories}
use Rattle.guards_model.specs.Texts.{Part, StopValue, text_of_parts, cycle_part, done_line, stop_line}
use Rattle.guards_runs.specs.Cycles.{Cycle, Past, cycles_before, cycle_at}
use Rattle.guards_runs.specs.Disturbed.{stop_in, first_of_two}
use Rattle.guards_runs.specs.Report.{cycle_record, cycle_parts, latest_steps, earlier_steps}
use Rattle.guards_laws.proofs.LogGrows.{length-cycles_before}
use Rattle.guards_laws.proofs.FirstStop.{stop_stays}
use Rattle.run_laws.specs.Runs.{shortened, with_head, with_unfinished}
use Rattle.run_laws.proofs.RunContinues.{stop_cycle}
use Rattle.run_laws.proofs.RunTold.{whole_text, stopped_text, short_whole, short_stopped, text_and_line, short_of}
use Rattle.guards_runs.specs.Outputs.{output_disturbed, output_halts, output_stop}
use Rattle.guards_runs.specs.ActedReport.{acted_report, stop_with}
use Rattle.run_laws.specs.Driving.{CyclesRan, RunStopped, last_told, parts_driven, parts_told, short_told, told_text}
use Rattle.run_laws.proofs.DrivenTold.{size_of_acted, stays, untraced_parts, whole_parts, stopped_parts}

-- ---- the cycle of a stop

acted_stop_cycle : (n : ℕ) (e : Cycle) (F : Log) (stop : StopValue) →
    first_of_two (stop_in n e) (output_stop n e F) ≡ Some stop → stop.cycle ≡ n
acted_stop_cycle n e F stop h = by (stop_in n e) refl h
  where
    in_output : (b : Bool) → (if b
        then Some (record { cycle = n; slot = Output; set = output_disturbed n e F; active = e.active }) else None)
        ≡ Some stop → stop.cycle ≡ n
    in_output true h =
        let same : record { cycle = n; slot = Output; set = output_disturbed n e F; active = e.active } ≡ stop = cc in
        sym (ap (λ (s : StopValue). s.cycle) same)
    in_output false h = absurd cc

    by : (nine : Option StopValue) → stop_in n e ≡ nine → first_of_two nine (output_stop n e F) ≡ Some stop →
        stop.cycle ≡ n
    by (Some s) is h =
        let same : s ≡ stop = cc in
        subst (λ (x : StopValue). x.cycle ≡ n) same (stop_cycle n e s is)
    by None is h = in_output (output_halts n e F) h

module _ (M : MissionValue) (F : Log) (histories : Histories) where
  pub stopped_cycle : (o : Option ActuatorValue) (n : ℕ) (stop : StopValue) → RunStopped o M n stop F histories →
      stop.cycle ≡ n
  stopped_cycle None n stop to = stop_cycle n (cycle_at M F n) stop to.stopped
  stopped_cycle (Some a) n stop to = acted_stop_cycle n (cycle_at M (without_outputs F) n) F stop to.stopped

  pub stopped_within : (o : Option ActuatorValue) (n : ℕ) (stop : StopValue) → RunStopped o M n stop F histories →
      n < M.cycles
  stopped_within None n stop to = to.within
  stopped_within (Some a) n stop to = to.within

  -- a run that ran whole has no stop, and one that stopped has this one
  pub whole_stop : (o : Option ActuatorValue) → CyclesRan o M M.cycles F histories → stop_with o M F ≡ None
  whole_stop None ran = ran.unstopped
  whole_stop (Some a) ran = ran.unstopped

  pub this_stop : (o : Option ActuatorValue) (n : ℕ) (stop : StopValue) → RunStopped o M n stop F histories →
      stop_with o M F ≡ Some stop
  this_stop None n stop to =
      stop_stays M F n stop to.unstopped to.stopped (M.cycles - n - 1) M.cycles (omega (arith, to.within))
  this_stop (Some a) n stop to =
      stays M F (without_outputs F) n stop to.unstopped to.stopped (M.cycles - n - 1) M.cycles
      (omega (arith, to.within))

  pub within_whole : (o : Option ActuatorValue) (n : ℕ) → CyclesRan o M n F histories → n ≤ M.cycles
  within_whole None n ran = ran.within
  within_whole (Some a) n ran = ran.within

  module _ (trace : Bool) where
    -- ---- how many parts there are

    size_of_parts : (hs : Histories) (past : Past) → length (cycle_parts trace M hs past) ≡ length past
    size_of_parts hs [] = refl
    size_of_parts hs (e ∷ past) =
        let front = cycle_parts trace M (earlier_steps hs) past in
        let here = cycle_part trace (cycle_record M (latest_steps hs) (length past) e) in
        let size : length (front ++ here ∷ []) ≡ suc (length front) = omega (arith, length-append front (here ∷ [])) in
        size ∙ ap suc (size_of_parts (earlier_steps hs) past)

    pub size_of_told : (o : Option ActuatorValue) (n : ℕ) → length (parts_told o trace M F histories n) ≡ n
    size_of_told None n = size_of_parts histories (cycles_before M F n) ∙ length-cycles_before M F n
    size_of_told (Some a) n =
        size_of_acted trace M a F histories (cycles_before M (without_outputs F) n)
        ∙ length-cycles_before M (without_outputs F) n

    -- ---- whole texts

    pub text_whole : (o : Option ActuatorValue) → CyclesRan o M M.cycles F histories →
        told_text o trace M F histories
        ≡ text_of_parts (parts_driven o trace M F histories M.cycles) ++ done_line M.cycles
    unfolding acted_report
    text_whole None ran = whole_text trace M F histories ran.unstopped
    text_whole (Some a) ran =
        ap text_of_parts (whole_parts trace M a F histories ran.unstopped)
        ∙ text_and_line (parts_driven (Some a) trace M F histories M.cycles) (done_line M.cycles)

    pub text_stopped : (o : Option ActuatorValue) (n : ℕ) (stop : StopValue) → RunStopped o M n stop F histories →
        told_text o trace M F (with_unfinished (M.cycles - n) histories)
        ≡ text_of_parts (parts_driven o trace M F histories n) ++ stop_line stop
    unfolding acted_report
    text_stopped None n stop to = stopped_text trace M F histories n stop to.within to.unstopped to.stopped
    text_stopped (Some a) n stop to =
        ap text_of_parts (stopped_parts trace M a F histories n stop to.within to.unstopped to.stopped)
        ∙ text_and_line (parts_driven (Some a) trace M F histories n) (stop_line stop)

    -- ---- short texts

    pub short_is_whole : (k : ℕ) (o : Option ActuatorValue) → CyclesRan o M M.cycles F histories →
        short_told k o trace M F histories
        ≡ with_head M (last_told k o trace M F histories M.cycles) ++ done_line M.cycles
    short_is_whole k None ran = short_whole k trace M F histories ran.unstopped
    short_is_whole k (Some a) ran =
        ap (λ (parts : List Part). text_of_parts (shortened k parts)) (whole_parts trace M a F histories ran.unstopped)
        ∙ short_of k M (parts_told (Some a) trace M F histories M.cycles) (done_line M.cycles)

    pub short_is_stopped : (k : ℕ) (o : Option ActuatorValue) (n : ℕ) (stop : StopValue) →
        RunStopped o M n stop F histories →
        short_told k o trace M F (with_unfinished (M.cycles - n) histories)
        ≡ with_head M (last_told k o trace M F histories n) ++ stop_line stop
    short_is_stopped k None n stop to = short_stopped k trace M F histories n stop to.within to.unstopped to.stopped
    short_is_stopped k (Some a) n stop to =
        ap (λ (parts : List Part). text_of_parts (shortened k parts))
        (stopped_parts trace M a F histories n stop to.within to.unstopped to.stopped)
        ∙ short_of k M (parts_told (Some a) trace M F histories n) (stop_line stop)

  -- ---- without the trace lines

  pub text_untraced : (o : Option ActuatorValue) (ks : Histories) →
      told_text o false M F histories ≡ told_text o false M F ks
  unfolding acted_report
  text_untraced None ks = refl
  text_untraced (Some a) ks = ap text_of_parts (untraced_parts M a F histories ks)

  pub short_untraced : (k : ℕ) (o : Option ActuatorValue) (ks : Histories) →
      short_told k o false M F histories ≡ short_told k o false M F ks
  short_untraced k None ks = refl
  short_untraced k (Some a) ks =
      ap (λ (parts : List Part). text_of_parts (shortened k parts)) (untraced_parts M a F histories ks)
