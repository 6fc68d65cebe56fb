-- Cycles that ran are cycles of a run in the sense of the main theorem.
use Rattle.std.proofs.Common.{ℕ, zero, suc, ◌<◌, ◌≤◌, Option, Some, None, refl, sym, subst, arith}
use Rattle.std.specs.List.{AllZip}
use Rattle.guards_model.specs.Missions.{MissionValue, ActuatorValue, IsMission}
use Rattle.guards_model.specs.Network.{Log, without_outputs}
use Rattle.guards_model.specs.Rounds.{Histories}
use Rattle.guards_model.specs.Texts.{StopValue}
use Rattle.guards_runs.specs.Cycles.{cycles_before, cycle_at, next_cycle}
use Rattle.guards_runs.specs.Due.{IsDue, carries_through}
use Rattle.guards_runs.specs.Faultless.{HasDue}
use Rattle.guards_runs.specs.Promises.{HasRun}
use Rattle.guards_laws.proofs.LogGrows.{length-cycles_before}
use Rattle.guards_laws.proofs.Agreement.{whole_run, stopped_run}
use Rattle.run_laws.proofs.RunContinues.{due_by, each_due}
use Rattle.run_laws.specs.Acting.{ActedToStop}
use Rattle.run_laws.specs.Driving.{CyclesRan, RunStopped, facts_log, cycles_told}
use Rattle.run_laws.specs.ActedScripts.{StopsActing}
use Rattle.run_laws.proofs.ActedLogs.{acted_by, acted_due, nine_unstopped, stop_due}
use Rattle.recovery_laws.proofs.LeftAlone.{each_of, run_leaves_alone, run_spares}
use Rattle.recovery_laws.proofs.Disturbance.{run_costs, run_causes}
use Rattle.recovery_laws.proofs.Silent.{run_finds, run_removes}
use Rattle.recovery_laws.proofs.Rows.{raises_judged, removes_judged}
use Rattle.recovery_laws.proofs.WrongVotes.{judged_exactly, damaged_is_judged}
use Rattle.recovery_laws.proofs.JudgedCounts.{run_counts}
use Rattle.recovery_laws.proofs.Seldom.{run_keeps_seldom}
use Rattle.recovery_laws.proofs.LeastPeriods.{run_keeps_from_least}
use Rattle.recovery_laws.proofs.LengthTold.{each_takes}
use Rattle.run_laws.specs.RightDiagnosis.{JudgesVotes, DiagnosesRightly}

pub ran_is_run : (o : Option ActuatorValue) (M : MissionValue) (n : ℕ) (F : Log) (histories : Histories) →
    CyclesRan o M n F histories → HasRun M (facts_log o F) n
ran_is_run None M n F histories ran =
    whole_run M F n (record { due = due_by M histories (cycles_before M F n) F ran.due; unstopped = ran.unstopped })
ran_is_run (Some a) M n F histories ran =
    let past = cycles_before M (without_outputs F) n in
    whole_run M (without_outputs F) n
    (record {
      due = acted_due M past F (acted_by M histories past F ran.acted);
      unstopped = nine_unstopped F past ran.unstopped;
    })

-- what was made up to a stop is due
stopped_acting : (M : MissionValue) (a : ActuatorValue) (F : Log) (stop : StopValue) (histories : Histories) →
    ActedToStop M a stop.cycle stop F (without_outputs F) histories → StopsActing M (without_outputs F) F stop
stopped_acting M a F stop histories to =
    let past = cycles_before M (without_outputs F) stop.cycle in
    let e = cycle_at M (without_outputs F) stop.cycle in
    record {
      within = to.within;
      before = to.before;
      now = to.now;
      outs = to.outs;
      entries = to.entries;
      due = acted_by M histories past to.before to.acted;
      due_now = each_due M past e to.steps (carries_through stop.cycle e stop.slot) to.now to.due_now;
      due_outs = to.due_outs;
      unstopped = to.unstopped;
      stopped = to.stopped;
    }

pub stopped_is_run : (o : Option ActuatorValue) (M : MissionValue) (stop : StopValue) (F : Log)
    (histories : Histories) → RunStopped o M stop.cycle stop F histories → HasRun M (facts_log o F) stop.cycle
stopped_is_run None M stop F histories to =
    let past = cycles_before M F stop.cycle in
    let e = cycle_at M F stop.cycle in
    let now : AllZip (IsDue M past e) (carries_through stop.cycle e stop.slot) to.now =
    each_due M past e to.steps (carries_through stop.cycle e stop.slot) to.now to.due_now in
    stopped_run M F stop.cycle stop.slot (
      to.before,
      to.now,
      to.entries,
      due_by M histories past to.before to.due,
      subst (λ c. AllZip (IsDue M past e) (carries_through c e stop.slot) to.now)
          (sym (length-cycles_before M F stop.cycle)) now,
    )
    to.unstopped
stopped_is_run (Some a) M stop F histories to =
    let L : Log = without_outputs F in
    let had : HasDue M L stop.cycle = stop_due M F L refl stop (stopped_acting M a F stop histories to) in
    record {
      before = had.before;
      later = had.later;
      entries = had.entries;
      after = had.after;
      due = had.due;
      unstopped = nine_unstopped F (cycles_before M L stop.cycle) to.unstopped;
    }

-- ---- what the laws say of them

votes_judged : (M : MissionValue) (L : Log) (n : ℕ) → IsMission M → n ≤ M.cycles → HasRun M L n → (m : ℕ) → m < n →
    JudgesVotes M (cycles_before M L m) (next_cycle M L (cycles_before M L m))
votes_judged M L n mission early run zero soon = tt
votes_judged M L n mission early run (suc c) soon =
    λ q. record {
      exactly = judged_exactly M L n mission early run c soon q;
      damaged = λ was there marked wrong. damaged_is_judged M L n mission early run c soon q was there wrong marked;
    }

diagnosed : (M : MissionValue) (L : Log) (n : ℕ) → IsMission M → n ≤ M.cycles → HasRun M L n →
    DiagnosesRightly M (cycles_before M L n)
diagnosed M L n mission early run =
    record {
      alone = run_leaves_alone M L n mission early run;
      spotless = run_spares M L n mission early run;
      costs = run_costs M L n mission early run;
      causes = run_causes M L n mission early run;
      silent = run_finds M L n mission early run;
      silent_removed = run_removes M L n mission early run;
      raised = raises_judged M L mission n;
      removed = removes_judged M L mission n;
      votes = each_of M L (JudgesVotes M) n (votes_judged M L n mission early run);
      counts = run_counts M L mission n;
      seldom = run_keeps_seldom M L mission n;
      least = run_keeps_from_least M L mission n;
      transfers = each_takes M L mission n early;
    }

ran_within : (o : Option ActuatorValue) (M : MissionValue) (n : ℕ) (F : Log) (histories : Histories) →
    CyclesRan o M n F histories → n ≤ M.cycles
ran_within None M n F histories ran = ran.within
ran_within (Some a) M n F histories ran = ran.within

stopped_within : (o : Option ActuatorValue) (M : MissionValue) (stop : StopValue) (F : Log) (histories : Histories) →
    RunStopped o M stop.cycle stop F histories → stop.cycle ≤ M.cycles
stopped_within None M stop F histories to = omega (arith, to.within)
stopped_within (Some a) M stop F histories to = omega (arith, to.within)

pub ran_diagnoses : (o : Option ActuatorValue) (M : MissionValue) (n : ℕ) (F : Log) (histories : Histories) →
    IsMission M → CyclesRan o M n F histories → DiagnosesRightly M (cycles_told o M F n)
ran_diagnoses o M n F histories mission ran =
    diagnosed M (facts_log o F) n mission (ran_within o M n F histories ran) (ran_is_run o M n F histories ran)

pub stopped_diagnoses : (o : Option ActuatorValue) (M : MissionValue) (stop : StopValue) (F : Log)
    (histories : Histories) → IsMission M → RunStopped o M stop.cycle stop F histories →
    DiagnosesRightly M (cycles_told o M F stop.cycle)
stopped_diagnoses o M stop F histories mission to =
    diagnosed M (facts_log o F) stop.cycle mission (stopped_within o M stop F histories to)
    (stopped_is_run o M stop F histories to)
