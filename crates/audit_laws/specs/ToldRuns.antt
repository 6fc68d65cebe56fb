-- What the report of a run tells, cycle by cycle. This project's own.
use Rattle.std.specs.Prelude.{ℕ, suc, ℤ, Bool, List, [], ◌∷◌, ◌++◌, Option, None, Some, if◌then◌else◌}
use Rattle.guards_model.specs.Missions.{MissionValue, ActuatorValue}
use Rattle.guards_model.specs.Network.{Log}
use Rattle.guards_runs.specs.Outputs.{words_after}
use Rattle.guards_model.specs.Rounds.{Histories}
use Rattle.guards_model.specs.Texts.{RecordValue, StopValue}
use Rattle.guards_runs.specs.Cycles.{Past, this_cycle}
use Rattle.guards_runs.specs.Report.{cycle_record, latest_steps, earlier_steps}
use Rattle.guards_audit.specs.Reports.{CycleTold, ReportValue}

-- a record with its steps, or without them
abbrev pub told_record : Bool → RecordValue → RecordValue
told_record trace r = record r { traces = if trace then r.traces else [] }

-- some cycles, the latest of which stands first, as they are told in their order; words gives the words of an actuator
-- after so many cycles, if there is one
abbrev pub cycles_as_told : (ℕ → Option (List ℤ)) → Bool → MissionValue → Histories → Past → List CycleTold
cycles_as_told words trace M histories [] = []
cycles_as_told words trace M histories (e ∷ past) =
    cycles_as_told words trace M (earlier_steps histories) past
    ++ record {
      record_told = told_record trace (cycle_record M (latest_steps histories) (this_cycle past) e);
      words = words (suc (this_cycle past));
    } ∷ []

-- what is told of a run: its cycles up to its end or its stop
abbrev pub run_told : (ℕ → Option (List ℤ)) → Bool → MissionValue → Histories → Past → Option StopValue → ReportValue
run_told words trace M histories cycles stop =
    record {
      channels = M.rules.channels;
      cycles = M.cycles;
      told = cycles_as_told words trace M histories cycles;
      stop = stop;
    }

-- the words of a mission's actuator after so many cycles of a log
abbrev pub words_of : Option ActuatorValue → MissionValue → Log → ℕ → Option (List ℤ)
words_of None M L n = None
words_of (Some a) M L n = Some (words_after M a L n)
