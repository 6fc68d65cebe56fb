-- The report of a run without faults with an actuator: after each cycle its words move towards the output words of the
-- ideal machine. This project's own.
use Rattle.std.specs.Prelude.{ℕ, zero, suc, ℤ, List, [], ◌++◌, Option, Some, None}
use Rattle.guards_model.specs.Actuators.{words_towards}
use Rattle.guards_model.specs.Missions.{ActuatorValue, MissionValue, output_words}
use Rattle.guards_model.specs.Texts.{TextValue, out_line}
use Rattle.guards_runs.specs.IdealMachine.{ideal}
use Rattle.guards_runs.specs.IdealReport.{head, ideal_report, last, part}

-- the words after so many cycles
abbrev pub machine_words : MissionValue → ActuatorValue → ℕ → List ℤ
machine_words M a zero = a.start
machine_words M a (suc c) = words_towards a.steps (machine_words M a c) (output_words M (ideal M (suc c)))

-- the parts of the cycles below this one, each with its words
abbrev pub acted_parts_below : MissionValue → ActuatorValue → ℕ → TextValue
acted_parts_below M a zero = []
acted_parts_below M a (suc c) = acted_parts_below M a c ++ (part M c ++ out_line (machine_words M a (suc c)))

-- the report, with an actuator or without one
abbrev pub ideal_report_with : Option ActuatorValue → MissionValue → TextValue
ideal_report_with None M = ideal_report M
ideal_report_with (Some a) M = head M ++ acted_parts_below M a M.cycles ++ last M
