use Rattle.std.proofs.Common.{◌≡◌, Bool, true, false, Option, Some, None, refl}
use Rattle.guards_model.specs.Missions.{MissionValue, ActuatorValue}
use Rattle.guards_model.specs.Network.{Log}
use Rattle.guards_model.specs.Rounds.{Histories}
use Rattle.guards_model.specs.Texts.{text_of_parts}
use Rattle.guards_runs.specs.Report.{report, traced}
use Rattle.guards_runs.specs.ActedReport.{acted_report, parts_with, whole_report}
use Rattle.run_laws.specs.Driving.{told_text}
use Rattle.run_laws.proofs.driven.told_texts_are_reports.Goals as goal

told : (o : Option ActuatorValue) (trace : Bool) (M : MissionValue) (L : Log) (histories : Histories) →
    told_text o trace M L histories ≡ text_of_parts (parts_with o trace M L histories)
unfolding report traced acted_report
told None false M L histories = refl
told None true M L histories = refl
told (Some a) trace M L histories = refl

pub returns : goal.returns
unfolding whole_report
returns c M L histories trace = told M.actuator trace M L histories
