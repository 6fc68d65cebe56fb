use Rattle.script_laws.proofs.Reports.{stops_alike, facts_alike, reports_alike}
use Rattle.script_laws.proofs.FrameCounts.{frames_alike}
use Rattle.script_laws.proofs.laws.scripted_runs_end_alike.Goals as goal

pub returns-clause-stops : goal.returns-clause-stops
returns-clause-stops c = stops_alike

pub returns-clause-facts : goal.returns-clause-facts
returns-clause-facts c = facts_alike

pub returns-clause-frames : goal.returns-clause-frames
returns-clause-frames c = frames_alike

pub returns-clause-reports : goal.returns-clause-reports
returns-clause-reports c = reports_alike
