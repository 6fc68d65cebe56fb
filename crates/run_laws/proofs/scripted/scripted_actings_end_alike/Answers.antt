use Rattle.run_laws.proofs.ActedEnds.{stops_alike, reports_alike}
use Rattle.run_laws.proofs.scripted.scripted_actings_end_alike.Goals as goal

pub returns-clause-stops : goal.returns-clause-stops
returns-clause-stops c = λ M F G none run_f run_g. stops_alike M F G none run_f run_g

pub returns-clause-reports : goal.returns-clause-reports
returns-clause-reports c = λ M a F G none run_f run_g. reports_alike M F G none run_f run_g a
