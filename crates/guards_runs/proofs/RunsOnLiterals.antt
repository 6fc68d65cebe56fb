-- What an answer unfolds to compute a run on a literal mission and log.
use Rattle.std.specs.Prelude.{⊤}
use Rattle.guards_model.proofs.OnLiterals.{model_on_literals}
use Rattle.guards_runs.specs.Cycles.{cycle_start_of, agreement_of, decision_of, work_of, cycle_from}
use Rattle.guards_runs.specs.Report.{report_parts, report, traced_parts, traced}

unfoldable pub run_on_literals : ⊤
unfolding model_on_literals cycle_start_of agreement_of decision_of work_of cycle_from report_parts report traced_parts
    traced
run_on_literals = tt
