use Rattle.std.proofs.Common.{refl}
use Rattle.guards_model.specs.Tags.{tags_of}
use Rattle.guards_model.specs.Controls.{control_of_word}
use Rattle.guards_runs.proofs.RunsOnLiterals.{run_on_literals}
use Rattle.model_rows.proofs.held_nodes.nodes_of_a_restoration.Goals as goal

pub returns-clause-sender : goal.returns-clause-sender
unfolding run_on_literals tags_of
returns-clause-sender c = refl

pub returns-clause-target : goal.returns-clause-target
unfolding run_on_literals
returns-clause-target c = refl

pub returns-clause-takes : goal.returns-clause-takes
unfolding run_on_literals control_of_word
returns-clause-takes c = refl

pub returns-clause-runs : goal.returns-clause-runs
unfolding run_on_literals
returns-clause-runs c = refl
