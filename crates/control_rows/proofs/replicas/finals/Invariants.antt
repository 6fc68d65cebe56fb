use Rattle.std.proofs.Common.{◌≡◌, true}
use Rattle.std.specs.List.{list_all}
use Rattle.guards_model.specs.Frames.{counts_in_range}
use Rattle.control_rows.proofs.replicas.finals.Given as goal

abbrev pub invariant-loop-frame : goal.invariant-loop-frame
invariant-loop-frame l = list_all (λ content. counts_in_range content.control.counts) l.finals.items ≡ true
