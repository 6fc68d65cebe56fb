use Rattle.guards_runs.specs.Cycles.{cycles_before, next_cycle}
use Rattle.guards_laws.proofs.RunRestores.{run_owns}
use Rattle.node_laws.proofs.Opening.{active_in}
use Rattle.node_laws.proofs.Owing.{owes, stands}
use Rattle.node_laws.proofs.frames.nodes_owe_due_frames.Goals as goal

pub returns-clause-stands : goal.returns-clause-stands
returns-clause-stands c =
    λ M L n steps slot done q. stands M (cycles_before M L n) (next_cycle M L (cycles_before M L n)) steps slot done q

pub returns-clause-owed : goal.returns-clause-owed
returns-clause-owed c =
    λ M L n steps slot q to mission within run low.
    owes M (cycles_before M L n) (next_cycle M L (cycles_before M L n)) steps q
    (λ s up. active_in M L n mission q low s up) (run_owns M L n mission within run q) slot to
