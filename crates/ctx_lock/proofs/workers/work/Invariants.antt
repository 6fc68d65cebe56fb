use Rattle.ctx_lock.specs.Passes.{IsSameView}
use Rattle.ctx_lock.specs.Handles.{view, IsSamePass}
use Rattle.ctx_lock.proofs.workers.work.Given as goal

abbrev pub invariant-loop : goal.invariant-loop
invariant-loop g l =
    IsSamePass l.initial.pass l.pass × IsSameView (view l.initial.pass) (view l.pass)
    × (goal.iterator-loop g).can_next l.iterator' × (goal.iterator-loop g).is_finite l.iterator'
