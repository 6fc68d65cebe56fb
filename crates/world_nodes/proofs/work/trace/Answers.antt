use Rattle.std.proofs.Common.{◌∙◌}
use Rattle.sweep_round.specs.Trails.{trail_steps}
use Rattle.world_nodes.proofs.Traces.{of_two}
use Rattle.world_nodes.proofs.work.trace.Goals as goal

pub invariant_of-result : goal.invariant_of-result
invariant_of-result c = (
  of_two c.in_ok-from_slice-in-Some.field-0.items (trail_steps c.in-Some.trail.now)
      (c.in_ok-from_slice-in-Some.ensures ∙ c.as_slice.ensures ∙ c.steps.ensures.numbers),
  tt,
)
