use Rattle.std.proofs.Common.{map, ap, ◌∙◌}
use Rattle.std.specs.Prelude.{count_by}
use Rattle.guards_model.specs.Records.{actor_of_step}
use Rattle.guards_model.specs.Rounds.{is_task}
use Rattle.guards_model.specs.Texts.{TraceValue}
use Rattle.told_cycles.proofs.work.writes_told.Goals as goal

pub returns : goal.returns
returns c =
    c.count_writes.ensures ∙ ap (λ steps. count_by is_task (map actor_of_step steps)) c.as_slice.ensures
    ∙ ap (λ (t : TraceValue). count_by is_task t.steps) c.trace.view_is
