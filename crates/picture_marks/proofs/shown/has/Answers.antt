use Rattle.std.proofs.Common.{sym, ap, ◌∙◌}
use Rattle.guards_model.specs.Channels.{has}
use Rattle.picture_marks.proofs.ShownSets.{beyond_all}
use Rattle.picture_marks.proofs.shown.has.Goals as goal

pub returns-in-None : goal.returns-in-None
returns-in-None c =
    sym (ap (λ set. has set c.args.channel) c.mask-mask.ensures.members
    ∙ beyond_all c.mask-mask.result c.args.channel c.in-None.ensures)
