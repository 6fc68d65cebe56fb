use Rattle.std.proofs.Common.{length, ap, sym, ◌∙◌}
use Rattle.guards_base.specs.Padding.{length-used}
use Rattle.ideal_run.proofs.votes.count_of.Goals as goal

pub returns-clause-count : goal.returns-clause-count
returns-clause-count c = sym (length-used 8 c.ballot.inside.count c.ballot.inside.words c.ballot.invariant)
    ∙ ap length c.ballot.view_is
