use Rattle.std.proofs.Common.{◌∙◌}
use Rattle.told_cycles.proofs.ChannelLemmas.{votes_alike}
use Rattle.told_cycles.proofs.lines.are_same_votes.Goals as goal

pub returns : goal.returns
returns c = c.eq.ensures ∙ votes_alike c.args.votes.now c.args.others.now
