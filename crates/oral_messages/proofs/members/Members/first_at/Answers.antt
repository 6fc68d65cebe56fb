use Rattle.oral_messages.proofs.RankedTables.{one_back}
use Rattle.oral_messages.proofs.members.Members.first_at.Goals as goal

pub returns : goal.returns
returns c = one_back c.self.inside.active c.self.inside.count c.self.inside.labels c.self.inside.below c.args.self.now
    c.self.invariant c.self.view_is c.args.place c.requires
