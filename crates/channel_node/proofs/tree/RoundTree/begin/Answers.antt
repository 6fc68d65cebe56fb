use Rattle.guards_base.proofs.EachChannel.{few_members}
use Rattle.channel_node.proofs.TreeLevels.{begun_tree}
use Rattle.channel_node.proofs.tree.RoundTree.begin.Goals as goal

pub returns : goal.returns
returns c =
    begun_tree c.in_ok-begin.field-0 c.args.active c.args.me c.args.width c.args.own
    (few_members c.args.active c.flags.ensures.members) c.in_ok-begin.ensures
