use Rattle.std.proofs.Common.{◌∙◌, ap, length}
use Rattle.guards_model.specs.Replicas.{ReplicaValue}
use Rattle.guards_nodes.specs.NodeStates.{JoinerValue}
use Rattle.channel_node.proofs.Lengths.{length-final}
use Rattle.channel_node.proofs.joiner.Joining.take_final.Goals as goal

pub returns-in-Some-clause-blocks : goal.returns-in-Some-clause-blocks
returns-in-Some-clause-blocks c =
    ap (λ (r : ReplicaValue). length r.blocks) c.take_final.ensures.replica
    ∙ length-final c.args.frames.now.items c.self.inside.replica
    ∙ ap (λ (j : JoinerValue). length j.replica.blocks) c.self.view_is
