use Rattle.guards_model.specs.Missions.{channels_of}
use Rattle.node_laws.proofs.OpenNodes.{all_may_open}
use Rattle.node_laws.proofs.all_nodes.worlds_may_open.Goals as goal

pub returns : goal.returns
returns c = λ w L stands. all_may_open w.mission L w.done stands.mission (channels_of w.mission) w.nodes stands.nodes
