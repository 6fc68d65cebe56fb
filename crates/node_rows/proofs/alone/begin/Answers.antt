use Rattle.std.proofs.Common.{rules, ◌≡◌}
use Rattle.guards_model.specs.declared.Mode.TheVariants as mode
use Rattle.guards_model.specs.Missions.{sensor}
use Rattle.guards_nodes.specs.NodeSteps.{after_source}
use Rattle.guards_nodes.specs.NodeCalls.{changed}
use Rattle.channel_node.specs.Answers.{mode_of_state}
use Rattle.node_rows.proofs.Rounds.{begins}
use Rattle.node_rows.proofs.alone.begin.Goals as goal

pub returns-in_ok-source-in-Up-clause-begun : goal.returns-in_ok-source-in-Up-clause-begun
returns-in_ok-source-in-Up-clause-begun c done =
    let old = c.args.node.now in
    let M = c.args.mission.now in
    let up : mode_of_state old.state ≡ mode.Up = search rules in
    let is : c.source.new.self ≡ changed (after_source old.channel M.width (sensor M old.channel c.args.cycle)) old =
    search rules in
    begins M.width (sensor M old.channel c.args.cycle) old c.source.new.self up is
