use Rattle.std.proofs.Common.{ℕ, ap, sym, ◌∙◌}
use Rattle.guards_model.specs.Voting.{Ballots}
use Rattle.guards_nodes.specs.WholeLines.{whole_line}
use Rattle.guards_world.specs.NodeLists.{ballots_arrived}
use Rattle.world_nodes.proofs.NodeModes.{line_is}
use Rattle.world_nodes.proofs.votes.vote_one.Goals as goal

pub returns-in-Up-clause-line : goal.returns-in-Up-clause-line
returns-in-Up-clause-line g c =
    let node = c.args.node.now in
    line_is c.args.mission.now (g.A.Arrived.got c.args.arrived.now) node.channel node.state c.take_votes.result
    (sym c.mode.ensures ∙ c.in-Up.is) c.requires.had
    (λ r d s h. c.take_votes.ensures.line r d s h
    ∙ ap (λ (b : Ballots). whole_line node.channel c.args.mission.now.outputs r d b)
    (c.ballots.ensures ∙ ap (λ (q : ℕ). ballots_arrived (g.A.Arrived.got c.args.arrived.now) q) c.channel.ensures))
