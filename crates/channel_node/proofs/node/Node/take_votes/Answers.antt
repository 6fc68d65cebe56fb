use Rattle.std.proofs.Common.{◌≡◌, ◌∙◌, sym, subst, ap, rules, Some}
use Rattle.guards_nodes.specs.NodeStates.{running, RunningValue}
use Rattle.guards_nodes.specs.WholeLines.{whole_line}
use Rattle.channel_node.proofs.node.Node.take_votes.Goals as goal

pub returns-clause-line : goal.returns-clause-line
returns-clause-line c =
    λ r d runs had.
    let up : c.args.self.now.state ≡ running c.in-Up.running = search rules in
    let same : c.in-Up.running ≡ r = cc (sym up ∙ runs) in
    let chan : c.self.inside.channel ≡ c.args.self.now.channel = search rules in
    c.take_votes.ensures.line d (subst (λ (x : RunningValue). x.decided ≡ Some d) (sym same) had)
    ∙ ap (λ q. whole_line q c.args.mission.now.outputs c.in-Up.running d c.args.ballots.now) chan
    ∙ ap (λ (x : RunningValue). whole_line c.args.self.now.channel c.args.mission.now.outputs x d c.args.ballots.now)
    same
