use Rattle.std.proofs.Common.{◌≡◌, ◌-◌, ◌++◌, pos, length, replicate, subst}
use Rattle.guards_nodes.specs.NodeStates.{DecidedValue}
use Rattle.channel_node.proofs.RunningFits.{padded_inputs}
use Rattle.channel_node.proofs.parts.Decided.whole_inputs.Goals as goal

pub returns : goal.returns
returns c =
    subst (λ (d : DecidedValue). c.self.inside.inputs ≡ d.inputs ++ replicate (4 - length d.inputs) (pos 0))
    c.self.view_is
    (padded_inputs c.self.inside.width c.self.inside.inputs c.self.invariant.narrow c.self.invariant.four
    c.self.invariant.padded)
