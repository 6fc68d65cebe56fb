use Rattle.std.proofs.Common.{ℕ, ap, sym, ◌∙◌}
use Rattle.guards_model.specs.Channels.{has}
use Rattle.guards_nodes.specs.NodeStates.{StateValue}
use Rattle.guards_nodes.specs.NodeCalls.{in_state}
use Rattle.world_nodes.proofs.NodeModes.{may_rise, ended_risen, joiner_stays}
use Rattle.world_nodes.proofs.ending.end_one.Goals as goal

pub rise-requires : goal.rise-requires
rise-requires c =
    let node = c.args.node.now in
    let joins = sym c.mode.ensures ∙ c.in-Joining.is in
    let took = sym (c.if-has.ensures ∙ ap (λ (q : ℕ). has c.args.taken q) c.channel-channel.ensures) in
    may_rise node.state (has c.args.taken node.channel) joins c.requires.took took

pub returns-in-Joining : goal.returns-in-Joining
returns-in-Joining c =
    let node = c.args.node.now in
    let joins = sym c.mode.ensures ∙ c.in-Joining.is in
    let took = sym (c.if-has.ensures ∙ ap (λ (q : ℕ). has c.args.taken q) c.channel-channel.ensures) in
    let held = may_rise node.state (has c.args.taken node.channel) joins c.requires.took took in
    c.rise.ensures held.0 held.1 held.2 held.3
    ∙ ap (λ (s : StateValue). in_state s node)
    (sym (ended_risen (has c.args.on node.channel) node.state held.0 held.1 held.2 held.3))

pub returns-else-has : goal.returns-else-has
returns-else-has c =
    let node = c.args.node.now in
    let joins = sym c.mode.ensures ∙ c.in-Joining.is in
    ap (λ (s : StateValue). in_state s node)
    (joiner_stays (has c.args.on node.channel) node.state (has c.args.taken node.channel) joins c.requires.took
    (sym (c.if-has.ensures ∙ ap (λ (q : ℕ). has c.args.taken q) c.channel-channel.ensures)))
