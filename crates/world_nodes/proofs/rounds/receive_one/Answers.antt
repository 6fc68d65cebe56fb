use Rattle.std.proofs.Common.{ℕ, ap, sym, ◌∙◌}
use Rattle.guards_model.specs.Network.{items_of}
use Rattle.world_nodes.proofs.Exchanges.{received_one}
use Rattle.world_nodes.proofs.rounds.receive_one.Goals as goal

pub returns-then-has : goal.returns-then-has
returns-then-has g c = λ received may.
    let got = g.A.Arrived.got c.args.arrived.now in
    let node = c.args.node.now in
    received_one c.args.round (λ j. items_of (got j node.channel)) c.args.others c.args.from _ received node
    c.receive.new.self
    (sym c.if-has.ensures) (c.exchange-frame.ensures.items
    ∙ ap (λ (q : ℕ). items_of (got c.args.from q)) c.channel.ensures) may c.receive.ensures
