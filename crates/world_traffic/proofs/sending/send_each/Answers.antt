use Rattle.std.proofs.Common.{◌<◌, ◌∙◌, List, length, take, drop, ◌++◌, ◌+◌, rules, refl, sym, subst, arith}
use Rattle.std.proofs.lemmas.List.Elements.{All-get_or}
use Rattle.std.proofs.lemmas.Result.{err_from_is_err_and}
use Rattle.guards_nodes.specs.NodeStates.{NodeValue}
use Rattle.slot_traffic.specs.Receiving.{receiver_numbers}
use Rattle.guards_world.specs.NodeLists.{AllReceived, StandsForReceived}
use Rattle.guards_world.specs.SlotSends.{SendValue, MaySend, SendsSlot, SendsFirstOfSlot, all_sends, sends_of}
use Rattle.world_traffic.proofs.Growing.{sends_none, on_same, sent_on, some_on, some_first, one_more, with_later}
use Rattle.world_traffic.proofs.sending.send_each.Goals as goal

pub loop-node-init : goal.loop-node-init
loop-node-init g c = record {
  script = refl;
  sent = λ received all. sends_none g.B.Bus.may (g.B.Bus.seen c.args.bus.now).script
      (g.B.Bus.seen c.args.bus.now).log c.args.traffic.now;
}

pub send_node-requires : goal.send_node-requires
send_node-requires g c =
    let held = c.requires in
    let M = c.args.mission.now in
    let nodes = c.args.nodes.now in
    let i = c.loop-node.node-index in
    let node = c.node-item.result in
    let before = c.args.traffic.now in
    let between = c.loop-node.traffic in
    let below : i < length nodes = omega arith in
    let stands : StandsForReceived held.0 node =
    subst (λ (n : NodeValue). StandsForReceived held.0 n) (sym c.node-item.is)
    (All-get_or (StandsForReceived held.0) nodes i node below held.1) in
    let may : MaySend M before.cycle before.slot held.0 node =
    subst (λ (n : NodeValue). MaySend M before.cycle before.slot held.0 n) (sym c.node-item.is)
    (All-get_or (MaySend M before.cycle before.slot held.0) nodes i node below held.2) in
    let ready : (received : AllReceived) × StandsForReceived received node
    × MaySend M between.cycle between.slot received node = (
      held.0,
      stands,
      on_same g.B.Bus.may (g.B.Bus.seen c.args.bus.now).script (g.B.Bus.seen c.args.bus.now).log
          (g.B.Bus.seen c.loop-node.bus).log
          (all_sends M before.cycle before.slot (receiver_numbers c.args.to.now) held.0 (take i nodes)) before between
          (λ cycle slot. MaySend M cycle slot held.0 node) (c.loop-node.invariant.sent held.0 held.1) may,
    ) in
    search (rules, ready)

pub loop-node-preserved : goal.loop-node-preserved
loop-node-preserved g c =
    let M = c.args.mission.now in
    let nodes = c.args.nodes.now in
    let i = c.loop-node.node-index in
    let node = c.node-item.result in
    let before = c.args.traffic.now in
    let to = receiver_numbers c.args.to.now in
    let script = (g.B.Bus.seen c.args.bus.now).script in
    let log = (g.B.Bus.seen c.args.bus.now).log in
    let new = (g.B.Bus.seen c.send_node.new.bus).log in
    let below : i < length nodes = omega arith in
    record {
      script = c.send_node.ensures.script ∙ c.loop-node.invariant.script;
      sent = λ received all.
          let stands : StandsForReceived received node =
          subst (λ (n : NodeValue). StandsForReceived received n) (sym c.node-item.is)
          (All-get_or (StandsForReceived received) nodes i node below all) in
          subst (λ (sends : List SendValue).
          SendsSlot g.B.Bus.may script log new sends before c.send_node.new.traffic)
          (one_more (λ n. sends_of M before.cycle before.slot to (received n.channel) n) nodes i node below
          c.node-item.is)
          (sent_on g.B.Bus.may script (g.B.Bus.seen c.loop-node.bus).script log (g.B.Bus.seen c.loop-node.bus).log new
          (all_sends M before.cycle before.slot to received (take i nodes))
          (λ cycle slot. sends_of M cycle slot to (received node.channel) node)
          before c.loop-node.traffic c.send_node.new.traffic c.loop-node.invariant.script
          (c.loop-node.invariant.sent received all) (c.in_ok-send_node.ensures.sent received stands));
    }

pub returns-in_err-send_node-clause-some : goal.returns-in_err-send_node-clause-some
returns-in_err-send_node-clause-some g c =
    let p = err_from_is_err_and c.from_residual.result c.from_residual.ensures.1 in
    let M = c.args.mission.now in
    let nodes = c.args.nodes.now in
    let i = c.loop-node.node-index in
    let node = c.node-item.result in
    let before = c.args.traffic.now in
    let to = receiver_numbers c.args.to.now in
    let script = (g.B.Bus.seen c.args.bus.now).script in
    let log = (g.B.Bus.seen c.args.bus.now).log in
    let new = (g.B.Bus.seen c.send_node.new.bus).log in
    let below : i < length nodes = omega arith in
    rw p.1 (λ received all.
    let stands : StandsForReceived received node =
    subst (λ (n : NodeValue). StandsForReceived received n) (sym c.node-item.is)
    (All-get_or (StandsForReceived received) nodes i node below all) in
    let here = sends_of M before.cycle before.slot to (received node.channel) node in
    let earlier = all_sends M before.cycle before.slot to received (take i nodes) in
    subst (λ (sends : List SendValue).
    SendsFirstOfSlot g.B.Bus.may script log new sends before c.send_node.new.traffic)
    (with_later (λ n. sends_of M before.cycle before.slot to (received n.channel) n) nodes i node below c.node-item.is)
    (some_first g.B.Bus.may script log new (earlier ++ here)
    (all_sends M before.cycle before.slot to received (drop (i + 1) nodes)) before c.send_node.new.traffic
    (some_on g.B.Bus.may script (g.B.Bus.seen c.loop-node.bus).script log (g.B.Bus.seen c.loop-node.bus).log new
    earlier (λ cycle slot. sends_of M cycle slot to (received node.channel) node)
    before c.loop-node.traffic c.send_node.new.traffic c.loop-node.invariant.script
    (c.loop-node.invariant.sent received all) (c.in_err-send_node.ensures.some received stands))))
