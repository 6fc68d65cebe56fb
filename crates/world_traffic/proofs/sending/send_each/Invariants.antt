use Rattle.std.proofs.Common.{◌≡◌, All, take}
use Rattle.slot_traffic.specs.Receiving.{receiver_numbers}
use Rattle.guards_world.specs.NodeLists.{AllReceived, StandsForReceived}
use Rattle.guards_world.specs.SlotSends.{SendsSlot, all_sends}
use Rattle.world_traffic.proofs.sending.send_each.Given as goal

abbrev pub invariant-loop-node : goal.invariant-loop-node
invariant-loop-node g l = record {
  script : (g.B.Bus.seen l.bus).script ≡ (g.B.Bus.seen l.initial.bus).script;
  sent : (received : AllReceived) → All (StandsForReceived received) l.nodes →
      SendsSlot g.B.Bus.may (g.B.Bus.seen l.initial.bus).script (g.B.Bus.seen l.initial.bus).log
      (g.B.Bus.seen l.bus).log
      (all_sends l.mission l.initial.traffic.cycle l.initial.traffic.slot (receiver_numbers l.to) received
      (take l.node-index l.nodes))
      l.initial.traffic l.traffic;
}
