use Rattle.std.proofs.Common.{◌≡◌, filter, take}
use Rattle.guards_model.specs.Channels.{has}
use Rattle.guards_world.specs.NodeLists.{AllReceived, StandsForReceived}
use Rattle.guards_world.specs.SlotSends.{SendsSlot, sends_of}
use Rattle.world_traffic.proofs.sending.send_targets.Given as goal

abbrev pub invariant-loop-target : goal.invariant-loop-target
invariant-loop-target g l = record {
  script : (g.B.Bus.seen l.bus).script ≡ (g.B.Bus.seen l.initial.bus).script;
  sent : (received : AllReceived) → StandsForReceived received l.node →
      SendsSlot g.B.Bus.may (g.B.Bus.seen l.initial.bus).script (g.B.Bus.seen l.initial.bus).log
      (g.B.Bus.seen l.bus).log
      (sends_of l.mission l.initial.traffic.cycle l.initial.traffic.slot
      (filter (has l.targets) (take l.target-index l.channels)) (received l.node.channel) l.node)
      l.initial.traffic l.traffic;
}
