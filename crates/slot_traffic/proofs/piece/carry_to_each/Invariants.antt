use Rattle.std.proofs.Common.{◌≡◌, ◌≤◌, ◌+◌, length, map, take}
use Rattle.std.specs.List.{AllByRecursion}
use Rattle.slot_traffic.specs.Arrivals.{IsMarked, piece_value}
use Rattle.slot_traffic.specs.Carried.{AreDelivered}
use Rattle.slot_traffic.proofs.piece.carry_to_each.Given as goal

abbrev pub invariant-loop-to : goal.invariant-loop-to
invariant-loop-to g l = record {
  script : (g.B.Bus.seen l.bus).script ≡ (g.B.Bus.seen l.initial.bus).script;
  delivered : AreDelivered g.B.Bus.may (g.B.Bus.seen l.initial.bus).script (g.B.Bus.seen l.initial.bus).log
      (g.B.Bus.seen l.bus).log
      l.cycle l.slot l.from (take l.to-index l.receivers) l.sent (map (piece_value l.sent) l.pieces.items);
  marked : AllByRecursion (IsMarked l.sent) l.pieces.items;
  room : length l.receivers ≤ l.to-index + l.pieces.spare;
}
