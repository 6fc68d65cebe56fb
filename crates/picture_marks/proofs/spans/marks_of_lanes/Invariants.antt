use Rattle.std.proofs.Common.{◌≡◌, flat_map, take}
use Rattle.picture_marks.specs.Marks.{marks_in}
use Rattle.picture_marks.proofs.spans.marks_of_lanes.Given as goal

abbrev pub invariant-loop-lane : goal.invariant-loop-lane
invariant-loop-lane l = l.marks.items ≡ flat_map (λ lane. marks_in l.limits lane l.told) (take l.lane-index l.lanes)
