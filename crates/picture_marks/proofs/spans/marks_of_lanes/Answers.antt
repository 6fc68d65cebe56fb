use Rattle.std.proofs.Common.{◌<◌, length, arith}
use Rattle.picture_marks.specs.Marks.{marks_in}
use Rattle.picture_marks.proofs.MarkLists.{flat_step}
use Rattle.picture_marks.proofs.spans.marks_of_lanes.Goals as goal

pub loop-lane-preserved : goal.loop-lane-preserved
loop-lane-preserved c =
    let below : c.loop-lane.lane-index < length c.args.lanes.now = omega arith in
    flat_step (λ l. marks_in c.args.limits l c.args.told.now) c.args.lanes.now c.loop-lane.lane-index _ _ _ below
    c.loop-lane.invariant c.in_ok-push_lane.ensures
