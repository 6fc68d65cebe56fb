use Rattle.std.proofs.Common.{◌≡◌, ◌++◌, ◌∷◌, map, flat_map}
use Rattle.std.specs.List.{range_with_len}
use Rattle.picture_marks.specs.declared.shown.Lane.TheVariants as lane
use Rattle.picture_marks.specs.Marks.{channel_lanes}
use Rattle.picture_marks.proofs.spans.lanes.Given as goal

abbrev pub invariant-loop-place : goal.invariant-loop-place
invariant-loop-place l =
    l.lanes.items
    ≡ flat_map channel_lanes (range_with_len 0 l.channels)
    ++ lane.Remaining ∷ lane.Final ∷ map (λ k. lane.Output k) (range_with_len 0 l.place)
