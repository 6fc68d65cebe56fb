use Rattle.std.proofs.Common.{◌≡◌, ◌++◌, ◌∷◌, ap, ◌∙◌, map, flat_map, arith}
use Rattle.std.specs.List.{range_with_len}
use Rattle.picture_marks.specs.declared.shown.Lane.TheVariants as lane
use Rattle.picture_marks.specs.Marks.{channel_lanes}
use Rattle.picture_marks.proofs.MarkLists.{map_range, more_after}
use Rattle.picture_marks.proofs.spans.lanes.Goals as goal

pub loop-place-preserved : goal.loop-place-preserved
loop-place-preserved c =
    let next = map_range (λ k. lane.Output k) c.loop-place.place in
    let grown = more_after (flat_map channel_lanes (range_with_len 0 c.args.channels)) lane.Remaining
    (lane.Final ∷ map (λ k. lane.Output k) (range_with_len 0 c.loop-place.place)) (lane.Output c.loop-place.place) in
    cc (next, grown, c.in_ok-push_output.ensures, c.loop-place.invariant)

pub returns : goal.returns
returns c =
    let all : c.loop-place.place ≡ c.args.outputs = omega arith in
    c.loop-place.invariant
    ∙ ap (λ n. flat_map channel_lanes (range_with_len 0 c.args.channels)
    ++ lane.Remaining ∷ lane.Final ∷ map (λ k. lane.Output k) (range_with_len 0 n)) all
