use Rattle.std.proofs.Common.{◌≡◌, ◌*◌, ◌∙◌, ap, flat_map, arith}
use Rattle.std.specs.List.{range_with_len}
use Rattle.picture_svg.specs.Picture.{output_name}
use Rattle.picture_marks.proofs.MarkLists.{flat_range}
use Rattle.picture_svg.proofs.picture.output_names.Goals as goal

pub loop-place-preserved : goal.loop-place-preserved
loop-place-preserved c =
    let next = flat_range (output_name c.args.channels c.args.scales.now) c.loop-place.place in
    cc (next, c.in_ok-push_str.ensures.bytes, c.in_ok-output_name.ensures, c.deref.ensures, c.loop-place.invariant)

pub returns : goal.returns
returns c =
    let all : c.loop-place.place ≡ c.args.outputs = omega arith in
    c.loop-place.invariant ∙ ap (λ n. flat_map (output_name c.args.channels c.args.scales.now) (range_with_len 0 n)) all
