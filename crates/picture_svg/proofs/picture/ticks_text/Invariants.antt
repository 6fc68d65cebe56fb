use Rattle.std.proofs.Common.{◌≡◌, ◌*◌, flat_map, string_bytes}
use Rattle.std.specs.List.{range_with_len}
use Rattle.picture_svg.specs.Picture.{tick_step, tick_text}
use Rattle.picture_svg.proofs.picture.ticks_text.Given as goal

abbrev pub invariant-loop-number : goal.invariant-loop-number
invariant-loop-number l =
    string_bytes l.text ≡ flat_map (λ k. tick_text l.width l.axis (k * tick_step l.cycles)) (range_with_len 0 l.number)
