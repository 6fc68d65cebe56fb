use Rattle.std.proofs.Common.{length, ap, arith}
use Rattle.picture_run.proofs.Marked.{no_more_after}
use Rattle.picture_run.proofs.drawing.draw_input.Goals as goal

pub draw_stream-requires : goal.draw_stream-requires
draw_stream-requires g c =
    omega (arith, no_more_after c.args.input.now, ap length c.split_run.ensures.trace, c.requires)
