use Rattle.std.proofs.Common.{◌<◌, length, arith}
use Rattle.guards_model.specs.Texts.{channel_line}
use Rattle.guards_model.specs.Records.{shown_line}
use Rattle.report_text.proofs.ListTexts.{flat_map_next}
use Rattle.report_text.proofs.lines.channel_lines.Goals as goal

pub loop-line-preserved : goal.loop-line-preserved
loop-line-preserved c =
    let below : c.loop-line.line-index < length c.args.lines.now = omega arith in
    let next = flat_map_next (λ v. channel_line (shown_line c.args.channels c.args.width c.args.outputs v))
    c.args.lines.now c.loop-line.line-index c.line-item.result below c.line-item.is in
    cc (next, c.in_ok-push_str.ensures.bytes, c.in_ok-channel_line.ensures, c.deref.ensures, c.loop-line.invariant)
