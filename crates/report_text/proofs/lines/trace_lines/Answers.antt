use Rattle.std.proofs.Common.{◌<◌, length, arith}
use Rattle.guards_model.specs.Texts.{trace_line}
use Rattle.report_text.proofs.ListTexts.{flat_map_next}
use Rattle.report_text.proofs.lines.trace_lines.Goals as goal

pub loop-trace-preserved : goal.loop-trace-preserved
loop-trace-preserved c =
    let below : c.loop-trace.trace-index < length c.args.traces.now = omega arith in
    let next = flat_map_next trace_line c.args.traces.now c.loop-trace.trace-index c.trace-item.result below
    c.trace-item.is in
    cc (next, c.in_ok-push_str.ensures.bytes, c.in_ok-trace_line.ensures, c.deref.ensures, c.loop-trace.invariant)
