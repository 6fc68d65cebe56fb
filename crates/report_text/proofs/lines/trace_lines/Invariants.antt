use Rattle.std.proofs.Common.{◌≡◌, flat_map, take, string_bytes}
use Rattle.guards_model.specs.Texts.{trace_line}
use Rattle.report_text.proofs.lines.trace_lines.Given as goal

abbrev pub invariant-loop-trace : goal.invariant-loop-trace
invariant-loop-trace l = string_bytes l.text ≡ flat_map trace_line (take l.trace-index l.traces)
