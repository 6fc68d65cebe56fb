use Rattle.std.proofs.Common.{◌≡◌, flat_map, take, string_bytes}
use Rattle.guards_model.specs.Texts.{channel_line}
use Rattle.guards_model.specs.Records.{shown_line}
use Rattle.report_text.proofs.lines.channel_lines.Given as goal

abbrev pub invariant-loop-line : goal.invariant-loop-line
invariant-loop-line l = string_bytes l.text
    ≡ flat_map (λ v. channel_line (shown_line l.channels l.width l.outputs v)) (take l.line-index l.lines)
