use Rattle.std.proofs.Common.{◌≡◌, ◌∙◌, ◌++◌, ap, string_bytes}
use Rattle.guards_model.specs.Texts.{RecordValue}
use Rattle.report_text.proofs.ListTexts.{part_written}
use Rattle.report_text.proofs.report.cycle_text.Goals as goal

pub returns : goal.returns
returns c =
    let one : string_bytes c.push_str.new.self
    ≡ string_bytes c.in_ok-text.text ++ string_bytes c.in_ok-channel_lines.field-0 =
    cc (c.in_ok-push_str.ensures.bytes, c.deref.ensures) in
    let three : string_bytes c.push_str-2.new.self
    ≡ string_bytes c.push_traces.new.text ++ string_bytes c.in_ok-end_line.field-0 =
    cc (c.in_ok-push_str-2.ensures.bytes, c.deref-2.ensures) in
    part_written c.args.trace c.args.channels c.args.width c.args.outputs c.args.part.now _ _ _ _ _ _
    c.as_slice.result.now c.as_slice-2.result.now
    c.in_ok-text.ensures c.in_ok-channel_lines.ensures
    (c.as_slice.ensures ∙ ap (λ (v : RecordValue). v.lines) c.part.view_is) one
    c.in_ok-push_traces.ensures (c.as_slice-2.ensures ∙ ap (λ (v : RecordValue). v.traces) c.part.view_is)
    c.in_ok-end_line.ensures three
