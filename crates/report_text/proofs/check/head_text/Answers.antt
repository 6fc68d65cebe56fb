use Rattle.std.proofs.Common.{◌≡◌, ◌++◌, string_bytes}
use Rattle.guards_model.specs.CheckTexts.{sizes_line, rounds_line, writes_line, join_line}
use Rattle.report_text.proofs.ListTexts.{four_written}
use Rattle.report_text.proofs.check.head_text.Goals as goal

pub returns : goal.returns
returns c =
    let one : string_bytes c.push_str.new.self
    ≡ string_bytes c.in_ok-text.text ++ string_bytes c.in_ok-rounds_line.field-0 =
    cc (c.in_ok-push_str.ensures.bytes, c.deref.ensures) in
    let two : string_bytes c.push_str-2.new.self
    ≡ string_bytes c.push_str.new.self ++ string_bytes c.in_ok-writes_line.field-0 =
    cc (c.in_ok-push_str-2.ensures.bytes, c.deref-2.ensures) in
    let three : string_bytes c.push_str-3.new.self
    ≡ string_bytes c.push_str-2.new.self ++ string_bytes c.in_ok-join_line.field-0 =
    cc (c.in_ok-push_str-3.ensures.bytes, c.deref-3.ensures) in
    four_written (sizes_line c.args.channels c.args.cycles c.args.blocks) (rounds_line c.args.rounds)
    (writes_line c.args.writes) (join_line c.args.join) _ _ _ _ _ _ _
    c.in_ok-text.ensures c.in_ok-rounds_line.ensures one c.in_ok-writes_line.ensures two c.in_ok-join_line.ensures three
