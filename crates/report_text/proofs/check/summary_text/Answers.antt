use Rattle.std.proofs.Common.{◌≡◌, ◌++◌, string_bytes, refl}
use Rattle.guards_model.specs.CheckTexts.{demo_line, demo_sizes_line, changes_line, frames_line, last_votes_line}
use Rattle.report_text.proofs.ListTexts.{five_written}
use Rattle.report_text.proofs.check.summary_text.Goals as goal

pub returns : goal.returns
returns c =
    let one : string_bytes c.push_str.new.self ≡ string_bytes c.in_ok-text.text ++ demo_sizes_line =
    c.in_ok-push_str.ensures.bytes in
    let two : string_bytes c.push_str-2.new.self
    ≡ string_bytes c.push_str.new.self ++ string_bytes c.in_ok-changes_line.field-0 =
    cc (c.in_ok-push_str-2.ensures.bytes, c.deref.ensures) in
    let three : string_bytes c.push_str-3.new.self
    ≡ string_bytes c.push_str-2.new.self ++ string_bytes c.in_ok-frames_line.field-0 =
    cc (c.in_ok-push_str-3.ensures.bytes, c.deref-2.ensures) in
    let four : string_bytes c.push_str-4.new.self
    ≡ string_bytes c.push_str-3.new.self ++ string_bytes c.in_ok-last_votes_line.field-0 =
    cc (c.in_ok-push_str-4.ensures.bytes, c.deref-3.ensures) in
    five_written (demo_line c.args.n) demo_sizes_line (changes_line c.args.joins c.args.removals)
    (frames_line c.args.frames) (last_votes_line c.args.votes.now) _ _ _ _ _ _ _ _ _
    c.in_ok-text.ensures refl one c.in_ok-changes_line.ensures two c.in_ok-frames_line.ensures three
    c.in_ok-last_votes_line.ensures four
