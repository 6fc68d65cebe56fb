use Rattle.std.proofs.Common.{◌<◌, ◌++◌, [], length, ap, ◌∙◌, arith}
use Rattle.std.proofs.lemmas.List.{length-take-le}
use Rattle.std.proofs.lemmas.Option.{unwrap_or-slice_get}
use Rattle.check_text.specs.Check.{row_text}
use Rattle.check_text.proofs.PlaceTexts.{place_more}
use Rattle.check_text.proofs.check.push_rows.Goals as goal

pub loop-row-preserved : goal.loop-row-preserved
loop-row-preserved c =
    let rows = c.args.table.now.rows in
    let at = c.loop-row.row in
    let low : at < length rows = omega (arith, c.loop-row-test.true, c.rows-row-end.ensures.count) in
    place_more c.args.text.now rows at [] c.loop-row.text c.push_str.new.self row_text low
    (length-take-le at rows (omega (arith, low))) c.loop-row.invariant
    (c.in_ok-push_str.ensures.pushed
    ∙ ap (λ t. c.loop-row.text ++ t)
    (c.as_str.ensures ∙ c.in_ok-lines.ensures ∙ ap (row_text at) (unwrap_or-slice_get rows at [])))
