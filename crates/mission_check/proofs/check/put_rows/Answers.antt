use Rattle.std.proofs.Common.{◌≤◌, ◌<◌, ℕ, List, length, Ok, ap, subst, arith}
use Rattle.std.proofs.lemmas.List.{take_all}
use Rattle.std.proofs.lemmas.Result.{err_from_is_err_and}
use Rattle.check_text.specs.Check.{row_text, texts_from}
use Rattle.guards_io.specs.Writes.{Writes}
use Rattle.guards_io.specs.Views.{SinkView}
use Rattle.mission_check.proofs.RowTexts.{rows_more, rows_stop}
use Rattle.mission_check.proofs.check.put_rows.Goals as goal

pub returns-in_err-put_row : goal.returns-in_err-put_row
returns-in_err-put_row g c =
    let p = err_from_is_err_and c.from_residual.result c.from_residual.ensures.1 in
    let low : c.loop-row.row < length c.args.table.now.rows =
    omega (arith, c.loop-row-test.true, c.rows-row-end.ensures.count) in
    rw (p.1, p.2) (rows_stop c.args.table.now.rows c.loop-row.row _ _ _ _ low
    (c.loop-row.invariant.written, c.loop-row.invariant.kept) c.in_err-put_row.ensures)

pub loop-row-preserved : goal.loop-row-preserved
loop-row-preserved g c =
    let low : c.loop-row.row < length c.args.table.now.rows =
    omega (arith, c.loop-row-test.true, c.rows-row-end.ensures.count) in
    let all = rows_more c.args.table.now.rows c.loop-row.row _ _ _ low
    (c.loop-row.invariant.written, c.loop-row.invariant.kept) c.in_ok-put_row.ensures in
    record { written = all.0; kept = all.1 }

pub returns : goal.returns
returns g c =
    let rows = c.args.table.now.rows in
    let all : length rows ≤ c.loop-row.row = omega (arith, c.loop-row-test.false, c.rows-row-end.ensures.count) in
    let before : SinkView = g.K.Sink.seen c.args.out.now in
    let after : SinkView = g.K.Sink.seen c.loop-row.out in
    subst (λ (t : List ℕ). Writes before after t (Ok tt))
    (ap (texts_from row_text 0) (take_all c.loop-row.row rows all))
    (c.loop-row.invariant.written, c.loop-row.invariant.kept)
