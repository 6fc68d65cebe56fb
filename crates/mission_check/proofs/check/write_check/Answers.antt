use Rattle.std.proofs.Common.{List, ap, subst}
use Rattle.std.proofs.lemmas.Result.{err_from_is_err_and}
use Rattle.guards_model.specs.Tasks.{TaskValue}
use Rattle.check_text.specs.Check.{head_text, row_text, texts_from}
use Rattle.guards_io.specs.Writes.{Writes}
use Rattle.guards_io.specs.Views.{SinkView}
use Rattle.guards_io.proofs.WritesLemmas.{writes_then, writes_stop}
use Rattle.task_table.specs.Tables.{TableValue}
use Rattle.mission_check.proofs.check.write_check.Goals as goal

pub returns-in_err-put_head : goal.returns-in_err-put_head
returns-in_err-put_head g c =
    let p = err_from_is_err_and c.from_residual.result c.from_residual.ensures.1 in
    let before : SinkView = g.K.Sink.seen c.args.out.now in
    let after : SinkView = g.K.Sink.seen c.put_head.new.out in
    rw (p.1, p.2) (writes_stop before after (head_text c.args.mission.now)
    (texts_from row_text 0 c.args.mission.now.table) _ c.in_err-put_head.ensures)

pub returns : goal.returns
returns g c =
    let before : SinkView = g.K.Sink.seen c.args.out.now in
    let between : SinkView = g.K.Sink.seen c.put_head.new.out in
    let after : SinkView = g.K.Sink.seen c.put_rows.new.out in
    let rows : Writes between after (texts_from row_text 0 c.args.mission.now.table) c.put_rows.result =
    subst (λ (table : List (List TaskValue)). Writes between after (texts_from row_text 0 table) c.put_rows.result)
    (ap (λ (t : TableValue). t.rows) c.table.ensures) c.put_rows.ensures in
    writes_then before between after (head_text c.args.mission.now) (texts_from row_text 0 c.args.mission.now.table)
    c.put_rows.result c.in_ok-put_head.ensures rows
