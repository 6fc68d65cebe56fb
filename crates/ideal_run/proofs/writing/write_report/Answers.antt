use Rattle.std.proofs.lemmas.Result.{err_from_is_err_and}
use Rattle.guards_io.specs.Views.{SinkView}
use Rattle.ideal_run.proofs.WritesLemmas.{report_head, report_cycles, report_last}
use Rattle.ideal_run.proofs.writing.write_report.Goals as goal

pub returns-in_err-put_head : goal.returns-in_err-put_head
returns-in_err-put_head g c =
    let p = err_from_is_err_and c.from_residual.result c.from_residual.ensures.1 in
    let before : SinkView = g.K.Sink.seen c.args.out.now in
    let after : SinkView = g.K.Sink.seen c.put_head.new.out in
    rw (p.1, p.2) (report_head c.args.mission.now before after _ c.in_err-put_head.ensures)

pub returns-in_err-put_run : goal.returns-in_err-put_run
returns-in_err-put_run g c =
    let p = err_from_is_err_and c.from_residual-in_err-put_run.result c.from_residual-in_err-put_run.ensures.1 in
    rw (p.1, p.2) (report_cycles c.args.mission.now _ _ _ _ c.in_ok-put_head.ensures c.in_err-put_run.ensures)

pub returns : goal.returns
returns g c = report_last c.args.mission.now _ _ _ _ _ c.in_ok-put_head.ensures c.in_ok-put_run.ensures
    c.put_last.ensures
