use Rattle.std.proofs.lemmas.Result.{err_from_is_err_and}
use Rattle.campaign_run.proofs.Campaigning.{campaign_ends}
use Rattle.campaign_run.proofs.campaign.run_campaign.Goals as goal

pub returns-in_err-put_rows : goal.returns-in_err-put_rows
returns-in_err-put_rows g c =
    let p = err_from_is_err_and c.from_residual.result c.from_residual.ensures.1 in
    rw (p.1, p.2) c.in_err-put_rows.ensures

pub returns : goal.returns
returns g c =
    campaign_ends c.args.mission.now c.args.rates c.args.state (g.K.Sink.seen c.args.out.now) c.args.runs
    c.put_rows.new.totals c.bound_of-bound.result (g.K.Sink.seen c.put_rows.new.out)
    (g.K.Sink.seen c.put_summary.new.out)
    c.put_summary.result c.bound_of-bound.ensures c.in_ok-put_rows.ensures c.put_summary.ensures
