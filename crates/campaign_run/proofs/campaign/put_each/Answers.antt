use Rattle.std.proofs.Common.{◌+◌, ◌≡◌, Ok, Err, length, subst, arith}
use Rattle.std.proofs.lemmas.Result.{err_from_is_err_and}
use Rattle.campaign_run.specs.Beside.{HasPut}
use Rattle.campaign_run.proofs.Campaigning.{one_more_put}
use Rattle.campaign_run.proofs.campaign.put_each.Goals as goal

pub loop-row-init : goal.loop-row-init
loop-row-init g c =
    record {
      within = omega arith;
      count = omega arith;
      at = λ M rates x all first begun le has put.
          let none : first ≡ first + 0 = omega arith in
          subst (λ n. HasPut M rates x begun n c.args.totals.now (g.K.Sink.seen c.args.out.now)) none put;
    }

pub loop-row-preserved : goal.loop-row-preserved
loop-row-preserved g c =
    let inv = c.loop-row.invariant in
    let k = c.loop-row.row-index in
    record {
      within = omega (arith, c.loop-row-test.true);
      count = omega (arith, c.in_ok-put_row.ensures.count, inv.count);
      at = λ M rates x all first begun le has put.
          one_more_put M rates x begun first k all c.args.rows.now c.row-item.result c.loop-row.totals
          c.put_row.new.totals (g.K.Sink.seen c.loop-row.out) (g.K.Sink.seen c.put_row.new.out) (Ok tt)
          c.loop-row-test.true le has c.row-item.is (inv.at M rates x all first begun le has put)
          c.in_ok-put_row.ensures.row;
    }

pub returns-in_err-put_row-clause-rows : goal.returns-in_err-put_row-clause-rows
returns-in_err-put_row-clause-rows g c =
    let p = err_from_is_err_and c.from_residual.result c.from_residual.ensures.1 in
    let inv = c.loop-row.invariant in
    rw (p.1, p.2)
    (λ M rates x all first begun le has put.
    one_more_put M rates x begun first c.loop-row.row-index all c.args.rows.now c.row-item.result c.loop-row.totals
    c.put_row.new.totals (g.K.Sink.seen c.loop-row.out) (g.K.Sink.seen c.put_row.new.out)
    (Err c.in_err-put_row.field-0.0) c.loop-row-test.true le has c.row-item.is
    (inv.at M rates x all first begun le has put) c.in_err-put_row.ensures.row)

pub returns-clause-rows : goal.returns-clause-rows
returns-clause-rows g c =
    let inv = c.loop-row.invariant in
    λ M rates x all first begun le has put.
    let end : first + c.loop-row.row-index ≡ first + length c.args.rows.now =
    omega (arith, c.loop-row-test.false, inv.within) in
    subst (λ n. HasPut M rates x begun n c.loop-row.totals (g.K.Sink.seen c.loop-row.out)) end
    (inv.at M rates x all first begun le has put)
