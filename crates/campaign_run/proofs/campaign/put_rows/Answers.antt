use Rattle.std.proofs.Common.{Err, ap, subst, ◌∙◌, ◌+◌, ◌≡◌, ◌≤◌, arith}
use Rattle.std.proofs.lemmas.Result.{err_from_is_err_and}
use Rattle.guards_model.specs.Texts.{TextValue}
use Rattle.campaign_draws.specs.Drawing.{sizes_of, state_of}
use Rattle.campaign_text.specs.Summaries.{TotalsValue, totals_of}
use Rattle.campaign_run.specs.Beside.{HasPut}
use Rattle.campaign_run.specs.Campaigns.{PutsText}
use Rattle.campaign_run.proofs.Campaigning.{head_done, head_stops}
use Rattle.campaign_run.proofs.Following.{later_state}
use Rattle.campaign_run.proofs.campaign.put_rows.Goals as goal

pub loop-first-init : goal.loop-first-init
unfolding totals_of state_of
loop-first-init g c =
    record {
      within = omega arith;
      count = ap (λ (t : TotalsValue). t.runs) c.requires.none;
      next = c.of-draws.ensures;
      put =
          head_done c.args.mission.now c.args.rates c.args.state (g.K.Sink.seen c.args.out.now) c.args.totals.now
          (g.K.Sink.seen c.put_text.new.out) c.requires.none (rw c.head_row.ensures at c.in_ok-put_text.ensures);
    }

pub returns-in_err-put_text : goal.returns-in_err-put_text
returns-in_err-put_text g c =
    let p = err_from_is_err_and c.from_residual.result c.from_residual.ensures.1 in
    rw (p.1, p.2)
    (head_stops c.args.mission.now c.args.rates c.args.state (g.K.Sink.seen c.args.out.now) c.args.runs
    (g.K.Sink.seen c.put_text.new.out) c.in_err-put_text.field-0.0
    (subst
    (λ (t : TextValue). PutsText (g.K.Sink.seen c.args.out.now) (g.K.Sink.seen c.put_text.new.out) t
    (Err c.in_err-put_text.field-0.0))
    c.head_row.ensures c.in_err-put_text.ensures))

pub loop-first-preserved : goal.loop-first-preserved
loop-first-preserved g c =
    let inv = c.loop-first.invariant in
    let M = c.args.mission.now in
    let first = c.loop-first.first in
    let count = c.min-count.result in
    let within : first + count ≤ c.args.runs = omega (arith, c.min-count.ensures, c.loop-first-test.true) in
    record {
      within = within;
      count = c.in_ok-put_next.ensures.count;
      next =
          c.in_ok-put_next.ensures.number ∙ ap (λ s. state_of (sizes_of M) c.args.rates s count) inv.next
          ∙ later_state (sizes_of M) c.args.rates c.args.state first count;
      put = c.in_ok-put_next.ensures.rows c.args.state c.args.runs (g.K.Sink.seen c.args.out.now) within inv.next inv.put;
    }

pub returns-in_err-put_next : goal.returns-in_err-put_next
returns-in_err-put_next g c =
    let p = err_from_is_err_and c.from_residual-in_err-put_next.result c.from_residual-in_err-put_next.ensures.1 in
    let inv = c.loop-first.invariant in
    let within : c.loop-first.first + c.min-count.result ≤ c.args.runs =
    omega (arith, c.min-count.ensures, c.loop-first-test.true) in
    rw (p.1, p.2)
    (c.in_err-put_next.ensures.rows c.args.state c.args.runs (g.K.Sink.seen c.args.out.now) within inv.next inv.put)

pub returns : goal.returns
returns g c =
    let inv = c.loop-first.invariant in
    let all : c.loop-first.first ≡ c.args.runs = omega (arith, c.loop-first-test.false, inv.within) in
    subst
    (λ n. HasPut c.args.mission.now c.args.rates c.args.state (g.K.Sink.seen c.args.out.now) n c.loop-first.totals
    (g.K.Sink.seen c.loop-first.out))
    all inv.put
