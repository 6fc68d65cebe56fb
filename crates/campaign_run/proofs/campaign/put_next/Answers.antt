use Rattle.std.proofs.Common.{◌+◌, ◌≡◌, ◌≤◌, length, refl, subst, ap, arith}
use Rattle.campaign_run.specs.Beside.{PutsTo}
use Rattle.campaign_run.proofs.Campaigning.{memory_ends}
use Rattle.campaign_run.proofs.campaign.put_next.Goals as goal

pub returns-in_default-clause-rows : goal.returns-in_default-clause-rows
returns-in_default-clause-rows g c =
    λ x all begun le begins put.
    memory_ends c.args.mission.now c.args.rates x begun c.args.first all c.args.totals.now
    (g.K.Sink.seen c.args.out.now) (g.K.Sink.seen c.args.out.now) (omega (arith, le)) refl put

pub returns-clause-rows : goal.returns-clause-rows
returns-clause-rows g c =
    λ x all begun le begins put.
    let M = c.args.mission.now in
    let rows = c.in-Ok.rows.items in
    let puts = rw c.as_slice.ensures.value at c.put_each.ensures.rows in
    let same : length rows ≡ c.args.count = c.in-Ok.ensures.count in
    let within : c.args.first + length rows ≤ all = omega (arith, le, same) in
    subst
    (λ n. PutsTo M c.args.rates x begun all (c.args.first + n) c.put_each.new.totals (g.K.Sink.seen c.put_each.new.out)
    c.put_each.result)
    same
    (puts M c.args.rates x all c.args.first begun within (c.in-Ok.ensures.rows x begins) put)
