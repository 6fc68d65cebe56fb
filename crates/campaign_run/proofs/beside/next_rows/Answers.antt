use Rattle.std.proofs.Common.{rules, subst}
use Rattle.campaign_draws.specs.Drawing.{SizesValue}
use Rattle.campaign_run.proofs.Following.{AreStates, rows_made}
use Rattle.campaign_run.proofs.beside.next_rows.Goals as goal

pub returns-clause-rows : goal.returns-clause-rows
returns-clause-rows g c =
    λ x begins.
    let M = c.args.mission.now in
    let are = subst (λ (S : SizesValue). AreStates S c.args.rates c.args.draws.now c.args.count
    c.in_ok-states.states.items) c.sizes_of.ensures c.in_ok-states.ensures.states in
    rows_made M c.args.rates x c.args.first c.args.count c.args.draws.now c.in_ok-states.states.items begins
    are (λ rows. rows.items) c.rows_beside.result (search rules) (search rules)
