use Rattle.std.proofs.Common.{◌≡◌, ◌≤◌, ◌-◌}
use Rattle.campaign_draws.specs.Drawing.{sizes_of, state_of}
use Rattle.campaign_run.specs.Beside.{HasPut}
use Rattle.campaign_run.proofs.campaign.put_rows.Given as goal

-- the rows of the runs before this one were written and added up, and the next one is drawn from its number
abbrev pub invariant-loop-first : goal.invariant-loop-first
invariant-loop-first g l = record {
  within : l.first ≤ l.runs;
  count : l.totals.runs ≡ l.first;
  next : l.draws ≡ state_of (sizes_of l.mission) l.rates l.state l.first;
  put : HasPut l.mission l.rates l.state (g.K.Sink.seen l.fn.out) l.first l.totals (g.K.Sink.seen l.out);
}

-- each turn runs one run or more
abbrev pub decreases-loop-first : goal.decreases-loop-first
decreases-loop-first g l = l.runs - l.first
