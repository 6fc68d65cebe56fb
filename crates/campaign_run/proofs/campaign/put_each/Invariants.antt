use Rattle.std.proofs.Common.{◌≡◌, ◌≤◌, ◌+◌, ℕ, length}
use Rattle.guards_io.specs.Views.{SinkView}
use Rattle.guards_model.specs.Missions.{MissionValue}
use Rattle.campaign_draws.specs.declared.rates.Rates.{Rates}
use Rattle.campaign_run.specs.Beside.{HasPut, HasRows}
use Rattle.campaign_run.proofs.campaign.put_each.Given as goal

-- the rows so far were written and added up, whichever runs of a campaign they are
abbrev pub invariant-loop-row : goal.invariant-loop-row
invariant-loop-row g l = record {
  within : l.row-index ≤ length l.rows;
  count : l.totals.runs ≡ l.initial.totals.runs + l.row-index;
  at : (M : MissionValue) (rates : Rates) (x all first : ℕ) (begun : SinkView) → first + length l.rows ≤ all →
      HasRows M rates x first l.rows → HasPut M rates x begun first l.initial.totals (g.K.Sink.seen l.initial.out) →
      HasPut M rates x begun (first + l.row-index) l.totals (g.K.Sink.seen l.out);
}
