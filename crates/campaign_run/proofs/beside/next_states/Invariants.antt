use Rattle.std.proofs.Common.{◌≡◌, length}
use Rattle.campaign_draws.specs.Drawing.{state_of}
use Rattle.campaign_run.proofs.Following.{AreStates}
use Rattle.campaign_run.proofs.beside.next_states.Given as goal

-- the numbers of so many runs were kept, and the next one is the number of the run behind them
abbrev pub invariant-loop-place : goal.invariant-loop-place
invariant-loop-place l = record {
  count : length l.states.items ≡ l._place;
  are : AreStates l.sizes l.rates l.initial.draws l._place l.states.items;
  next : l.draws ≡ state_of l.sizes l.rates l.initial.draws l._place;
}
