use Rattle.std.proofs.Common.{◌≡◌, ℕ, List, ap, ◌∙◌}
use Rattle.std.specs.Prelude.{take}
use Rattle.guards_model.specs.Faults.{FaultValue}
use Rattle.campaign_draws.specs.declared.rates.Rates.{Rates}
use Rattle.campaign_draws.specs.Drawing.{SizesValue, cycles_faults, drawn_faults}
use Rattle.campaign_draws.proofs.script.drawn_entries.Goals as goal

-- the first entries of all are the drawn script
drawn_is : (S : SizesValue) (rates : Rates) (x : ℕ) (all first : List FaultValue) →
    all ≡ cycles_faults S rates S.cycles 0 x → first ≡ take 1024 all → first ≡ drawn_faults S rates x
unfolding drawn_faults
drawn_is S rates x all first are is = is ∙ ap (take 1024) are

pub returns-clause-entries : goal.returns-clause-entries
returns-clause-entries c =
    drawn_is c.args.sizes c.args.rates c.args.draws.now _ _ c.in_ok-all.ensures.faults c.first_faults.ensures
