-- Totals with one more run.
use Rattle.std.proofs.Common.{◌≡◌, List, ◌∷◌, refl}
use Rattle.campaign_text.specs.Summaries.{RunValue, totals_of, totals_with}

pub totals_go_on : (run : RunValue) (runs : List RunValue) →
    totals_with run.counts run.stop (totals_of runs) ≡ totals_of (run ∷ runs)
unfolding totals_with totals_of
totals_go_on run runs = refl
