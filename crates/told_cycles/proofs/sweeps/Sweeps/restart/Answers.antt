use Rattle.std.proofs.Common.{refl}
use Rattle.told_cycles.proofs.SweepSteps.{none_kept}
use Rattle.told_cycles.proofs.sweeps.Sweeps.restart.Goals as goal

pub returns : goal.returns
returns c = λ blocks next before cycles h.
    none_kept _ blocks next h.size h.some h.few c.no_cycles-self.ensures c.no_cycles-self-2.ensures refl
