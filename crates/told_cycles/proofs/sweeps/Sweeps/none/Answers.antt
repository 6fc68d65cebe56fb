use Rattle.std.proofs.Common.{refl}
use Rattle.told_cycles.proofs.SweepSteps.{none_kept}
use Rattle.told_cycles.proofs.sweeps.Sweeps.none.Goals as goal

pub returns : goal.returns
returns c = λ next. none_kept _ c.args.blocks next refl c.requires.some c.requires.few c.no_cycles.ensures
    c.no_cycles-2.ensures refl
