use Rattle.world_laws.proofs.RunFronts.{run_front}
use Rattle.world_laws.proofs.fronts.fronts_end_at_stops.Goals as goal

pub returns : goal.returns
returns c = λ M earlier current new steps slot w few on inside carried.
    run_front M earlier current new steps slot on w inside few carried
