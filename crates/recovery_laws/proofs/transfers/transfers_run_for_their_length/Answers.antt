use Rattle.recovery_laws.proofs.Goes.{runs_for, ends_at, runs_on_at}
use Rattle.recovery_laws.proofs.TargetsKept.{had_since}
use Rattle.recovery_laws.proofs.transfers.transfers_run_for_their_length.Goals as goal

pub returns-clause-runs : goal.returns-clause-runs
returns-clause-runs c M L q s last mission late few starts kept = runs_for M L mission q s starts last late few kept

pub returns-clause-ends : goal.returns-clause-ends
returns-clause-ends c M L q s last k mission late few starts kept is at_last =
    ends_at M L mission q s starts last k late few kept is at_last

pub returns-clause-endless : goal.returns-clause-endless
returns-clause-endless c M L q s last mission late few starts kept none =
    runs_on_at M L mission q s starts last late few kept none

pub returns-clause-kept : goal.returns-clause-kept
returns-clause-kept c M L q s last late runs = let had = had_since M L q s last late runs in (had.starts, had.kept)
