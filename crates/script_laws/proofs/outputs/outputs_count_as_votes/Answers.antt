use Rattle.script_laws.proofs.VoteFrames.{vote_counts}
use Rattle.script_laws.proofs.outputs.outputs_count_as_votes.Goals as goal

pub returns : goal.returns
returns c = vote_counts
