use Rattle.guards_laws.proofs.DueCount.{due_frames_count}
use Rattle.guards_laws.proofs.laws.due_frames_count.Goals as goal

pub returns : goal.returns
returns c = due_frames_count
