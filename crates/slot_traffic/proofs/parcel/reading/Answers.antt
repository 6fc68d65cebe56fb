use Rattle.slot_traffic.proofs.PiecesRead.{own_frame}
use Rattle.slot_traffic.proofs.parcel.reading.Goals as goal

pub returns-in-AsSent-clause-same : goal.returns-in-AsSent-clause-same
returns-in-AsSent-clause-same c = λ f range. rw c.in-AsSent.is (own_frame f range)
