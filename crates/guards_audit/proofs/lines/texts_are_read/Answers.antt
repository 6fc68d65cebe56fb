use Rattle.guards_audit.proofs.LinesBack.{text_back}
use Rattle.guards_audit.proofs.lines.texts_are_read.Goals as goal

pub returns : goal.returns
returns c = text_back
