use Rattle.mission_laws.proofs.ReadWords.{document_holds}
use Rattle.mission_laws.proofs.documents_hold_words.Goals as goal

pub returns : goal.returns
returns c = document_holds
