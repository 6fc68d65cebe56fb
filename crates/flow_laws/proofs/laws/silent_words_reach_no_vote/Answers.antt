use Rattle.flow_laws.specs.Alike.{worked_context}
use Rattle.flow_laws.proofs.Steps.{same_votes, stay_alike}
use Rattle.flow_laws.proofs.laws.silent_words_reach_no_vote.Goals as goal

pub returns-clause-stay : goal.returns-clause-stay
returns-clause-stay c M inputs s n a b mission early given alike = stay_alike M mission inputs given s a b alike n early

pub returns-clause-votes : goal.returns-clause-votes
returns-clause-votes c M inputs s n a b mission early given alike =
    same_votes M mission (worked_context M inputs s a n) (worked_context M inputs s b n)
    (stay_alike M mission inputs given s a b alike n early)
