use Rattle.std.proofs.Common.{ap, ◌∙◌}
use Rattle.guards_model.specs.Voting.{accused_of}
use Rattle.voter.proofs.Padded.{accused-padded}
use Rattle.voter.proofs.ballots.accusations.Goals as goal

pub returns-clause-padded : goal.returns-clause-padded
returns-clause-padded c =
    λ cast places e. c.accused.ensures ∙ ap (accused_of c.args.active c.args.ballots.now) e
    ∙ accused-padded c.args.active c.args.ballots.now cast places
