use Rattle.std.proofs.Common.{◌≡◌, ◌≤◌, length}
use Rattle.guards_model.specs.Contexts.{word_of}
use Rattle.voter.proofs.Gathering.{gathered}
use Rattle.voter.proofs.ballots.votes_at.Given as goal

abbrev pub invariant-loop-j : goal.invariant-loop-j
invariant-loop-j l = record {
  all : l.votes.items
      ≡ gathered (λ words. word_of words l.fn.place) l.ballots l.members l.j;
  few : length l.votes.items ≤ l.j;
}
