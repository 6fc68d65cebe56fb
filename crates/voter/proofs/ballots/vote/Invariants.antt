use Rattle.std.proofs.Common.{◌≡◌, None, length}
use Rattle.std.specs.Prelude.{map}
use Rattle.std.specs.Ordering.{int_eq}
use Rattle.guards_model.specs.Contexts.{word_of}
use Rattle.guards_model.specs.Majority.{majority_of}
use Rattle.guards_model.specs.Voting.{cast_of}
use Rattle.voter.proofs.Gathering.{filled_to}
use Rattle.voter.proofs.ballots.vote.Given as goal

abbrev pub invariant-loop-place : goal.invariant-loop-place
invariant-loop-place l =
    l.voted ≡ filled_to (λ k.
    majority_of int_eq (length l.fn.active) (map (λ words. word_of words k) (cast_of l.fn.active l.ballots))) None 8
    l.place
