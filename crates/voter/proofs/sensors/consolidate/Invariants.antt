use Rattle.std.proofs.Common.{◌≡◌, pos}
use Rattle.std.specs.Prelude.{map}
use Rattle.guards_model.specs.Contexts.{word_of}
use Rattle.guards_model.specs.Voting.{lower_median, present}
use Rattle.voter.specs.Sensors.{words_in}
use Rattle.voter.proofs.Gathering.{filled_to}
use Rattle.voter.proofs.sensors.consolidate.Given as goal

abbrev pub invariant-loop-place : goal.invariant-loop-place
invariant-loop-place l =
    l.inputs ≡ filled_to (λ k. lower_median (map (λ w. word_of w.words k) (present (words_in l.fn.active l.words))))
    (pos 0) 4 l.place
