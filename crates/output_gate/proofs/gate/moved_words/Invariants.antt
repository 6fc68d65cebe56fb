use Rattle.std.proofs.Common.{◌≡◌, None, pos}
use Rattle.guards_model.specs.Channels.{place_or}
use Rattle.guards_model.specs.Contexts.{word_of}
use Rattle.voter.proofs.Gathering.{filled_to}
use Rattle.guards_model.specs.Actuators.{moved}
use Rattle.output_gate.proofs.gate.moved_words.Given as goal

abbrev pub invariant-loop-place : goal.invariant-loop-place
invariant-loop-place g l =
    l.words ≡ filled_to (λ k. moved (word_of l.steps k) (word_of l.last k) (place_or l.wanted k None)) (pos 0) 8 l.place
