use Rattle.std.proofs.Common.{◌≡◌, ◌≤◌, length}
use Rattle.guards_model.specs.Contexts.{word_of}
use Rattle.guards_model.specs.Frames.{SourceValue}
use Rattle.voter.proofs.Gathering.{gathered}
use Rattle.voter.proofs.sensors.words_at.Given as goal

abbrev pub invariant-loop-j : goal.invariant-loop-j
invariant-loop-j l = record {
  all : l.gathered.items
      ≡ gathered (λ (w : SourceValue). word_of w.words l.fn.place) l.words l.members l.j;
  few : length l.gathered.items ≤ l.j;
}
