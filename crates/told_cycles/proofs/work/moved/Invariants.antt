use Rattle.std.proofs.Common.{◌≡◌, ℕ, pos, ◌<◌, length, get_or}
use Rattle.guards_model.specs.Actuators.{limited}
use Rattle.guards_model.specs.Contexts.{word_of}
use Rattle.told_cycles.proofs.work.moved.Given as goal

-- the words so far are moved
abbrev pub invariant-loop-place : goal.invariant-loop-place
invariant-loop-place g l = record {
  whole : length l.next ≡ 8;
  long : length l.last ≡ 8;
  moved : (k : ℕ) → k < l.place →
      get_or l.next k (pos 0) ≡ limited (word_of l.last k) (word_of l.wanted k) (word_of l.steps k);
}
