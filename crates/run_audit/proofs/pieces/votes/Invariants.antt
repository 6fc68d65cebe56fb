use Rattle.std.proofs.Common.{◌≡◌, length, map, take, Some}
use Rattle.run_audit.proofs.pieces.votes.Given as goal

-- the votes so far are the words
abbrev pub invariant-loop-place : goal.invariant-loop-place
invariant-loop-place l = (length l.votes ≡ 8) × (take l.place l.votes ≡ map (λ w. Some w) (take l.place l.words))
