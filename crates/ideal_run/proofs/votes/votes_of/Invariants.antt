use Rattle.std.proofs.Common.{◌≡◌, length, map, take, Some}
use Rattle.ideal_run.proofs.votes.votes_of.Given as goal

-- the words before this place are voted
abbrev pub invariant-loop-place : goal.invariant-loop-place
invariant-loop-place l = record {
  voted : take l.place l.votes ≡ map Some (take l.place l.words);
  eight : length l.votes ≡ 8;
}
