use Rattle.std.proofs.Common.{◌≡◌, ◌*◌, ◌==◌, drop, length, nat_lt}
use Rattle.std.specs.Prelude.{map, find, count_by}
use Rattle.guards_model.specs.Majority.{majority}
use Rattle.join_vote.proofs.sweeps.most_start.Given as goal

abbrev pub invariant-loop-frame : goal.invariant-loop-frame
invariant-loop-frame l =
    find (λ v. nat_lt (length (map (λ f. f.start) l.frames)) (2 * count_by (λ s. v == s) (map (λ f. f.start) l.frames)))
    (map (λ f. f.start) (drop l.frame-index l.frames))
    ≡ majority (λ a b. a == b) (map (λ f. f.start) l.frames)
