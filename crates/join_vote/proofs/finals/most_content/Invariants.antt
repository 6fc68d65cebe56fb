use Rattle.std.proofs.Common.{◌≡◌, ◌*◌, drop, length, nat_lt}
use Rattle.std.specs.Prelude.{find, count_by}
use Rattle.guards_model.specs.Majority.{majority}
use Rattle.guards_model.specs.Replicas.{same_final}
use Rattle.join_vote.proofs.finals.most_content.Given as goal

abbrev pub invariant-loop-frame : goal.invariant-loop-frame
invariant-loop-frame l = find (λ v. nat_lt (length l.frames) (2 * count_by (same_final v) l.frames))
    (drop l.frame-index l.frames) ≡ majority same_final l.frames
