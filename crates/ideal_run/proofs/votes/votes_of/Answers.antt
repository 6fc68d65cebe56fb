use Rattle.std.proofs.Common.{◌≡◌, length, ap, ◌∙◌, arith}
use Rattle.std.proofs.lemmas.List.{length-set}
use Rattle.ideal_run.proofs.Shown.{votes_more}
use Rattle.ideal_run.proofs.votes.votes_of.Goals as goal

pub loop-place-preserved : goal.loop-place-preserved
loop-place-preserved c =
    let eight = c.loop-place.invariant.eight in
    let few = c.count_of.ensures.few in
    let count = c.count_of.ensures.count in
    let same : length c.in_use-words.result.now ≡ length c.args.ballot.now = ap length c.in_use-words.ensures in
    record {
      voted = votes_more c.in_use-words.result.now c.loop-place.votes c.loop-place.place c.vote_at.result (omega arith)
          (omega arith) c.vote_at.ensures c.loop-place.invariant.voted;
      eight = length-set c.loop-place.votes c.loop-place.place c.vote_at.result ∙ eight;
    }
