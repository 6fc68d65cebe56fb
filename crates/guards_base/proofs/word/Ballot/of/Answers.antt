use Rattle.std.proofs.Common.{subst, sym, ◌++◌, drop, length, replicate, pos}
use Rattle.guards_base.specs.Padding.{IsPadded}
use Rattle.guards_base.proofs.PaddedWords.{padded_words}
use Rattle.guards_base.proofs.word.Ballot.of.Goals as goal

pub invariant_of-result : goal.invariant_of-result
invariant_of-result c =
    let words = c.args.words.now in
    subst (λ front. IsPadded 8 (length words) (front ++ drop (length words) (replicate 8 (pos 0))))
    (sym c.copy_from_slice.ensures.after)
    (padded_words 8 words c.requires.least c.requires.most)
