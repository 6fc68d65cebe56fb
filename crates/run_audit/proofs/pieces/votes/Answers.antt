use Rattle.std.proofs.Common.{ap, ◌∙◌, arith}
use Rattle.std.specs.List.{join_with_byte}
use Rattle.run_audit.proofs.PieceLemmas.{are_cast, votes_are, votes_formed, votes_read}
use Rattle.run_audit.proofs.pieces.votes.Goals as goal

pub returns-clause-read : goal.returns-clause-read
returns-clause-read c =
    let all = votes_are c.loop-place.votes c.words-words.result c.loop-place.place (omega arith)
    c.loop-place.invariant.0 c.words-words.ensures.whole c.loop-place.invariant.1 in
    λ vs h long e.
    let cast = are_cast vs h in
    votes_read c.loop-place.votes c.words-words.result c.args.outputs vs cast all
    (c.words-words.ensures.read cast.words cast.formed (cast.long ∙ long) (e ∙ ap (join_with_byte 44) cast.text))

pub returns-clause-formed : goal.returns-clause-formed
returns-clause-formed c =
    let all = votes_are c.loop-place.votes c.words-words.result c.loop-place.place (omega arith)
    c.loop-place.invariant.0 c.words-words.ensures.whole c.loop-place.invariant.1 in
    votes_formed c.loop-place.votes c.words-words.result all c.words-words.ensures.formed
