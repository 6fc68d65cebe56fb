use Rattle.std.proofs.Common.{◌≡◌, length, take, drop, Some, length-take, arith, subst, ◌∙◌}
use Rattle.std.specs.Prelude.{pos, replicate}
use Rattle.guards_model.specs.Fields.{many, word_at}
use Rattle.icn_frames.proofs.FrontOfZeros.{padded}
use Rattle.icn_frames.proofs.reading.Reader.ballot_words.Goals as goal

pub returns : goal.returns
returns c =
    let n : length (take c.args.count (replicate 8 (pos 0))) ≡ c.args.count =
    omega (arith, length-take c.args.count (replicate 8 (pos 0)), c.requires) in
    let p = padded c.fill_words.new.words (drop c.args.count (replicate 8 (pos 0))) c.args.count
    (c.fill_words.auto.words ∙ n) in
    rw p.0 (subst (λ k. many word_at k c.args.self.now ≡ Some (c.fill_words.new.words, c.fill_words.new.self)) n
    c.in_ok-fill_words.ensures)
