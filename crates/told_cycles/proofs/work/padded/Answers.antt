use Rattle.std.proofs.Common.{◌≡◌, length, take, ap, ◌∙◌, arith}
use Rattle.guards_base.specs.Padding.{padded}
use Rattle.told_cycles.proofs.ArrayLemmas.{padded_front}
use Rattle.told_cycles.proofs.work.padded.Goals as goal

pub returns : goal.returns
returns c =
    let size : length c.args.words.now ≡ 4 = omega arith in
    padded_front c.from-width.result c.args.words.now c.copy_from_slice.new.self size
    (omega (arith, c.from-width.ensures, c.requires)) c.copy_from_slice.ensures.after
    ∙ ap (λ n. padded 4 (take n c.args.words.now)) c.from-width.ensures
