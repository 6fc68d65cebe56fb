use Rattle.std.proofs.Common.{suc, ◌+◌, ◌<◌, ◌^◌, length, get_or, refl, map, drop, ◌∙◌, arith}
use Rattle.std.specs.Fmt.{decimal}
use Rattle.std.proofs.lemmas.Bool.{leb-true}
use Rattle.std.proofs.lemmas.List.{length-set}
use Rattle.guards_audit.specs.Lines.{is_small}
use Rattle.guards_audit.proofs.ReadBack.{lacks-decimal}
use Rattle.run_audit.proofs.PieceLemmas.{all_at, all_set, next_piece, taken_more}
use Rattle.run_audit.proofs.pieces.counts.Goals as goal

pub piece-requires-text-text : goal.piece-requires-text-text
piece-requires-text-text c κs = c.loop-place.invariant.text

pub loop-place-preserved : goal.loop-place-preserved
loop-place-preserved c = record {
  whole = length-set c.loop-place.counts c.loop-place.place c.number.result ∙ c.loop-place.invariant.whole;
  formed = all_set is_small c.loop-place.counts c.loop-place.place c.number.result c.loop-place.invariant.formed
      c.number.ensures.formed;
  text = c.piece.ensures.text;
  read = λ ns h long e.
      let k = c.loop-place.place in
      let was = c.loop-place.invariant.read ns h long e in
      let low : k < length ns = omega (arith, long, c.loop-place-test.true, c.from-place-end.ensures) in
      let there : k < length c.loop-place.counts =
      omega (arith, c.loop-place.invariant.whole, c.loop-place-test.true, c.from-place-end.ensures, c.requires) in
      let cut = c.piece.ensures.cut (decimal (get_or ns k 0)) (map decimal (drop (k + 1) ns))
      (lacks-decimal 44 (get_or ns k 0) refl) (next_piece decimal ns k 0 c.loop-place.rest.now low was.0) in (
        cut.1,
        taken_more ns c.loop-place.counts k 0 c.number.result low there was.1
            (c.number.ensures.read (get_or ns k 0)
            (leb-true (suc (get_or ns k 0)) (2 ^ 32) (all_at is_small ns k 0 h low)) cut.0),
      );
}
