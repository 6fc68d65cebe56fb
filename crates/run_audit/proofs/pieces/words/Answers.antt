use Rattle.std.proofs.Common.{rules, ◌≡◌, true, refl, replicate, ap, ◌+◌, ◌<◌, pos, length, get_or, map, drop, ◌∙◌, arith}
use Rattle.std.specs.List.{list_all}
use Rattle.std.specs.Fmt.{signed_decimal}
use Rattle.std.proofs.lemmas.List.{length-set}
use Rattle.std.specs.Int.{w64}
use Rattle.std.proofs.lemmas.Int.{to_z-of_z}
use mir.Val.{SFits}
use Rattle.guards_model.specs.Words.{is_word}
use Rattle.run_audit.proofs.PieceLemmas.{all_at, all_set, lacks_signed, next_piece, taken_more}
use Rattle.run_audit.proofs.pieces.words.Goals as goal

pub piece-requires-text-text : goal.piece-requires-text-text
piece-requires-text-text c κs = c.loop-place.invariant.text

zero_words : list_all is_word (replicate 8 (pos 0)) ≡ true
unfolding is_word
zero_words = refl

pub loop-place-init : goal.loop-place-init
loop-place-init c = record {
  whole = search rules;
  formed = zero_words;
  text = c.utf8.text;
  read = λ ws h long e. (e, search rules);
}

pub loop-place-preserved : goal.loop-place-preserved
loop-place-preserved c =
    let fits : SFits w64 c.word.result = search rules in
    let again = to_z-of_z w64 c.word.result fits in record {
      whole = length-set c.loop-place.words c.loop-place.place _ ∙ c.loop-place.invariant.whole;
      formed = all_set is_word c.loop-place.words c.loop-place.place _ c.loop-place.invariant.formed
          (ap is_word again ∙ c.word.ensures.formed);
      text = c.piece.ensures.text;
      read = λ ws h long e.
          let k = c.loop-place.place in
          let was = c.loop-place.invariant.read ws h long e in
          let low : k < length ws = omega (arith, long, c.loop-place-test.true, c.from-place-end.ensures) in
          let there : k < length c.loop-place.words =
          omega (
            arith,
            c.loop-place.invariant.whole,
            c.loop-place-test.true,
            c.from-place-end.ensures,
            c.requires,
          ) in
          let cut = c.piece.ensures.cut (signed_decimal (get_or ws k (pos 0))) (map signed_decimal (drop (k + 1) ws))
          (lacks_signed (get_or ws k (pos 0)))
          (next_piece signed_decimal ws k (pos 0) c.loop-place.rest.now low was.0) in (
            cut.1,
            taken_more ws c.loop-place.words k (pos 0) _ low there was.1
                (again ∙ c.word.ensures.read (get_or ws k (pos 0)) (all_at is_word ws k (pos 0) h low) cut.0),
          );
    }
