use Rattle.std.proofs.Common.{take, rules}
use Rattle.std.specs.Int.{w64}
use Rattle.std.proofs.lemmas.Int.{to_z-of_z}
use Rattle.std.proofs.lemmas.Result.{err_from_is_err_and}
use mir.Val.{SFits}
use Rattle.guards_model.specs.Fields.{word_at}
use Rattle.icn_frames.proofs.Loops.{ends, fills_on, filled}
use Rattle.icn_frames.proofs.reading.Reader.fill_words.Goals as goal

pub returns-in_err-words : goal.returns-in_err-words
returns-in_err-words c =
    let p = err_from_is_err_and c.from_residual.result c.from_residual.ensures.1 in
    rw (p.1, p.2) (ends word_at c.in_err-words.field-0.0 (take c.loop-i.i c.loop-i.words) _ c.loop-i.i c.loop-i.self _
    (c.loop-i-test.true) c.in_err-words.ensures c.loop-i.invariant.so_far)

pub loop-i-preserved : goal.loop-i-preserved
loop-i-preserved c =
    let fits : SFits w64 c.in_ok-words.field-0 = search rules in
    let h = fills_on word_at c.loop-i.words c.loop-i.i _ c.loop-i.self c.in_ok-words.field-0 c.word.new.self _
    c.loop-i-test.true c.loop-i.invariant.places c.in_ok-words.ensures c.loop-i.invariant.so_far in
    rw (to_z-of_z w64 c.in_ok-words.field-0 fits) record { so_far = h.0; places = h.1 }

pub returns : goal.returns
returns c = filled word_at c.loop-i.words c.loop-i.i _ c.loop-i.self _ c.loop-i-test.false c.loop-i.invariant.places
    c.loop-i.invariant.so_far
