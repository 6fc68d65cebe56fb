use Rattle.std.proofs.Common.{rules, pos, ap, ◌∙◌}
use Rattle.std.specs.Int.{w64}
use Rattle.std.proofs.lemmas.Int.{to_z-of_z}
use mir.Val.{SFits}
use Rattle.guards_model.specs.Words.{is_word}
use Rattle.guards_model.proofs.Numbers.{word_of_fits}
use Rattle.run_audit.proofs.PieceLemmas.{word_read}
use Rattle.run_audit.proofs.pieces.word.Goals as goal

pub returns-clause-read : goal.returns-clause-read
returns-clause-read c =
    let fits : SFits w64 c.unwrap_or.result = search rules in
    λ w h e. to_z-of_z w64 c.unwrap_or.result fits ∙ c.unwrap_or.ensures
    ∙ word_read w c.args.text.now c.parse.result (pos 0) h e c.parse.ensures.value.0

pub returns-clause-formed : goal.returns-clause-formed
returns-clause-formed c =
    let fits : SFits w64 c.unwrap_or.result = search rules in
    ap is_word (to_z-of_z w64 c.unwrap_or.result fits) ∙ word_of_fits c.unwrap_or.result fits
