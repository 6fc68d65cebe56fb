use Rattle.std.proofs.Common.{rules}
use Rattle.std.specs.Int.{w64}
use mir.Val.{SFits}
use Rattle.guards_model.proofs.Numbers.{word_of_fits}
use Rattle.fault_entries.proofs.fields.is_a_word.Goals as goal

pub returns : goal.returns
returns c =
    let fits : SFits w64 c.args.word = search rules in
    word_of_fits c.args.word fits
