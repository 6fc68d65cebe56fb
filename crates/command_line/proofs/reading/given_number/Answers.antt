use Rattle.std.proofs.Common.{◌∙◌, ap}
use Rattle.std.specs.Prelude.{option_and_then}
use Rattle.clap.proofs.WalkLemmas.{first_value-rows}
use Rattle.clap.specs.Words.{found_of}
use Rattle.command_line.specs.Commands.{number_of}
use Rattle.command_line.specs.ClapLine.{given_number}
use Rattle.command_line.proofs.reading.given_number.Goals as goal

pub returns-in-Some : goal.returns-in-Some
unfolding given_number
returns-in-Some c = c.number_of.ensures
    ∙ ap (option_and_then number_of) (c.in-Some.ensures ∙ first_value-rows (found_of c.args.found.now) c.args.id.now)

pub returns-in-None : goal.returns-in-None
unfolding given_number
returns-in-None c = ap (option_and_then number_of)
    (c.in-None.ensures ∙ first_value-rows (found_of c.args.found.now) c.args.id.now)
