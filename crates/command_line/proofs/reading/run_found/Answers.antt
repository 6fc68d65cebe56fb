use Rattle.std.proofs.Common.{◌∙◌, ap₂, codes}
use Rattle.clap.proofs.WalkLemmas.{first_value-rows}
use Rattle.clap.specs.Words.{found_of}
use Rattle.command_line.specs.ClapLine.{run_found, run_given}
use Rattle.command_line.proofs.reading.run_found.Goals as goal

pub returns-in-Some : goal.returns-in-Some
unfolding run_found
returns-in-Some c =
    c.run_last.ensures ∙ ap₂ run_given c.has_flag-trace.ensures
    (c.in-Some.ensures ∙ first_value-rows (found_of c.args.found.now) (codes "last"))

pub returns-in-None : goal.returns-in-None
unfolding run_found
returns-in-None c =
    ap₂ run_given c.has_flag-trace.ensures
    (c.in-None.ensures ∙ first_value-rows (found_of c.args.found.now) (codes "last"))
