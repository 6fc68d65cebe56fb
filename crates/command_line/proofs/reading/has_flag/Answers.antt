use Rattle.std.proofs.Common.{◌∙◌, ap, Option, codes, Bool, false, List, ℕ}
use Rattle.std.specs.Option.{option_map_or}
use Rattle.std.specs.Str.{bytes_eq}
use Rattle.clap.proofs.WalkLemmas.{first_value-rows}
use Rattle.clap.specs.Words.{found_of}
use Rattle.command_line.specs.ClapLine.{has_flag}
use Rattle.command_line.proofs.reading.has_flag.Goals as goal

abbrev is_true : Option (List ℕ) → Bool
is_true text = option_map_or (λ t. bytes_eq t (codes "true")) text false

pub returns-in-Some : goal.returns-in-Some
unfolding has_flag
returns-in-Some c = c.eq.ensures
    ∙ ap is_true (c.in-Some.ensures ∙ first_value-rows (found_of c.args.found.now) c.args.id.now)

pub returns-in-None : goal.returns-in-None
unfolding has_flag
returns-in-None c = ap is_true (c.in-None.ensures ∙ first_value-rows (found_of c.args.found.now) c.args.id.now)
