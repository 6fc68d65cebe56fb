-- What an answer unfolds to judge a literal text.
use Rattle.std.specs.Prelude.{⊤}
use Rattle.guards_runs.proofs.RunsOnLiterals.{run_on_literals}
use Rattle.guards_audit.specs.Reading.{line_read}
use Rattle.guards_audit.specs.Verdicts.{place_after, first_bad}

unfoldable pub judged_on_literals : ⊤
unfolding run_on_literals line_read place_after first_bad
judged_on_literals = tt
