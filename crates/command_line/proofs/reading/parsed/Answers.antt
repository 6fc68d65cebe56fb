use Rattle.std.proofs.Common.{◌≡◌, ◌∙◌, ap, refl, sym, map, true, List, ℕ}
use Rattle.clap.specs.Words.{App, is_simple, subcommand_of, takes}
use Rattle.command_line.specs.ClapLine.{command_found}
use Rattle.command_line.proofs.Spelled.{found}
use Rattle.command_line.proofs.reading.parsed.Goals as goal

pub returns-in-Ok : goal.returns-in-Ok
returns-in-Ok c =
    let words : List (List ℕ) = map (λ word. word.now) c.args.words.now in
    let met = (c.in-Ok.ensures.matches (ap is_simple c.in_ok-line.ensures)).1 in
    c.command_found.ensures ∙ ap command_found (met ∙ ap (λ (a : App). subcommand_of a words) c.in_ok-line.ensures)
    ∙ (found words c.requires).1

pub returns-else-eq : goal.returns-else-eq
returns-else-eq c =
    let words : List (List ℕ) = map (λ word. word.now) c.args.words.now in
    let memory = c.kind.ensures
    ∙ c.in-Err.ensures.passes (ap (λ (a : App). takes a words) c.in_ok-line.ensures ∙ (found words c.requires).0) in
    let met : c.eq.result ≡ true = c.eq.ensures ∙ rw memory refl in
    absurd (cc (sym c.if-eq.false ∙ met))
