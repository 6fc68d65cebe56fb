use Rattle.std.proofs.Common.{◌∙◌, ℕ, List, Option, Bor, ap, sym}
use Rattle.std.specs.Prelude.{not, option_map}
use Rattle.toml.specs.View.{items_view}
use Rattle.document_lint.specs.IdleTasks.{row_has, stands_nowhere, values_in}
use Rattle.document_lint.proofs.Values.{any_value}
use Rattle.document_lint.proofs.idle.stands_nowhere.Goals as goal

pub returns-in-Some : goal.returns-in-Some
returns-in-Some c =
    let rows = c.args.rows.now in
    let given : Option (Bor (List ℕ)) → Option (List ℕ) = option_map (λ text. text.now) in
    ap not (c.any_row.ensures ∙ any_value (row_has c.in-Some.name.now) rows)
    ∙ sym (ap (λ name. stands_nowhere (values_in (items_view rows)) (given name)) c.in-Some.is)
