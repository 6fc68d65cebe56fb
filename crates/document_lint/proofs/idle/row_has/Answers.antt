use Rattle.std.proofs.Common.{◌∙◌, List, ap, sym}
use Rattle.std.specs.List.{list_any}
use Rattle.toml.specs.View.{view, items_view}
use Rattle.toml.specs.declared.value.Value.{Value}
use Rattle.toml.proofs.Views.{view-Array}
use Rattle.document_lint.specs.IdleTasks.{is_text, row_has, values_in}
use Rattle.document_lint.proofs.Values.{any_value}
use Rattle.document_lint.proofs.idle.row_has.Goals as goal

pub returns-in-Array : goal.returns-in-Array
returns-in-Array c =
    let name = c.args.name.now in
    c.any_text.ensures
    ∙ any_value (is_text name) c.as_slice.result.now
    ∙ ap (λ (vs : List Value). list_any (is_text name) (values_in (items_view vs))) c.as_slice.ensures.value
    ∙ sym (ap (row_has name) (ap view c.in-Array.is ∙ view-Array c.in-Array.names))
