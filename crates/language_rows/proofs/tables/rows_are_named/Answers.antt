use Rattle.std.proofs.Common.{rules, tests, ◌∙◌, sym}
use Rattle.std.proofs.lemmas.List.Folds.{list_all-map}
use Rattle.std.proofs.lemmas.Iterator.{YieldsList-from_slice}
use Rattle.std.proofs.lemmas.Iterator.Search.{all_from_yields_List}
use Rattle.task_table.specs.Tables.{names_tasks}
use Rattle.language_rows.proofs.tables.rows_are_named.Goals as goal

pub returns : goal.returns
returns c =
    all_from_yields_List (λ row. names_tasks c.args.count row.items) _ _ c.all.result c.all.ensures.ran
    (YieldsList-from_slice c.args.rows.now.items cc) (λ x b q k. search (rules, tests))
    ∙ sym (list_all-map (names_tasks c.args.count) (λ row. row.items) c.args.rows.now.items)
