use Rattle.std.proofs.Common.{rules, tests, ◌∙◌, sym, ap}
use Rattle.std.specs.Prelude.{option_map}
use Rattle.std.specs.List.{list_all}
use Rattle.std.proofs.lemmas.List.Folds.{list_all-map}
use Rattle.std.proofs.lemmas.Iterator.{YieldsList-from_slice}
use Rattle.std.proofs.lemmas.Iterator.Search.{all_from_yields_List}
use Rattle.guards_model.specs.Expressions.{fits_or_none}
use Rattle.expr_core.specs.Tree.{tree}
use Rattle.language_rows.proofs.tables.sets_fit.Goals as goal

pub returns : goal.returns
returns c =
    all_from_yields_List (λ expr. fits_or_none 2 1 (option_map tree expr)) _ _ c.all.result c.all.ensures.ran
    (YieldsList-from_slice c.set.inside.at cc) (λ x b q k. search (rules, tests))
    ∙ sym (list_all-map (fits_or_none 2 1) (option_map tree) c.set.inside.at)
    ∙ ap (list_all (fits_or_none 2 1)) c.set.view_is
