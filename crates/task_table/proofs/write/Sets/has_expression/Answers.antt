use Rattle.std.proofs.Common.{rules, tests, ◌≡◌, ◌∙◌, refl, sym, ap, subst, ℕ, ◌+◌, ◌-◌, ◌*◌, ◌<◌, ◌≤◌, ◌==◌, Bool, true, false, cond, ◌&&◌, ◌||◌, List, [], ◌∷◌, ◌++◌, length, take, drop, get_or, Option, Some, None, arith, length-append}
use Rattle.std.specs.Prelude.{map, option_map, is_some}
use Rattle.std.specs.List.{list_any}
use Rattle.std.proofs.lemmas.Iterator.{YieldsList-from_slice}
use Rattle.std.proofs.lemmas.Iterator.Search.{any_from_yields_List}
use Rattle.expr_core.specs.declared.expr.Expr.{Expr}
use Rattle.expr_core.specs.Tree.{tree}
use Rattle.task_table.proofs.write.Sets.has_expression.Goals as goal

some_alike : (o : Option Expr) → is_some o ≡ is_some (option_map tree o)
some_alike None = refl
some_alike (Some e) = refl

any_alike : (set : List (Option Expr)) → list_any is_some set ≡ list_any is_some (map (option_map tree) set)
any_alike [] = refl
any_alike (o ∷ set) = ap (λ b. b || list_any is_some set) (some_alike o)
    ∙ ap (λ b. is_some (option_map tree o) || b) (any_alike set)

pub returns : goal.returns
returns c =
    any_from_yields_List is_some _ _ c.any.result c.any.ensures.ran (YieldsList-from_slice c.self.inside.at cc)
    (λ x b q k. search (rules, tests))
    ∙ any_alike c.self.inside.at ∙ ap (list_any is_some) c.self.view_is
