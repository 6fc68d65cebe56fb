-- How many elements an array has, and a test of each.
use Rattle.std.proofs.Common.{◌≡◌, List, [], ◌∷◌, ◌++◌, Bool, true, length, refl, arith}
use Rattle.std.specs.List.{list_all}
use Rattle.std.proofs.lemmas.List.Folds.{list_all-append}
use Rattle.toml.specs.View.{items_view}
use Rattle.toml.specs.declared.value.Value.{Value}
use Rattle.document_checks.specs.Checks.{how_many}

pub counted : (values : List Value) → how_many (items_view values) ≡ length values
counted [] = refl
counted (value ∷ values) = grind (arith, counted values)

-- the test of one element more
pub all_pushed : {A : Type 0} (test : A → Bool) (xs : List A) (x : A) → list_all test xs ≡ true → test x ≡ true →
    list_all test (xs ++ x ∷ []) ≡ true
all_pushed test xs x all one = rw (list_all-append test xs (x ∷ []), all, one) refl
