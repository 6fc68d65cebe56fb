-- The names that a text has, by their first letter and the others.
use Rattle.std.specs.Prelude.{ℕ, List, [], codes}
use Rattle.guards_model.specs.declared.Code.TheVariants.{Sat, Mid, Ramp}
use Rattle.expr_text.specs.declared.word.Function.TheVariants as called
use Rattle.expr_text.specs.declared.word.Keyword.{Keyword}
use Rattle.expr_text.specs.declared.word.Keyword.TheVariants as keyword

abbrev pub first_letter : Keyword → ℕ
first_letter keyword.Cycle = 99
first_letter keyword.Input = 105
first_letter keyword.Block = 98
first_letter (keyword.Call (called.Native Sat)) = 115
first_letter (keyword.Call (called.Native Mid)) = 109
first_letter (keyword.Call (called.Native Ramp)) = 114
first_letter (keyword.Call called.Pick) = 112

abbrev pub other_letters : Keyword → List ℕ
other_letters keyword.Cycle = codes "ycle"
other_letters keyword.Input = codes "n"
other_letters keyword.Block = []
other_letters (keyword.Call (called.Native Sat)) = codes "at"
other_letters (keyword.Call (called.Native Mid)) = codes "id"
other_letters (keyword.Call (called.Native Ramp)) = codes "amp"
other_letters (keyword.Call called.Pick) = codes "ick"
