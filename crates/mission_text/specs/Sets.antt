-- What four words of a write are set to.
use Rattle.std.specs.Prelude.{List, [], ◌∷◌, Option, option_map}
use Rattle.guards_model.specs.Expressions.{Expression}
use Rattle.expr_core.specs.Tree.{tree}
use Rattle.mission_text.specs.declared.tasks.FourSets.{FourSets}

abbrev pub four_trees : FourSets → List (Option Expression)
four_trees s = option_map tree s.a ∷ option_map tree s.b ∷ option_map tree s.c ∷ option_map tree s.d ∷ []
