-- Histories: lists of actors, each of which made one step.
use Rattle.std.specs.Prelude.{◌≡◌, ℕ, ◌+◌, List, [], ◌∷◌, ◌++◌}
use Rattle.guards_model.specs.declared.Actor.{Actor}
use Rattle.guards_model.specs.declared.Actor.TheVariants.{Task, Sweep}

abbrev pub one_if : Actor → Actor → ℕ
one_if Task Task = 1
one_if Task Sweep = 0
one_if Sweep Task = 0
one_if Sweep Sweep = 1

-- how many steps of the actor a history has
abbrev pub times : Actor → List Actor → ℕ
times a [] = 0
times a (x ∷ xs) = one_if a x + times a xs

abbrev pub StartsWith : {A : Type 0} → List A → List A → Type 0
StartsWith {A} whole part = (rest : List A) × (whole ≡ part ++ rest)
