-- How many steps each actor has to make.
use Rattle.std.specs.Prelude.{ℕ}
use Rattle.guards_model.specs.declared.Actor.{Actor}
use Rattle.guards_model.specs.declared.Actor.TheVariants.{Task, Sweep}

abbrev pub part : ℕ × ℕ → Actor → ℕ
part o Task = o.0
part o Sweep = o.1
