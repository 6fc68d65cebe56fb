use Rattle.std.proofs.Common.{◌≡◌, ℕ, ◌+◌, ◌*◌, ◌<◌, ◌≤◌, ◌||◌, true, List, length, take, drop}
use Rattle.std.specs.Prelude.{map, option_map}
use Rattle.guards_model.specs.Tasks.{replaced}
use Rattle.expr_core.specs.Tree.{tree}
use Rattle.task_table.proofs.write.replaced_words.Given as goal

abbrev pub invariant-loop-at : goal.invariant-loop-at
invariant-loop-at g l = l.words ≡ replaced (take l.at (map (option_map tree) l.set)) l.fn.old l.ctx l.inputs l.cycle
