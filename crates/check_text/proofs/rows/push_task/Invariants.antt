use Rattle.std.proofs.Common.{◌≡◌, ◌++◌, take}
use Rattle.std.specs.Prelude.{flat_map}
use Rattle.check_text.specs.Check.{write_text}
use Rattle.check_text.proofs.rows.push_task.Given as goal

-- the lines of the writes before this one were appended
abbrev pub invariant-loop-place : goal.invariant-loop-place
invariant-loop-place l = l.text ≡ l.initial.text ++ flat_map (write_text l.row l.task.name) (take l.place l.task.writes)
