use Rattle.std.proofs.Common.{◌≡◌, ◌++◌, take}
use Rattle.check_text.specs.Check.{texts_from, row_text}
use Rattle.check_text.proofs.check.push_rows.Given as goal

-- the lines of the rows before this one were appended
abbrev pub invariant-loop-row : goal.invariant-loop-row
invariant-loop-row l = l.text ≡ l.initial.text ++ texts_from row_text 0 (take l.row l.table.rows)
