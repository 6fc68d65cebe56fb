-- The lines of refusals of a report.
use Rattle.std.specs.Prelude.{ℕ, List, ◌++◌, codes}
use Rattle.std.specs.Fmt.{decimal}

unfoldable pub picture_usage : List ℕ
picture_usage = codes "usage: guards_picture < REPORT\n"

unfoldable pub long_report_line : List ℕ
long_report_line = codes "report: too long\n"

-- the first line that may not come where it stands
unfoldable pub bad_line : ℕ → List ℕ
bad_line line = codes "report: line " ++ (decimal line ++ codes "\n")
