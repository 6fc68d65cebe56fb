-- The lines of wrong words and of a verdict on a trace.
use Rattle.std.specs.Prelude.{ℕ, List, ◌++◌, codes}
use Rattle.std.specs.Fmt.{decimal}

unfoldable pub usage_line : List ℕ
usage_line = codes "usage: guards run [--trace] [--last K] | check | demo N | audit\n"

-- the lines of the two verdicts on a trace
unfoldable pub yes_line : List ℕ
yes_line = codes "audit yes\n"

unfoldable pub no_line : ℕ → List ℕ
no_line line = codes "audit: no at line " ++ (decimal line ++ codes "\n")
