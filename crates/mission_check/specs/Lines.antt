-- The lines of refusals of a mission.
use Rattle.std.specs.Prelude.{ℕ, List, [], ◌++◌, codes, Option, None, Some}
use Rattle.std.specs.Fmt.{decimal}
use Rattle.document_checks.specs.declared.why.Cause.{Cause}
use Rattle.document_checks.specs.declared.why.Cause.TheVariants as cause
use Rattle.document_checks.specs.declared.why.Why.{Why}

abbrev pub cause_name : Cause → List ℕ
cause_name cause.NotToml = codes "not-toml"
cause_name cause.Missing = codes "missing"
cause_name cause.WrongType = codes "wrong-type"
cause_name cause.OutOfRange = codes "out-of-range"
cause_name cause.Unknown = codes "unknown"
cause_name cause.Duplicate = codes "duplicate"
cause_name cause.BadExpr = codes "bad-expr"

unfoldable pub read_line : List ℕ
read_line = codes "read fault\n"

unfoldable pub long_line : List ℕ
long_line = codes "mission: too long\n"

-- the place in an expression's text, where there is one
abbrev pub place_text : Option ℕ → List ℕ
place_text None = []
place_text (Some at) = codes " at " ++ decimal at

unfoldable pub mission_line : Why → List ℕ
mission_line why = codes "mission: "
    ++ (cause_name why.cause ++ (codes " " ++ (why.path ++ (place_text why.at ++ codes "\n"))))
