-- A mission and the trace of its run in one input: where the mission's bytes end, and where the trace begins.
use Rattle.std.specs.Prelude.{ℕ, Bool, ◌||◌, List, [], ◌∷◌, codes, if◌then◌else◌}
use Rattle.std.specs.List.{concat}
use Rattle.std.specs.Str.{bytes_eq}
use Rattle.guards_audit.specs.Lines.{lines_in}

-- a line that is just this text, with its line end or, as a last piece, without one
abbrev pub is_mark : List ℕ → Bool
is_mark line = bytes_eq line (codes "--- trace\n") || bytes_eq line (codes "--- trace")

-- the lines before the first mark, and those after it; without a mark all lines stand before it
abbrev pub lines_before : List (List ℕ) → List (List ℕ)
lines_before [] = []
lines_before (line ∷ lines) = if is_mark line then [] else line ∷ lines_before lines

abbrev pub lines_after : List (List ℕ) → List (List ℕ)
lines_after [] = []
lines_after (line ∷ lines) = if is_mark line then lines else lines_after lines

-- the bytes of the mission: those before the first mark
unfoldable pub mission_bytes : List ℕ → List ℕ
mission_bytes input = concat (lines_before (lines_in input))

-- the bytes of the trace: those after it
unfoldable pub trace_bytes : List ℕ → List ℕ
trace_bytes input = concat (lines_after (lines_in input))
