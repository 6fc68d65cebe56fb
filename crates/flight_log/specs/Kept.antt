-- What contracts see of a flight log. This project's own.
use Rattle.std.specs.Prelude.{◌≡◌, ℕ, List}
use Rattle.circular_buffer.specs.Buffer.{keep_last}

-- the parts that are kept, from the oldest, and how many are kept at most
pub record Kept : Type 0 where
  pub parts : List (List ℕ)
  pub room : ℕ

abbrev pub kept : List (List ℕ) → ℕ → Kept
kept parts room = record { parts = parts; room = room }

-- after these pushes the log has the last of them, as many as it has room for, or all where they are fewer
abbrev pub HasLastOf : List (List ℕ) → Kept → Type 0
HasLastOf pushed log = log.parts ≡ keep_last log.room pushed
