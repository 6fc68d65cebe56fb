-- What reading a source to its end does, whatever pieces it gives, where at most so many bytes are wanted.
use Rattle.std.specs.Prelude.{◌≡◌, ◌≤◌, ◌+◌, ℕ, List, length, Result, Ok, Err}
use Rattle.std.specs.Io.KnownBytes.{Consumes, IsAtEnd}
use Rattle.guards_base.specs.Seen.{Seen}
use Rattle.guards_io.specs.Causes.{Rose}
use Rattle.guards_io.specs.Views.{SourceView}
use Rattle.guards_io.specs.declared.reading.ReadStop.{ReadStop}
use Rattle.guards_io.specs.declared.reading.ReadStop.TheVariants.{Failed, TooLong, Memory}

-- The bytes are all that was left. One byte too many was taken. The source failed before either. Memory ran out, and no
-- more than that one byte too many was taken.
abbrev pub ReadsAll : ℕ → SourceView → SourceView → Result (Seen ℕ) ReadStop → Type 0
ReadsAll limit old new (Ok bytes) =
    (length bytes.items ≤ limit) × Consumes old.left new.left bytes.items × IsAtEnd new.left × (new.faults ≡ old.faults)
ReadsAll limit old new (Err TooLong) =
    ((bytes : List ℕ) × (length bytes ≡ limit + 1) × Consumes old.left new.left bytes) × (new.faults ≡ old.faults)
ReadsAll limit old new (Err Failed) =
    ((bytes : List ℕ) × (length bytes ≤ limit) × Consumes old.left new.left bytes) × Rose old.faults new.faults
ReadsAll limit old new (Err Memory) =
    ((bytes : List ℕ) × (length bytes ≤ limit + 1) × Consumes old.left new.left bytes) × (new.faults ≡ old.faults)
