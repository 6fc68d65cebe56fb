-- What writing a text to a sink does, whatever pieces it takes.
use Rattle.std.specs.Prelude.{◌≡◌, ◌<◌, ◌++◌, ◌⊎◌, ℕ, List, length, Option, Result, Ok, Err}
use Rattle.std.specs.Io.KnownBytes.{Appends}
use Rattle.guards_io.specs.Causes.{Rose}
use Rattle.guards_io.specs.Views.{SinkView}
use Rattle.guards_io.specs.declared.writing.WriteStop.{WriteStop}
use Rattle.guards_io.specs.declared.writing.WriteStop.TheVariants.{Failed, Memory}

-- a front of the piece was appended, and not all of it
abbrev pub AppendsPart : Option (List ℕ) → Option (List ℕ) → List ℕ → Type 0
AppendsPart old new piece =
    (front rest : List ℕ) × (piece ≡ front ++ rest) × (0 < length rest) × Appends old new front

-- a front of the piece was appended, or all of it
abbrev pub AppendsFront : Option (List ℕ) → Option (List ℕ) → List ℕ → Type 0
AppendsFront old new piece = (front rest : List ℕ) × (piece ≡ front ++ rest) × Appends old new front

-- The whole text was written. The sink failed, and a part of the text was written. Memory ran out, after some of it.
abbrev pub Writes : SinkView → SinkView → List ℕ → Result (Unit {0}) WriteStop → Type 0
Writes old new text (Ok _) = Appends old.written new.written text × (new.faults ≡ old.faults)
Writes old new text (Err Failed) = AppendsPart old.written new.written text × Rose old.faults new.faults
Writes old new text (Err Memory) = AppendsFront old.written new.written text × (new.faults ≡ old.faults)

-- The whole part was written. The sink failed, and not all of it was written. There was no memory for it.
abbrev pub Puts : SinkView → SinkView → List ℕ → Result (Unit {0}) WriteStop → Type 0
Puts old new part (Ok _) = Appends old.written new.written part × (new.faults ≡ old.faults)
Puts old new part (Err Failed) = AppendsPart old.written new.written part × Rose old.faults new.faults
Puts old new part (Err Memory) = new ≡ old

-- A line was written, or, only where the sink's faults rose, a front of it.
abbrev pub WritesLine : SinkView → SinkView → List ℕ → Type 0
WritesLine old new line =
    (Appends old.written new.written line × (new.faults ≡ old.faults))
    ⊎ (AppendsPart old.written new.written line × Rose old.faults new.faults)
