-- What a reader of the code answers.
use Rattle.std.specs.Prelude.{◌≡◌, ⊤, Option, Some, None, Result, Ok, Err}
use Rattle.icn_frames.specs.declared.unread.Unread.{Unread}
use Rattle.icn_frames.specs.declared.unread.Unread.TheVariants.{Memory, NoFrame}

abbrev pub FailsToRead : {Y : Type 0} → Unread → Option Y → Type 0
FailsToRead Memory read = ⊤
FailsToRead NoFrame read = read ≡ None

-- what a function returned, seen by `view`, is what reading gives, unless memory ran out
abbrev pub GivesRead : {X Y : Type 0} → (X → Y) → Result X Unread → Option Y → Type 0
GivesRead view (Ok x) read = read ≡ Some (view x)
GivesRead view (Err e) read = FailsToRead e read

-- the same, and the value has a further property
abbrev pub GivesWith : {X Y : Type 0} → (X → Y) → (X → Type 0) → Result X Unread → Option Y → Type 0
GivesWith view Has (Ok x) read = (read ≡ Some (view x)) × Has x
GivesWith view Has (Err e) read = FailsToRead e read
