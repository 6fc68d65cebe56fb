-- The words of an actuator: what it takes of a channel's frame, and how its words move. This project's own.
use Rattle.std.specs.Prelude.{ℕ, Bool, ◌&&◌, ◌==◌, ℤ, pos, ◌≤ℤ◌, List, length, map, Option, Some, None, option_and_then, if◌then◌else◌}
use Rattle.std.specs.Ordering.{int_eq}
use Rattle.guards_model.specs.declared.Code.TheVariants.{Ramp}
use Rattle.guards_model.specs.Channels.{Channel, numbers_below}
use Rattle.guards_model.specs.Contexts.{word_of}
use Rattle.guards_model.specs.Fields.{frame_in}
use Rattle.guards_model.specs.Frames.{FrameValue, vote_body}
use Rattle.guards_model.specs.Majority.{majority}
use Rattle.guards_model.specs.Natives.{native}
use Rattle.guards_model.specs.Network.{ballot_of}
use Rattle.guards_model.specs.Voting.{Ballots, present}

-- ---- the words

-- the last word, moved towards the wanted one by at most the step
abbrev pub limited : ℤ → ℤ → ℤ → ℤ
limited last wanted step = native Ramp last wanted step

-- each step is at least 0
abbrev pub AreForward : List ℤ → Type 0
AreForward steps = (k : ℕ) → pos 0 ≤ℤ word_of steps k

-- a word moves towards the wanted one, and stays where there is none
abbrev pub moved : ℤ → ℤ → Option ℤ → ℤ
moved step last None = last
moved step last (Some wanted) = limited last wanted step

-- in a place, the word that strictly more than half of the ballots that are there hold, if there is one
abbrev pub wanted_at : Ballots → ℕ → Option ℤ
wanted_at ballots k = majority int_eq (map (λ words. word_of words k) (present ballots))

-- each word moves towards the wanted one in its place, and stays where there is none
abbrev pub words_moved : List ℤ → List ℤ → Ballots → List ℤ
words_moved steps last ballots =
    map (λ k. moved (word_of steps k) (word_of last k) (wanted_at ballots k)) (numbers_below (length last))

-- each word moves towards these
abbrev pub words_towards : List ℤ → List ℤ → List ℤ → List ℤ
words_towards steps last wanted =
    map (λ k. limited (word_of last k) (word_of wanted k) (word_of steps k)) (numbers_below (length last))

-- ---- what is sent, and what of it counts

-- the voted words that there are
abbrev pub voted_words : List (Option ℤ) → List ℤ
voted_words votes = present votes

-- the frame with which a channel tells its voted words
abbrev pub output_frame : ℕ → ℕ → Channel → List ℤ → FrameValue
output_frame version c q words = record { version = version; sender = q; cycle = c; body = vote_body words }

-- so many words
abbrev pub of_count : ℕ → List ℤ → Option (List ℤ)
of_count outputs words = if length words == outputs then Some words else None

-- the words of a frame, where it is of this version, the true sender's and of the running cycle, and a vote frame with
-- so many words
abbrev pub ballot_counting : ℕ → ℕ → ℕ → Channel → FrameValue → Option (List ℤ)
ballot_counting version outputs c from f =
    if f.version == version && (f.sender == from && f.cycle == c)
    then option_and_then (of_count outputs) (ballot_of (Some f.body)) else None

-- the words of what was delivered of a channel's frame
abbrev pub ballot_spelled : ℕ → ℕ → ℕ → Channel → Option (List ℕ) → Option (List ℤ)
ballot_spelled version outputs c from piece =
    option_and_then (ballot_counting version outputs c from) (option_and_then frame_in piece)
