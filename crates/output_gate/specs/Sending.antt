-- What the channels' lines send to the actuator, and what it takes of it. This project's own.
use Rattle.std.specs.Prelude.{◌≡◌, ℕ, ℤ, pos, Bool, IsTrue, not, ◌||◌, List, [], ◌∷◌, ◌++◌, map, take, Option, unwrap_or}
use Rattle.std.specs.List.{AllZip, AllByRecursion, list_any}
use Rattle.guards_model.specs.BusRules.{RuleValue}
use Rattle.guards_model.specs.Channels.{Channel, ChannelSet, has, channels_where}
use Rattle.guards_model.specs.Frames.{in_range}
use Rattle.guards_model.specs.Network.{EntryValue, Log}
use Rattle.guards_model.specs.Texts.{LineValue}
use Rattle.guards_model.specs.Voting.{Ballots}
use Rattle.guards_runs.specs.Disturbed.{differs_from}
use Rattle.guards_model.specs.Actuators.{output_frame, ballot_spelled}
use Rattle.guards_runs.specs.Outputs.{IsOutputDue, ballots_taken, is_output_charge}

-- the words of a line's votes, 0 where there is none
abbrev pub line_words : ℕ → LineValue → List ℤ
line_words outputs line = take outputs (map (λ v. unwrap_or v (pos 0)) line.votes)

-- the entry of a line
abbrev pub IsLineDue : ℕ → ℕ → ℕ → LineValue → EntryValue → Type 0
IsLineDue version outputs c line entry = IsOutputDue version c line.channel (line_words outputs line) entry

-- the log grew by one entry for each of these lines, in order, each as the bus may make it
pub record AreLinesSent (may : List RuleValue → EntryValue → Type 0) (script : List RuleValue) (old new : Log)
    (version outputs c : ℕ) (lines : List LineValue) (now : Log) : Type 0 where
  pub grew : new ≡ old ++ now
  pub due : AllZip (IsLineDue version outputs c) lines now
  -- each frame has a spelling
  pub spelled :
      AllByRecursion (λ line. IsTrue (in_range (output_frame version c line.channel (line_words outputs line)))) lines
  pub allowed : AllByRecursion (may script) now

-- the log grew by the entries of the first few of these lines
pub record AreFewSent (may : List RuleValue → EntryValue → Type 0) (script : List RuleValue) (old new : Log)
    (version outputs c : ℕ) (lines : List LineValue) : Type 0 where
  pub few : ℕ
  pub now : Log
  pub sent : AreLinesSent may script old new version outputs c (take few lines) now

-- these channels, and the senders whose entry was not delivered as sent
abbrev pub disturbed_with : ChannelSet → ℕ → Log → ChannelSet
disturbed_with disturbed c now = channels_where (λ q. has disturbed q || list_any (is_output_charge c q) now)

-- what contracts see of what the actuator takes: a ballot of each channel, if it counts, and who is disturbed
pub record TakenValue : Type 0 where
  pub frames : Ballots
  pub disturbed : ChannelSet

-- what the actuator takes of these entries
abbrev pub taken_of : ℕ → ℕ → ℕ → ChannelSet → Log → TakenValue
taken_of version outputs c disturbed now =
    record { frames = ballots_taken version outputs now c; disturbed = disturbed_with disturbed c now }

-- all lines were sent, and this was taken
pub record HasTaken (may : List RuleValue → EntryValue → Type 0) (script : List RuleValue) (old new : Log)
    (version outputs c : ℕ) (disturbed : ChannelSet) (lines : List LineValue) (taken : TakenValue) : Type 0 where
  pub now : Log
  pub sent : AreLinesSent may script old new version outputs c lines now
  pub taken_is : taken ≡ taken_of version outputs c disturbed now

-- one line was sent, and this came of it
pub record HasSentLine (may : List RuleValue → EntryValue → Type 0) (script : List RuleValue) (old new : Log)
    (version outputs c : ℕ) (line : LineValue) (as_sent : Bool) (ballot : Option (List ℤ)) : Type 0 where
  pub entry : EntryValue
  pub sent : AreLinesSent may script old new version outputs c (line ∷ []) (entry ∷ [])
  pub same : as_sent ≡ not (differs_from entry.sent entry.delivered)
  pub ballot_is : ballot ≡ ballot_spelled version outputs c line.channel entry.delivered
