-- What an exchange with the actuator does. This project's own.
use Rattle.std.specs.Prelude.{◌≡◌, ℕ, ◌*◌, ℤ, Bool, true, false, IsTrue, nat_le, List, map, take, length, Some, Result, Ok, Err}
use Rattle.std.specs.List.{list_all, AllByRecursion}
use Rattle.guards_model.specs.BusRules.{RuleValue}
use Rattle.guards_model.specs.Channels.{Channel, ChannelSet, has}
use Rattle.guards_model.specs.Frames.{between, ascends}
use Rattle.guards_model.specs.Network.{EntryValue, Log}
use Rattle.guards_model.specs.Texts.{LineValue, RecordValue}
use Rattle.guards_model.specs.Settled.{SettledValue}
use Rattle.guards_model.specs.Actuators.{words_moved, words_towards}
use Rattle.guards_runs.specs.Outputs.{ballots_taken}
use Rattle.output_gate.specs.Gates.{GateValue}
use Rattle.output_gate.specs.Sending.{AreLinesSent, AreFewSent, disturbed_with}
use Rattle.output_gate.specs.declared.exchange.OutStop.{OutStop}
use Rattle.output_gate.specs.declared.exchange.OutStop.TheVariants.{Disturbed, NoMemory}

abbrev pub line_channels : List LineValue → List Channel
line_channels lines = map (λ l. l.channel) lines

-- each line has these words as its votes in the places of the outputs
abbrev pub VoteFor : List ℤ → List LineValue → Type 0
VoteFor words lines =
    AllByRecursion (λ (l : LineValue). take (length words) l.votes ≡ map (λ w. Some w) words) lines

-- Both are of one cycle and have one active set, the lines are of active channels in ascending order, each active
-- channel that is not disturbed has one, and each has a word in every place, the same in all.
pub record MayExchange (version outputs : ℕ) (part : RecordValue) (settled : SettledValue) : Type 0 where
  pub known : IsTrue (between 1 2 version)
  pub cycle : settled.cycle ≡ part.cycle
  pub active : settled.active ≡ part.active
  pub ascending : ascends (line_channels part.lines) ≡ true
  pub are_active : list_all (has part.active) (line_channels part.lines) ≡ true
  pub there : (q : Channel) → IsTrue (has part.active q) → has settled.disturbed q ≡ false →
      IsTrue (has (line_channels part.lines) q)
  pub words : List ℤ
  pub count : length words ≡ outputs
  pub voted : VoteFor words part.lines

-- whether a set is a third of the active set or more
abbrev pub is_third : ChannelSet → ChannelSet → Bool
is_third active set = nat_le (length active) (3 * length set)

module _ (may : List RuleValue → EntryValue → Type 0) (script : List RuleValue) (version : ℕ) (part : RecordValue)
    (settled : SettledValue) (old new : Log) (gate gate_after : GateValue) where
  -- The lines were sent, fewer than a third of the active channels are disturbed, and the words moved by what counts:
  -- each towards the word that the lines have in its place.
  pub record Moves : Type 0 where
    pub now : Log
    pub sent : AreLinesSent may script old new version (length gate.words) part.cycle part.lines now
    pub few : is_third part.active (disturbed_with settled.disturbed part.cycle now) ≡ false
    pub moved : gate_after
        ≡ record gate {
          words = words_moved gate.steps gate.words (ballots_taken version (length gate.words) now part.cycle);
        }
    pub towards : (words : List ℤ) → length words ≡ length gate.words → VoteFor words part.lines →
        gate_after ≡ record gate { words = words_towards gate.steps gate.words words }

  -- The lines were sent, a third of the active channels or more are disturbed, and the words stayed.
  pub record Stays (set : ChannelSet) : Type 0 where
    pub now : Log
    pub sent : AreLinesSent may script old new version (length gate.words) part.cycle part.lines now
    pub set_is : set ≡ disturbed_with settled.disturbed part.cycle now
    pub many : is_third part.active set ≡ true
    pub same : gate_after ≡ gate

  -- Memory ran out: the first few lines were sent, and the words stayed.
  pub record BreaksOff : Type 0 where
    pub few : AreFewSent may script old new version (length gate.words) part.cycle part.lines
    pub same : gate_after ≡ gate

  -- what an exchange does, by its answer
  abbrev pub Exchanges : Result (Unit {0}) OutStop → Type 0
  Exchanges (Ok done) = Moves
  Exchanges (Err (Disturbed set)) = Stays set
  Exchanges (Err NoMemory) = BreaksOff
