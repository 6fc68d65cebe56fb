-- What running a mission for its summary does, by its answer. This project's own.
use Rattle.std.specs.Prelude.{◌≡◌, ℕ, ℤ, List, [], ◌∷◌, length, take, Option, Some, None, Result, Ok, Err}
use Rattle.std.specs.Io.KnownBytes.{Appends}
use Rattle.guards_io.specs.Causes.{Rose}
use Rattle.guards_model.specs.BusRules.{RuleValue}
use Rattle.guards_model.specs.Missions.{MissionValue}
use Rattle.guards_model.specs.Network.{EntryValue, Log, BusValue}
use Rattle.guards_model.specs.Rounds.{Histories}
use Rattle.guards_model.specs.Texts.{TextValue, LineValue, StopValue, part_text, stop_line}
use Rattle.guards_model.specs.CheckTexts.{summary_part}
use Rattle.guards_runs.specs.Cycles.{Past, cycles_before}
use Rattle.guards_world.specs.Worlds.{WorldValue}
use Rattle.guards_io.specs.Writes.{AppendsPart, WritesLine}
use Rattle.guards_io.specs.Views.{SinkView}
use Rattle.run_laws.specs.Runs.{HasCarried, HasRunCycles, HasRunToStop, HasRunPart, IsBetween}
use Rattle.run_laws.specs.Summaries.{joins_in, removals_in, last_votes, summary}
use Rattle.icn_world.specs.declared.world.Halt.TheVariants as halt
use Rattle.world_run.specs.declared.stop.RunStop.{RunStop}
use Rattle.world_run.specs.declared.stop.RunStop.TheVariants.{Halted, WriteFault}
use Rattle.world_run.specs.declared.tally.Tally.{Tally}
use Rattle.world_run.specs.Running.{stop_value}

-- the votes of the first line
abbrev pub first_votes : List LineValue → Option (List (Option ℤ))
first_votes [] = None
first_votes (l ∷ lines) = Some l.votes

-- of the votes that were kept, those of the mission's outputs
abbrev pub shown_votes : ℕ → Option (List (Option ℤ)) → List (Option ℤ)
shown_votes outputs None = []
shown_votes outputs (Some votes) = take outputs votes

-- what was kept of some cycles
pub record IsTallyOf (M : MissionValue) (past : Past) (t : Tally) : Type 0 where
  pub joins : t.joins ≡ joins_in past
  pub removals : t.removals ≡ removals_in past
  pub last : shown_votes (length M.outputs) t.last ≡ last_votes past

-- the five lines, by what was kept
unfoldable pub summary_of : ℕ → ℕ → ℕ → Tally → TextValue
summary_of number outputs frames t =
    part_text (summary_part number t.joins t.removals frames (shown_votes outputs t.last))

-- between two cycles of a run that began with this bus, with what was kept of its cycles
abbrev pub IsTallied : (List RuleValue → EntryValue → Type 0) → MissionValue → BusValue → WorldValue → BusValue →
    Tally → Type 0
IsTallied may M start w bus tally =
    (L : Log) × (histories : Histories) × IsBetween may M start w bus L L histories
    × IsTallyOf M (cycles_before M L w.done) tally

module _ (may : List RuleValue → EntryValue → Type 0) (number : ℕ) (M : MissionValue) where
  -- the cycles before the stop ran, and its own up to the end of its slot; its line stands alone
  abbrev pub SummarizesToStop : StopValue → BusValue → BusValue → SinkView → SinkView → Type 0
  SummarizesToStop stop bus bus' out out' =
      (L : Log) × (histories : Histories) × HasCarried may M bus bus' L × HasRunToStop M stop.cycle stop L histories
      × WritesLine out out' (stop_line stop)

  -- What running the mission for its summary does, by its answer: the five lines are one part, so where the sink failed
  -- all cycles ran.
  abbrev pub Summarizes : BusValue → BusValue → SinkView → SinkView → Result (Unit {0}) RunStop → Type 0
  Summarizes bus bus' out out' (Ok _) =
      (L : Log) × (histories : Histories) × HasCarried may M bus bus' L × HasRunCycles M M.cycles L histories
      × Appends out.written out'.written (summary number M L) × (out'.faults ≡ out.faults)
  Summarizes bus bus' out out' (Err (Halted (halt.Disturbed cycle slot set active))) =
      SummarizesToStop (stop_value cycle slot set active) bus bus' out out'
  Summarizes bus bus' out out' (Err WriteFault) =
      (L : Log) × (histories : Histories) × HasCarried may M bus bus' L × HasRunCycles M M.cycles L histories
      × AppendsPart out.written out'.written (summary number M L) × Rose out.faults out'.faults
  Summarizes bus bus' out out' (Err (Halted halt.NoMemory)) =
      (L : Log) × (histories : Histories) × (n : ℕ) × HasCarried may M bus bus' L × HasRunPart M n L histories
      × (out' ≡ out)

  -- what goes on with the run until n cycles ran does, by its answer
  abbrev pub TalliesTo : BusValue → SinkView → ℕ → WorldValue → BusValue → SinkView → Tally →
      Result (Unit {0}) RunStop → Type 0
  TalliesTo start begun n w bus out tally (Ok _) = IsTallied may M start w bus tally × (w.done ≡ n) × (out ≡ begun)
  TalliesTo start begun n w bus out tally (Err stop) = Summarizes start bus begun out (Err stop)
