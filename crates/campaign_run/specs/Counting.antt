-- What counting the cycles of a run does, by its answer. This project's own.
use Rattle.std.specs.Prelude.{◌≡◌, ◌⊎◌, ℕ, List, Option, None, Some, Result, Ok, Err}
use Rattle.std.specs.List.{AllByRecursion}
use Rattle.guards_model.specs.BusRules.{RuleValue}
use Rattle.guards_model.specs.Missions.{MissionValue, bus_rules}
use Rattle.guards_model.specs.Network.{EntryValue, Log}
use Rattle.guards_model.specs.Rounds.{Histories}
use Rattle.guards_model.specs.ScriptedBus.{IsScripted}
use Rattle.guards_model.specs.Texts.{TextValue, StopValue}
use Rattle.guards_runs.specs.Cycles.{cycles_before}
use Rattle.guards_world.specs.Worlds.{WorldValue}
use Rattle.guards_model.specs.Network.{BusValue}
use Rattle.icn_world.specs.declared.world.Halt.{Halt}
use Rattle.icn_world.specs.declared.world.Halt.TheVariants as halt
use Rattle.run_laws.specs.Runs.{HasCarried, HasRunCycles, HasRunToStop, HasRunPart, IsBetween}
use Rattle.campaign_facts.specs.Facts.{facts_of}
use Rattle.campaign_facts.specs.Tallies.{TallyValue, tally_of}
use Rattle.campaign_text.specs.Rows.{row_text}
use Rattle.campaign_text.specs.Summaries.{RunValue}
use Rattle.world_run.specs.Running.{stop_value}

-- what is counted of the first n cycles of a log
unfoldable pub counted : MissionValue → Log → ℕ → TallyValue
counted M L n = tally_of M.script (facts_of (cycles_before M L n))

module _ (may : List RuleValue → EntryValue → Type 0) (M : MissionValue) where
  -- between two cycles of a run that began with this bus, with what was counted of its cycles
  abbrev pub IsCounted : BusValue → WorldValue → BusValue → TallyValue → Type 0
  IsCounted start w bus t = (L : Log) × (histories : Histories) × IsBetween may M start w bus L L histories
      × (t ≡ counted M L w.done)

  -- the cycles before the stop ran, and were counted, and its own ran up to the end of its slot
  abbrev pub CountsToStop : StopValue → BusValue → WorldValue → BusValue → TallyValue → Type 0
  CountsToStop stop start w bus t =
      (L : Log) × (histories : Histories) × HasCarried may M start bus L × HasRunToStop M stop.cycle stop L histories
      × (t ≡ counted M L stop.cycle) × (w.mission ≡ M)

  -- memory ran out: some cycles ran, and of the next one a front
  abbrev pub CountsShort : BusValue → BusValue → Type 0
  CountsShort start bus = (L : Log) × (histories : Histories) × (n : ℕ) × HasCarried may M start bus L
      × HasRunPart M n L histories

  -- what goes on with the run until n cycles ran does, by its answer
  abbrev pub CountsTo : BusValue → ℕ → WorldValue → BusValue → TallyValue → Result (Unit {0}) Halt → Type 0
  CountsTo start n w bus t (Ok _) = IsCounted start w bus t × (w.done ≡ n)
  CountsTo start n w bus t (Err (halt.Disturbed cycle slot set active)) =
      CountsToStop (stop_value cycle slot set active) start w bus t
  CountsTo start n w bus t (Err halt.NoMemory) = CountsShort start bus

-- ---- the row of a run

-- what is told of a run: what was counted of the first n cycles of its log, and its stop, if there was one
abbrev pub told_of : MissionValue → Log → ℕ → Option StopValue → RunValue
told_of M L n stop = record { counts = counted M L n; stop = stop }

-- So is told a run of the mission over a bus that does what the script says: all its cycles ran, or those before a stop
-- and its own up to the end of its slot, and what is told are the facts of these.
abbrev pub IsToldRun : MissionValue → RunValue → Type 0
IsToldRun M told =
    (L : Log) × (histories : Histories) × AllByRecursion (IsScripted (bus_rules M)) L
    × ((HasRunCycles M M.cycles L histories × (told ≡ told_of M L M.cycles None))
    ⊎ ((stop : StopValue) × HasRunToStop M stop.cycle stop L histories
    × (told ≡ told_of M L stop.cycle (Some stop))))

-- a text is the row of such a run
abbrev pub TellsRun : MissionValue → ℕ → ℕ → Option ℕ → RunValue → TextValue → Type 0
TellsRun M run state bound told text =
    IsToldRun M told × (text ≡ row_text run state M.script told.counts told.stop bound)
