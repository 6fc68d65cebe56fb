-- The row of a run, with the two columns that theorems fix. This project's own.
use Rattle.std.specs.Prelude.{◌≡◌, ◌≤◌, ℕ, Option}
use Rattle.std.specs.List.{AllByRecursion}
use Rattle.guards_model.specs.Missions.{MissionValue, bus_rules}
use Rattle.guards_model.specs.Network.{Log}
use Rattle.guards_model.specs.ScriptedBus.{IsScripted}
use Rattle.guards_model.specs.Texts.{TextValue, StopValue}
use Rattle.guards_runs.specs.Cycles.{cycles_before}
use Rattle.guards_runs.specs.Promises.{HasRun}
use Rattle.campaign_facts.specs.Facts.{PastFacts, facts_of}
use Rattle.campaign_facts.specs.Tallies.{TallyValue, tally_of}
use Rattle.campaign_text.specs.Rows.{row_text}
use Rattle.tally_laws.specs.ToldLengths.{longest_told}

-- what is counted of some cycles, where no removal is false, and the longest transfer is what the rules and the table
-- tell
abbrev pub lawful_tally : MissionValue → PastFacts → TallyValue
lawful_tally M past = record (tally_of M.script past) { false_removals = 0; longest = longest_told M past }

-- a row that tells so of the cycles of a run of the mission over a bus that does what the script says, and of a stop,
-- where there is one
abbrev pub IsLawfulRow : MissionValue → ℕ → ℕ → Option ℕ → TextValue → Type 0
IsLawfulRow M run state bound text =
    (L : Log) × (n : ℕ) × (stop : Option StopValue) × (n ≤ M.cycles) × HasRun M L n
    × AllByRecursion (IsScripted (bus_rules M)) L
    × (text ≡ row_text run state M.script (lawful_tally M (facts_of (cycles_before M L n))) stop bound)
