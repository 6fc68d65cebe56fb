-- What running a campaign does, by its answer. This project's own.
use Rattle.std.specs.Prelude.{◌≡◌, ◌≤◌, ◌⊎◌, ℕ, zero, suc, List, [], ◌∷◌, ◌++◌, Option, Result, Ok, Err}
use Rattle.std.specs.Io.KnownBytes.{Appends}
use Rattle.guards_io.specs.Causes.{Rose}
use Rattle.guards_io.specs.Views.{SinkView}
use Rattle.guards_io.specs.Writes.{AppendsPart}
use Rattle.guards_io.specs.declared.writing.WriteStop.{WriteStop}
use Rattle.guards_io.specs.declared.writing.WriteStop.TheVariants as write
use Rattle.guards_model.specs.JoinBound.{join_bound, most_blocks}
use Rattle.guards_model.specs.Missions.{MissionValue}
use Rattle.guards_model.specs.Texts.{TextValue}
use Rattle.campaign_draws.specs.declared.rates.Rates.{Rates}
use Rattle.campaign_draws.specs.Drawing.{run_mission, sizes_of, state_of}
use Rattle.campaign_text.specs.Rows.{head_row}
use Rattle.campaign_text.specs.Summaries.{RunValue, summary_text, totals_of}
use Rattle.campaign_run.specs.Counting.{TellsRun}

-- the most cycles that a transfer of a mission takes, if there is such a bound
abbrev pub bound_of : MissionValue → Option ℕ
bound_of M = join_bound M.rules.blocks M.rules.sweep M.rules.last (most_blocks M.table)

-- a campaign of a mission: the rates of its faults, and the number from which the first run is drawn
module _ (M : MissionValue) (rates : Rates) (x : ℕ) where
  -- a text is the row of the run of this number
  abbrev pub IsRow : ℕ → RunValue → TextValue → Type 0
  IsRow run told row = TellsRun (run_mission M rates x run) run (state_of (sizes_of M) rates x run) (bound_of M) told
      row

  -- a text is the line of the columns and the rows of the first n runs; what they tell, the latest first
  abbrev pub AreRows : ℕ → List RunValue → TextValue → Type 0
  AreRows zero runs text = (runs ≡ []) × (text ≡ head_row)
  AreRows (suc n) runs text =
      (before row : TextValue) × (earlier : List RunValue) × (told : RunValue) × AreRows n earlier before
      × IsRow n told row × (runs ≡ told ∷ earlier) × (text ≡ before ++ row)

  -- a text is the line of the columns, the rows of n runs and the lines of their summary
  abbrev pub IsCampaign : ℕ → TextValue → Type 0
  IsCampaign n text =
      (rows : TextValue) × (runs : List RunValue) × AreRows n runs rows
      × (text ≡ rows ++ summary_text (bound_of M) (totals_of runs))

  -- a text is so far that of a campaign of so many runs: the rows of some, or all of it
  abbrev pub BeginsCampaign : ℕ → TextValue → Type 0
  BeginsCampaign n text =
      ((first : ℕ) × (runs : List RunValue) × (first ≤ n) × AreRows first runs text) ⊎ IsCampaign n text

  -- What a campaign of so many runs does, by its answer: its text was written; or the sink failed within the line of
  -- the columns, a row or the summary, behind the rows before; or memory ran out, and the rows of some runs were
  -- written, each whole.
  abbrev pub Campaigns : ℕ → SinkView → SinkView → Result (Unit {0}) WriteStop → Type 0
  Campaigns n out out' (Ok _) =
      (text : TextValue) × IsCampaign n text × Appends out.written out'.written text × (out'.faults ≡ out.faults)
  Campaigns n out out' (Err write.Failed) =
      (text : TextValue) × BeginsCampaign n text × AppendsPart out.written out'.written text
      × Rose out.faults out'.faults
  Campaigns n out out' (Err write.Memory) =
      (first : ℕ) × (runs : List RunValue) × (text : TextValue) × (first ≤ n) × AreRows first runs text
      × Appends out.written out'.written text × (out'.faults ≡ out.faults)

-- What writing a text does: it was written, or the sink failed, and a front of it was. It takes no memory.
abbrev pub PutsText : SinkView → SinkView → TextValue → Result (Unit {0}) WriteStop → Type 0
PutsText out out' text (Ok _) = Appends out.written out'.written text × (out'.faults ≡ out.faults)
PutsText out out' text (Err write.Failed) = AppendsPart out.written out'.written text × Rose out.faults out'.faults
PutsText out out' text (Err write.Memory) = ⊥
