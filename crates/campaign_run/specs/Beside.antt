-- The rows of runs that go side by side, and what writing them does. This project's own.
use Rattle.std.specs.Prelude.{◌≡◌, ◌≤◌, ◌<◌, ◌+◌, ℕ, List, length, Result, Ok, Err, IfOk, slice_index_or, string_bytes}
use Rattle.std.specs.Io.KnownBytes.{Appends}
use Rattle.guards_io.specs.Views.{SinkView}
use Rattle.guards_io.specs.declared.writing.WriteStop.{WriteStop}
use Rattle.guards_io.specs.declared.writing.WriteStop.TheVariants as write
use Rattle.guards_model.specs.Missions.{MissionValue}
use Rattle.campaign_draws.specs.declared.rates.Rates.{Rates}
use Rattle.campaign_draws.specs.Drawing.{drawn_mission}
use Rattle.campaign_text.specs.Summaries.{RunValue, TotalsValue, totals_of, totals_with}
use Rattle.campaign_run.specs.Campaigns.{AreRows, Campaigns, IsRow, PutsText, bound_of}
use Rattle.campaign_run.specs.Counting.{TellsRun}
use Rattle.campaign_run.specs.declared.row.Row.{Row}

-- what a row tells of its run
abbrev pub told : Row → RunValue
told row = record { counts = row.tally; stop = row.stop }

-- a row is that of a run that was drawn from this number
abbrev pub TellsFrom : MissionValue → Rates → ℕ → ℕ → Row → Type 0
TellsFrom M rates run state row =
    TellsRun (drawn_mission M rates state) run state (bound_of M) (told row) (string_bytes row.text)

-- What writing a row does, and what the totals then are: its text is written, and it is added; or nothing is, where
-- memory was wanting for it.
abbrev pub PutsRow : {E : Type 0} → Result Row E → TotalsValue → TotalsValue → SinkView → SinkView →
    Result (Unit {0}) WriteStop → Type 0
PutsRow (Ok row) totals totals' out out' put =
    PutsText out out' (string_bytes row.text) put × (totals' ≡ totals_with row.tally row.stop totals)
PutsRow (Err none) totals totals' out out' put = (out' ≡ out) × (put ≡ Err write.Memory)

module _ (M : MissionValue) (rates : Rates) (x : ℕ) where
  -- these are the rows of the runs from this number on, but for those that memory was wanting for
  abbrev pub HasRows : {E : Type 0} → ℕ → List (Result Row E) → Type 0
  HasRows {E} first rows = (place : ℕ) (d : Result Row E) → place < length rows →
      IfOk (slice_index_or rows place d) (λ row. IsRow M rates x (first + place) (told row) (string_bytes row.text))

  module _ (begun : SinkView) where
    -- the line of the columns and the rows of the first n runs were written, and so much they add up to
    abbrev pub HasPut : ℕ → TotalsValue → SinkView → Type 0
    HasPut n totals out =
        (runs : List RunValue) × (text : List ℕ) × AreRows M rates x n runs text × (totals ≡ totals_of runs)
        × Appends begun.written out.written text × (out.faults ≡ begun.faults)

    -- What writing on up to the row of the n-th run does, of a campaign of so many.
    abbrev pub PutsTo : ℕ → ℕ → TotalsValue → SinkView → Result (Unit {0}) WriteStop → Type 0
    PutsTo all n totals out (Ok _) = HasPut n totals out
    PutsTo all n totals out (Err stop) = Campaigns M rates x all begun out (Err stop)

-- What writing rows does, whichever runs of a campaign they are, once those before them were written.
abbrev pub PutsRows : {E : Type 0} → List (Result Row E) → TotalsValue → TotalsValue → SinkView → SinkView →
    Result (Unit {0}) WriteStop → Type 0
PutsRows rows totals totals' out out' put =
    (M : MissionValue) (rates : Rates) (x all first : ℕ) (begun : SinkView) → first + length rows ≤ all →
    HasRows M rates x first rows → HasPut M rates x begun first totals out →
    PutsTo M rates x begun all (first + length rows) totals' out' put
