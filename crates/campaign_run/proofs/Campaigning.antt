-- The rows of a campaign, one more at a time, and its summary.
use Rattle.std.proofs.Common.{◌≡◌, ◌≤◌, ◌<◌, ◌+◌, ℕ, zero, suc, List, [], ◌∷◌, ◌++◌, length, Option, Result, Ok, Err, IfOk, refl, sym, ap, subst, ◌∙◌, inl, inr, arith, string_bytes}
use Rattle.std.specs.Prelude.{slice_index_or}
use Rattle.std.proofs.KnownBytes.{Appends-trans}
use Rattle.std.specs.Io.KnownBytes.{Appends}
use Rattle.guards_io.specs.Views.{SinkView}
use Rattle.guards_io.specs.Writes.{Puts, Writes}
use Rattle.guards_io.specs.declared.writing.WriteStop.{WriteStop}
use Rattle.guards_io.specs.declared.writing.WriteStop.TheVariants as write
use Rattle.guards_io.proofs.WritesLemmas.{writes_then}
use Rattle.guards_model.specs.Missions.{MissionValue}
use Rattle.guards_model.specs.Texts.{TextValue}
use Rattle.campaign_draws.specs.declared.rates.Rates.{Rates}
use Rattle.campaign_draws.specs.Drawing.{drawn_mission}
use Rattle.campaign_text.specs.Rows.{head_row}
use Rattle.campaign_text.specs.Summaries.{RunValue, TotalsValue, summary_text, totals_of, totals_with}
use Rattle.campaign_text.proofs.TotalsKept.{totals_go_on}
use Rattle.campaign_run.specs.Beside.{HasPut, HasRows, PutsRow, PutsTo, told}
use Rattle.campaign_run.specs.Campaigns.{AreRows, Campaigns, IsRow, PutsText, bound_of}
use Rattle.campaign_run.specs.Counting.{TellsRun}
use Rattle.campaign_run.specs.declared.row.Row.{Row}

-- the row of a run of the drawn mission, by the parts from which it was told
pub drawn_row : (M m given : MissionValue) (rates : Rates) (x run state : ℕ) (bound : Option ℕ) (told : RunValue)
    (text : TextValue) → m ≡ M → given ≡ drawn_mission m rates x → state ≡ x → bound ≡ bound_of m →
    TellsRun given run state bound told text → TellsRun (drawn_mission M rates x) run x (bound_of M) told text
drawn_row M m given rates x run state bound told text same made number bounded tells =
    subst (λ (k : MissionValue). TellsRun k run x (bound_of M) told text)
    (made ∙ ap (λ (k : MissionValue). drawn_mission k rates x) same)
    (subst (λ (b : Option ℕ). TellsRun given run x b told text) (bounded ∙ ap bound_of same)
    (subst (λ (k : ℕ). TellsRun given run k bound told text) number tells))

value_or : {E : Type 0} → MissionValue → Result MissionValue E → MissionValue
value_or m (Ok read) = read
value_or m (Err e) = m

-- a mission that bytes are is the only one
pub same_read : {E : Type 0} (read : Result MissionValue E) (m M : MissionValue) → read ≡ Ok m → read ≡ Ok M → m ≡ M
unfolding value_or
same_read read m M one two = ap (value_or m) (sym one ∙ two)

module _ (M : MissionValue) (rates : Rates) (x : ℕ) (begun : SinkView) where
  -- the line of the columns was written, and no row
  pub head_done : (totals : TotalsValue) (out : SinkView) → totals ≡ totals_of [] → PutsText begun out head_row (Ok tt) →
      HasPut M rates x begun zero totals out
  head_done totals out none put = ([], head_row, (refl, refl), none, put.0, put.1)

  pub head_stops : (n : ℕ) (out : SinkView) (e : WriteStop) → PutsText begun out head_row (Err e) →
      Campaigns M rates x n begun out (Err e)
  head_stops n out write.Failed put = (head_row, inl (zero, [], omega arith, (refl, refl)), put.0, put.1)
  head_stops n out write.Memory put = absurd put

  -- memory ran out behind so many rows
  pub memory_ends : (n all : ℕ) (totals : TotalsValue) (a b : SinkView) → n ≤ all → b ≡ a →
      HasPut M rates x begun n totals a → Campaigns M rates x all begun b (Err write.Memory)
  memory_ends n all totals a b le same put =
      let (runs, text, rows, sums, appended, faults) = put in
      subst (λ (s : SinkView). Campaigns M rates x all begun s (Err write.Memory)) (sym same)
      (n, runs, text, le, rows, appended, faults)

  module _ (n all : ℕ) (totals totals' : TotalsValue) (a b : SinkView) (lt : n < all)
      (at : HasPut M rates x begun n totals a) where
    -- one more row
    row_put : (run : RunValue) (row : TextValue) (put : Result (Unit {0}) WriteStop) → IsRow M rates x n run row →
        totals' ≡ totals_with run.counts run.stop totals → PutsText a b row put →
        PutsTo M rates x begun all (suc n) totals' b put
    row_put run row (Ok _) is adds put =
        let (runs, text, rows, sums, appended, faults) = at in (
          run ∷ runs,
          text ++ row,
          (text, row, runs, run, rows, is, refl, refl),
          adds ∙ ap (totals_with run.counts run.stop) sums ∙ totals_go_on run runs,
          Appends-trans begun.written a.written b.written text row appended put.0,
          put.1 ∙ faults,
        )
    row_put run row (Err write.Failed) is adds put =
        let (runs, text, rows, sums, appended, faults) = at in
        let wrote : Writes begun b (text ++ row) (Err write.Failed) =
        writes_then begun a b text row (Err write.Failed) (appended, faults) put in (
          text ++ row,
          inl (suc n, run ∷ runs, lt, (text, row, runs, run, rows, is, refl, refl)),
          wrote.0,
          wrote.1,
        )
    row_put run row (Err write.Memory) is adds put = absurd put

    no_row : (put : Result (Unit {0}) WriteStop) → b ≡ a → put ≡ Err write.Memory →
        PutsTo M rates x begun all (suc n) totals' b put
    no_row put same is =
        subst (λ (r : Result (Unit {0}) WriteStop). PutsTo M rates x begun all (suc n) totals' b r) (sym is)
        (memory_ends n all totals a b (omega (arith, lt)) same at)

    -- the row at this place
    place_put : {E : Type 0} (row : Result Row E) (put : Result (Unit {0}) WriteStop) →
        IfOk row (λ r. IsRow M rates x n (told r) (string_bytes r.text)) → PutsRow row totals totals' a b put →
        PutsTo M rates x begun all (suc n) totals' b put
    place_put (Ok row) put is puts = row_put (told row) (string_bytes row.text) put is puts.1 puts.0
    place_put (Err e) put is puts = no_row put puts.0 puts.1

  -- the row at this place of rows that were made
  pub one_more_put : {E : Type 0} (first k all : ℕ) (rows : List (Result Row E)) (row : Result Row E)
      (totals totals' : TotalsValue) (a b : SinkView) (put : Result (Unit {0}) WriteStop) → k < length rows →
      first + length rows ≤ all → HasRows M rates x first rows → row ≡ slice_index_or rows k row →
      HasPut M rates x begun (first + k) totals a → PutsRow row totals totals' a b put →
      PutsTo M rates x begun all (first + (k + 1)) totals' b put
  one_more_put {E} first k all rows row totals totals' a b put lt le has is at puts =
      let next : suc (first + k) ≡ first + (k + 1) = omega arith in
      let within : first + k < all = omega (arith, lt, le) in
      let tells = subst (λ (made : Result Row E). IfOk made (λ r. IsRow M rates x (first + k) (told r)
      (string_bytes r.text))) (sym is) (has k row lt) in
      subst (λ n. PutsTo M rates x begun all n totals' b put) next
      (place_put (first + k) all totals totals' a b within at row put tells puts)

  -- the lines of the summary behind the rows
  lines_put : (n : ℕ) (runs : List RunValue) (text lines : TextValue) (a b : SinkView)
      (put : Result (Unit {0}) WriteStop) → lines ≡ summary_text (bound_of M) (totals_of runs) →
      AreRows M rates x n runs text → Appends begun.written a.written text → a.faults ≡ begun.faults →
      Puts a b lines put → Campaigns M rates x n begun b put
  lines_put n runs text lines a b (Ok _) are rows appended faults put =
      let all : Writes begun b (text ++ lines) (Ok tt) =
      writes_then begun a b text lines (Ok tt) (appended, faults) put in
      (text ++ lines, (text, runs, rows, ap (λ (l : TextValue). text ++ l) are), all.0, all.1)
  lines_put n runs text lines a b (Err write.Failed) are rows appended faults put =
      let part : Writes begun b (text ++ lines) (Err write.Failed) =
      writes_then begun a b text lines (Err write.Failed) (appended, faults) put in
      (text ++ lines, inr (text, runs, rows, ap (λ (l : TextValue). text ++ l) are), part.0, part.1)
  lines_put n runs text lines a b (Err write.Memory) are rows appended faults put =
      subst (λ (s : SinkView). Campaigns M rates x n begun s (Err write.Memory)) (sym put)
      (n, runs, text, omega arith, rows, appended, faults)

  pub campaign_ends : (n : ℕ) (totals : TotalsValue) (bound : Option ℕ) (a b : SinkView)
      (put : Result (Unit {0}) WriteStop) → bound ≡ bound_of M → HasPut M rates x begun n totals a →
      Puts a b (summary_text bound totals) put → Campaigns M rates x n begun b put
  campaign_ends n totals bound a b put bounded (runs, text, rows, sums, appended, faults) wrote =
      lines_put n runs text (summary_text bound totals) a b put
      (ap (λ (k : Option ℕ). summary_text k totals) bounded ∙ ap (summary_text (bound_of M)) sums) rows appended faults
      wrote
