-- The runs that follow one another, from the numbers that they are drawn from to their rows.
use Rattle.std.proofs.Common.{◌≡◌, ◌<◌, ◌+◌, ℕ, zero, suc, List, [], ◌∷◌, ◌++◌, length, get_or, Result, Ok, Err, IfOk, refl, sym, ap, subst, ◌∙◌, arith, string_bytes}
use Rattle.std.specs.Prelude.{slice_index_or}
use Rattle.std.proofs.lemmas.List.{get_or_append_left, get_or_push}
use Rattle.std.proofs.lemmas.Result.{IfOk-weaker}
use borrow.Author.Count.{below_more}
use Rattle.guards_model.specs.Missions.{MissionValue}
use Rattle.campaign_draws.specs.declared.rates.Rates.{Rates}
use Rattle.campaign_draws.specs.Drawing.{SizesValue, after_run, drawn_mission, run_mission, sizes_of, state_of}
use Rattle.campaign_run.specs.Beside.{HasRows, TellsFrom, told}
use Rattle.campaign_run.specs.Campaigns.{IsRow, bound_of}
use Rattle.campaign_run.specs.Counting.{TellsRun}
use Rattle.campaign_run.specs.declared.row.Row.{Row}

module _ (S : SizesValue) (rates : Rates) (x : ℕ) where
  pub next_state : (n : ℕ) → state_of S rates x (n + 1) ≡ after_run S rates (state_of S rates x n)
  unfolding state_of
  next_state n =
      let same : n + 1 ≡ suc n = omega arith in
      ap (state_of S rates x) same

  -- the numbers of later runs follow that of the first of these
  pub later_state : (first n : ℕ) → state_of S rates (state_of S rates x first) n ≡ state_of S rates x (first + n)
  unfolding state_of
  later_state first zero =
      let same : first ≡ first + zero = omega arith in
      ap (state_of S rates x) same
  later_state first (suc n) =
      let same : suc (first + n) ≡ first + suc n = omega arith in
      ap (after_run S rates) (later_state first n) ∙ ap (state_of S rates x) same

  -- the numbers of the first n runs, and that of the next one
  abbrev pub AreStates : ℕ → List ℕ → Type 0
  AreStates n states = (place : ℕ) → place < n → slice_index_or states place 0 ≡ state_of S rates x place

  pub one_more_state : (n y : ℕ) (states more : List ℕ) → length states ≡ n → y ≡ state_of S rates x n →
      more ≡ states ++ y ∷ [] → AreStates n states → AreStates (n + 1) more
  one_more_state n y states more len is longer are =
      subst (λ (l : List ℕ). AreStates (n + 1) l) (sym longer)
      (below_more (λ i. get_or (states ++ y ∷ []) i 0 ≡ state_of S rates x i) n
      (λ i lt. get_or_append_left states (y ∷ []) 0 i (omega (arith, lt, len)) ∙ are i lt)
      (get_or_push states y 0 n len ∙ is))

-- the rows that were drawn from the numbers that follow one another are those of the runs from the first one on
module _ {E : Type 0} (M : MissionValue) (rates : Rates) (x first count start : ℕ) (states : List ℕ)
    (begins : start ≡ state_of (sizes_of M) rates x first) (are : AreStates (sizes_of M) rates start count states) where
  -- each row tells of the run that was drawn from the number at its place
  abbrev pub TellsEach : List (Result Row E) → Type 0
  TellsEach rows = (place : ℕ) (d : Result Row E) → place < count →
      IfOk (slice_index_or rows place d) (TellsFrom M rates (first + place) (slice_index_or states place 0))

  rows_follow : (rows : List (Result Row E)) → length rows ≡ count → TellsEach rows → HasRows M rates x first rows
  unfolding run_mission
  rows_follow rows len tell place d lt =
      let inside : place < count = omega (arith, lt, len) in
      let state : slice_index_or states place 0 ≡ state_of (sizes_of M) rates x (first + place) =
      are place inside ∙ ap (λ (s : ℕ). state_of (sizes_of M) rates s place) begins
      ∙ later_state (sizes_of M) rates x first place in
      IfOk-weaker (slice_index_or rows place d) (TellsFrom M rates (first + place) (slice_index_or states place 0))
      (λ row. IsRow M rates x (first + place) (told row) (string_bytes row.text))
      (λ row tells. subst (λ (s : ℕ). TellsFrom M rates (first + place) s row) state tells) (tell place d inside)

  -- the same, where there are rows
  pub rows_made : {V F : Type 0} (items : V → List (Result Row E)) (made : Result V F) →
      IfOk made (λ v. length (items v) ≡ count) → IfOk made (λ v. TellsEach (items v)) →
      IfOk made (λ v. HasRows M rates x first (items v))
  rows_made items (Ok v) len tell = rows_follow (items v) len tell
  rows_made items (Err e) len tell = tt
