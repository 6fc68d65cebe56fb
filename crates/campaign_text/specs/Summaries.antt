-- The summary of a campaign: what its runs add up to. This project's own.
use Rattle.std.specs.Prelude.{ℕ, suc, ◌+◌, max, List, [], ◌∷◌, ◌++◌, length, codes, Option, Some, None}
use Rattle.std.specs.Fmt.{decimal}
use Rattle.guards_model.specs.CheckTexts.{bound_text}
use Rattle.guards_model.specs.Texts.{TextValue, StopValue, line_end}
use Rattle.campaign_facts.specs.Tallies.{TallyValue}

-- what is told of a run: what was counted of its cycles, and its stop, if there was one
pub record RunValue : Type 0 where
  pub counts : TallyValue
  pub stop : Option StopValue

-- ---- sums over runs

abbrev pub stops : Option StopValue → ℕ
stops None = 0
stops (Some stop) = 1

-- how many of them stopped
abbrev pub stopped_in : List RunValue → ℕ
stopped_in [] = 0
stopped_in (run ∷ runs) = stopped_in runs + stops run.stop

-- a number of theirs, added up
abbrev pub sum_in : (TallyValue → ℕ) → List RunValue → ℕ
sum_in number [] = 0
sum_in number (run ∷ runs) = sum_in number runs + number run.counts

-- the cycles of the longest transfer that ended by a join in one of them, and 0 where none did
abbrev pub longest_in : List RunValue → ℕ
longest_in [] = 0
longest_in (run ∷ runs) = max (longest_in runs) run.counts.longest

pub record TotalsValue : Type 0 where
  pub runs : ℕ
  pub stopped : ℕ
  pub removals : ℕ
  pub false_removals : ℕ
  pub joins : ℕ
  pub not_whole : ℕ
  pub dropped : ℕ
  pub longest : ℕ

-- what these runs add up to
unfoldable pub totals_of : List RunValue → TotalsValue
totals_of runs =
    record {
      runs = length runs;
      stopped = stopped_in runs;
      removals = sum_in (λ t. t.removals) runs;
      false_removals = sum_in (λ t. t.false_removals) runs;
      joins = sum_in (λ t. t.joins) runs;
      not_whole = sum_in (λ t. t.not_whole) runs;
      dropped = sum_in (λ t. t.dropped) runs;
      longest = longest_in runs;
    }

-- totals with one more run
unfoldable pub totals_with : TallyValue → Option StopValue → TotalsValue → TotalsValue
totals_with t stop s =
    record {
      runs = suc s.runs;
      stopped = s.stopped + stops stop;
      removals = s.removals + t.removals;
      false_removals = s.false_removals + t.false_removals;
      joins = s.joins + t.joins;
      not_whole = s.not_whole + t.not_whole;
      dropped = s.dropped + t.dropped;
      longest = max s.longest t.longest;
    }

-- ---- the lines

unfoldable pub runs_line : ℕ → ℕ → TextValue
runs_line runs stopped = codes "# runs " ++ decimal runs ++ codes " stopped " ++ decimal stopped ++ line_end

unfoldable pub removals_line : ℕ → ℕ → TextValue
removals_line removals falsely =
    codes "# removals " ++ decimal removals ++ codes " false " ++ decimal falsely ++ line_end

unfoldable pub joins_line : ℕ → ℕ → TextValue
joins_line joins not_whole = codes "# joins " ++ decimal joins ++ codes " not whole " ++ decimal not_whole ++ line_end

unfoldable pub drops_line : ℕ → TextValue
drops_line dropped = codes "# dropped " ++ decimal dropped ++ line_end

unfoldable pub transfers_line : ℕ → Option ℕ → TextValue
transfers_line longest bound =
    codes "# longest transfer " ++ decimal longest ++ codes " bound " ++ bound_text bound ++ line_end

-- the lines of the summary, with the most cycles that a transfer of the mission takes, if there is such a bound
unfoldable pub summary_text : Option ℕ → TotalsValue → TextValue
summary_text bound s =
    runs_line s.runs s.stopped
    ++ (removals_line s.removals s.false_removals
    ++ (joins_line s.joins s.not_whole ++ (drops_line s.dropped ++ transfers_line s.longest bound)))
