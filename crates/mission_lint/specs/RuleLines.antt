-- The lines on the rules of a mission: joins, removal and transfers.
use Rattle.std.specs.Prelude.{ℕ, nat_le, List, [], ◌∷◌, ◌++◌, flat_map, length, Option, Some, None, is_none, if◌then◌else◌}
use Rattle.guards_model.specs.Channels.{numbers_below}
use Rattle.guards_model.specs.JoinBound.{most_blocks, join_bound}
use Rattle.guards_model.specs.Missions.{MissionValue}
use Rattle.recovery_laws.specs.LeastPeriods.{least_period}
use Rattle.recovery_laws.specs.Lengths.{most_cycles, transfer_length}
use Rattle.lint_lines.specs.declared.line.LintLine.{LintLine}
use Rattle.lint_lines.specs.declared.line.LintLine.TheVariants.{JoinUnbounded, StaysJudged, TransferTakes, TransferRunsOn}

-- ---- the bound of a join

abbrev pub join_lines : MissionValue → List LintLine
join_lines M =
    if is_none (join_bound M.rules.blocks M.rules.sweep M.rules.last (most_blocks M.table))
    then JoinUnbounded (most_blocks M.table) M.rules.sweep M.rules.last ∷ []
    else []

-- ---- removal

-- a number, if it is no higher than the most
abbrev pub if_at_most : ℕ → Option ℕ → Option ℕ
if_at_most most None = None
if_at_most most (Some n) = if nat_le n most then Some n else None

abbrev pub period_line : Option ℕ → List LintLine
period_line None = []
period_line (Some period) = StaysJudged period ∷ []

-- The least number of cycles, in any of which in a row a channel may be judged once and is not removed for it; if a
-- run may have so many.
abbrev pub keep_lines : MissionValue → List LintLine
keep_lines M = period_line (if_at_most most_cycles (least_period M))

-- ---- transfers

abbrev pub length_line : ℕ → Option ℕ → List LintLine
length_line row None = TransferRunsOn row ∷ []
length_line row (Some cycles) = TransferTakes row cycles ∷ []

-- a line for each row of the table
abbrev pub transfer_lines : MissionValue → List LintLine
transfer_lines M = flat_map (λ row. length_line row (transfer_length M row)) (numbers_below (length M.table))

-- all lines on the rules
unfoldable pub rule_lines : MissionValue → List LintLine
rule_lines M = join_lines M ++ (keep_lines M ++ transfer_lines M)
