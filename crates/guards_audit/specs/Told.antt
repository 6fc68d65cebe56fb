-- What the lines before a line tell of the cycles. A cycle that was told whole is a record; the latest stands first.
use Rattle.std.specs.Prelude.{ℕ, nat_le, ℤ, List, [], ◌∷◌, ◌++◌, length, Option, Some, None, slice_get, unwrap_or, option_map, if◌then◌else◌}
use Rattle.guards_model.specs.Channels.{ChannelSet, by_channel}
use Rattle.guards_model.specs.Contexts.{ContextValue}
use Rattle.guards_model.specs.Tasks.{whole}
use Rattle.guards_model.specs.Actuators.{voted_words, words_towards}
use Rattle.guards_model.specs.Missions.{MissionValue, ActuatorValue, channels_of, cycle_writes, written_blocks}
use Rattle.guards_model.specs.Diagnosis.{counts_carried}
use Rattle.guards_model.specs.Transfers.{TransferValue, TransferCycle, active_after, planned_blocks, remaining_blocks}
use Rattle.guards_model.specs.Texts.{LineValue, TraceValue, RecordValue}

-- the cycles that were told, the latest first
abbrev pub Told : Type 0
Told = List RecordValue

-- the number of the next cycle, which is how many were told
abbrev pub next_cycle_number : Told → ℕ
next_cycle_number told = length told

-- a line of which nothing is told
abbrev pub blank_line : LineValue
blank_line = record { channel = 0; inputs = []; votes = []; judged = []; counts = [] }

-- the first line of a channel in a cycle: all others of it say the same
abbrev pub first_line : RecordValue → LineValue
first_line r = unwrap_or (slice_get r.lines 0) blank_line

-- the active channels of the next cycle: all, or those printed in the cycle before, without the printed removed and
-- with the printed joined
abbrev pub active_told : MissionValue → Told → ChannelSet
active_told M [] = channels_of M
active_told M (r ∷ told) = active_after r.active r.removed r.joined

-- the counts before the next cycle's step, by the printed counts of the cycle before; who joined in it is fresh
abbrev pub counts_told : MissionValue → Told → List ℕ
counts_told M [] = by_channel (λ q. 0)
counts_told M (r ∷ told) = counts_carried (active_told M (r ∷ told)) r.joined (first_line r).counts

-- the context after the told cycles, by their printed inputs
abbrev pub context_told : MissionValue → Told → ContextValue
context_told M [] = M.initial
context_told M (r ∷ told) =
    whole (cycle_writes M (next_cycle_number told)) (context_told M told) (next_cycle_number told) (first_line r).inputs

-- the words of an actuator after the told cycles: each cycle moves them towards its printed votes
abbrev pub words_told : ActuatorValue → Told → List ℤ
words_told a [] = a.start
words_told a (r ∷ told) = words_towards a.steps (words_told a told) (voted_words (first_line r).votes)

-- what the cycles since a transfer's start planned and wrote, the latest first: a test over past cycles, and no tags
abbrev pub swept_told : MissionValue → ℕ → Told → List TransferCycle
swept_told M s [] = []
swept_told M s (r ∷ told) =
    if nat_le s (next_cycle_number told)
    then (let earlier : List TransferCycle = swept_told M s told in
    record {
      planned = planned_blocks M.rules.blocks M.rules.sweep earlier;
      written = written_blocks M (next_cycle_number told);
    } ∷ earlier)
    else []

-- the blocks that the next cycle plans to copy
abbrev pub plan_told : MissionValue → Told → Option TransferValue → List ℕ
plan_told M told None = []
plan_told M told (Some t) = planned_blocks M.rules.blocks M.rules.sweep (swept_told M t.start told)

-- the blocks that remain at its end
abbrev pub remaining_told : MissionValue → Told → TransferValue → List ℕ
remaining_told M told t =
    remaining_blocks M.rules.blocks
    (record { planned = plan_told M told (Some t); written = written_blocks M (next_cycle_number told) }
    ∷ swept_told M t.start told)

-- how many remain, where a transfer runs
abbrev pub number_remaining : MissionValue → Told → Option TransferValue → Option ℕ
number_remaining M told transfer = option_map (λ t. length (remaining_told M told t)) transfer

-- the blocks of a transfer that remain, or none
abbrev pub rest_told : MissionValue → Told → Option TransferValue → List ℕ
rest_told M told None = []
rest_told M told (Some t) = remaining_told M told t

-- a cycle with one more line of a channel, or of its steps
abbrev pub with_line : RecordValue → LineValue → RecordValue
with_line r l = record r { lines = r.lines ++ l ∷ [] }

abbrev pub with_steps : RecordValue → TraceValue → RecordValue
with_steps r t = record r { traces = r.traces ++ t ∷ [] }
