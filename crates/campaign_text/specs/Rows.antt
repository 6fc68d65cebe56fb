-- The text of a campaign: a row for each run, in the columns that its first line names. This project's own.
use Rattle.std.specs.Prelude.{ℕ, suc, ◌==◌, Bool, List, [], ◌∷◌, ◌++◌, map, Option, Some, None, codes, if◌then◌else◌}
use Rattle.std.specs.List.{join_with_byte}
use Rattle.std.specs.Fmt.{decimal}
use Rattle.guards_model.specs.Channels.{Channel, ChannelSet, place_or}
use Rattle.guards_model.specs.CheckTexts.{bound_text}
use Rattle.guards_model.specs.Faults.{FaultValue}
use Rattle.guards_model.specs.Slots.{slot_text}
use Rattle.guards_model.specs.Texts.{TextValue, StopValue, line_end}
use Rattle.campaign_facts.specs.declared.kinds.Kind.TheVariants.{Crash, Restart, Damage, Loss, Forgery}
use Rattle.campaign_facts.specs.Facts.{PastFacts, is_named_by, kind_count}
use Rattle.campaign_facts.specs.Tallies.{TallyValue, tally_of}

-- ---- the columns

abbrev pub end_text : Option StopValue → TextValue
end_text None = codes "done"
end_text (Some stop) = codes "stop"

abbrev pub stop_slot_text : Option StopValue → TextValue
stop_slot_text None = []
stop_slot_text (Some stop) = slot_text stop.slot

-- pieces with a plus between each two
abbrev pub plus_joined : List TextValue → TextValue
plus_joined pieces = join_with_byte 43 pieces

-- who was disturbed where the run stopped
abbrev pub disturbed_set : Option StopValue → ChannelSet
disturbed_set None = []
disturbed_set (Some stop) = stop.set

abbrev pub disturbed_text : ChannelSet → TextValue
disturbed_text set = plus_joined (map decimal set)

-- the name of a kind that is there
abbrev pub name_if : Bool → TextValue → List TextValue
name_if there name = if there then name ∷ [] else []

abbrev pub slash_joined : List TextValue → TextValue
slash_joined [] = codes "not whole"
slash_joined (piece ∷ pieces) = join_with_byte 47 (piece ∷ pieces)

-- the kinds of entries that are there, with a slash between each two; where none is, the channel was not whole
unfoldable pub kinds_text : Bool → Bool → Bool → Bool → TextValue
kinds_text crash damage forge lose =
    slash_joined (name_if crash (codes "crash")
    ++ (name_if damage (codes "damage") ++ (name_if forge (codes "forge") ++ name_if lose (codes "lose"))))

-- What names a disturbed channel: a crash or a damage from its first cycle that counts on, a lost or a forged piece in
-- the cycle of the stop.
unfoldable pub cause_text : List FaultValue → ℕ → ℕ → Channel → TextValue
cause_text script first cycle q =
    kinds_text (is_named_by Crash script q first cycle) (is_named_by Damage script q first cycle)
    (is_named_by Forgery script q cycle cycle) (is_named_by Loss script q cycle cycle)

abbrev pub why_text : List FaultValue → List ℕ → ℕ → ChannelSet → TextValue
why_text script firsts cycle set = plus_joined (map (λ q. cause_text script (place_or firsts q 0) cycle q) set)

-- how many cycles began: those that finished, and that of the stop
abbrev pub begun : ℕ → Option StopValue → ℕ
begun cycles None = cycles
begun cycles (Some stop) = suc cycles

-- a number, or nothing where it is 0
abbrev pub length_text : ℕ → TextValue
length_text length = if length == 0 then [] else decimal length

-- ---- the row

abbrev pub comma : TextValue
comma = codes ","

-- which run it is and how it ended: run, state, end, cycles
unfoldable pub run_columns : ℕ → ℕ → ℕ → Option StopValue → TextValue
run_columns run state cycles stop =
    decimal run ++ comma ++ decimal state ++ comma ++ end_text stop ++ comma ++ decimal cycles ++ comma

-- where it stopped, and why: slot, disturbed, why
unfoldable pub stop_columns : List FaultValue → TallyValue → Option StopValue → TextValue
stop_columns script t stop =
    stop_slot_text stop ++ comma ++ disturbed_text (disturbed_set stop) ++ comma
    ++ why_text script t.firsts t.cycles (disturbed_set stop) ++ comma

-- the faults of the cycles that began: crashes, restarts, damages, losses, forgeries
unfoldable pub fault_columns : List FaultValue → ℕ → TextValue
fault_columns script cycles =
    decimal (kind_count Crash script cycles) ++ comma ++ decimal (kind_count Restart script cycles) ++ comma
    ++ decimal (kind_count Damage script cycles) ++ comma ++ decimal (kind_count Loss script cycles) ++ comma
    ++ decimal (kind_count Forgery script cycles) ++ comma

-- what came of it: removals, false_removals, joins, not_whole, dropped
unfoldable pub outcome_columns : TallyValue → TextValue
outcome_columns t =
    decimal t.removals ++ comma ++ decimal t.false_removals ++ comma ++ decimal t.joins ++ comma ++ decimal t.not_whole
    ++ comma
    ++ decimal t.dropped ++ comma

-- its longest transfer: longest_transfer, bound
unfoldable pub transfer_columns : ℕ → Option ℕ → TextValue
transfer_columns longest bound = length_text longest ++ comma ++ bound_text bound ++ line_end

-- the row of a run: its number, the number that it was drawn from, its script, what was counted of its cycles, its
-- stop, if there was one, and the most cycles that a transfer of the mission takes, if there is such a bound
unfoldable pub row_text : ℕ → ℕ → List FaultValue → TallyValue → Option StopValue → Option ℕ → TextValue
row_text run state script t stop bound =
    run_columns run state t.cycles stop
    ++ (stop_columns script t stop
    ++ (fault_columns script (begun t.cycles stop) ++ (outcome_columns t ++ transfer_columns t.longest bound)))

-- the line of the columns
unfoldable pub head_row : TextValue
head_row =
    codes "run,state,end,cycles,slot,disturbed,why,crashes,restarts,damages,losses,forgeries,"
    ++ codes "removals,false_removals,joins,not_whole,dropped,longest_transfer,bound" ++ line_end
