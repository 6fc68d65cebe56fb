-- Whether a line fits what the lines before it tell.
use Rattle.std.specs.Prelude.{ℕ, ◌==◌, Bool, true, false, not, ◌&&◌, ◌||◌, nat_lt, nat_le, ℤ, List, [], ◌∷◌, length, map, take, count_by, Option, Some, None, if◌then◌else◌}
use Rattle.std.specs.Ordering.{int_eq}
use Rattle.std.specs.Cmp.Lexicographic.{pointwise}
use Rattle.std.specs.List.{list_all, list_any}
use Rattle.std.specs.Str.{bytes_eq}
use Rattle.guards_model.specs.Channels.{Channel, ChannelSet, has, place_or, without}
use Rattle.guards_model.specs.Tasks.{whole}
use Rattle.guards_model.specs.Missions.{MissionValue, ActuatorValue, cycle_writes, output_words, within}
use Rattle.guards_model.specs.Diagnosis.{counts_of}
use Rattle.guards_model.specs.Transfers.{TransferValue}
use Rattle.guards_model.specs.Decisions.{joined_of}
use Rattle.guards_model.specs.Rounds.{is_task, is_sweep}
use Rattle.guards_model.specs.Texts.{LineValue, TraceValue, RecordValue}
use Rattle.guards_audit.specs.Lines.{is_empty}
use Rattle.guards_audit.specs.Told.{Told, next_cycle_number, first_line, active_told, counts_told, context_told, words_told, plan_told, number_remaining, rest_told}

-- ---- lists that are the same

abbrev pub are_same_words : List ℤ → List ℤ → Bool
are_same_words words others = pointwise int_eq words others

abbrev pub same_vote : Option ℤ → Option ℤ → Bool
same_vote None None = true
same_vote (Some a) (Some b) = int_eq a b
same_vote _ _ = false

abbrev pub same_votes : List (Option ℤ) → List (Option ℤ) → Bool
same_votes votes others = pointwise same_vote votes others

abbrev pub same_number : Option ℕ → Option ℕ → Bool
same_number None None = true
same_number (Some a) (Some b) = a == b
same_number _ _ = false

-- ---- the line with which a cycle begins

-- the transfer of the cycle before had this start and all these targets
abbrev pub continues : Option TransferValue → TransferValue → Bool
continues None t = false
continues (Some before) t = before.start == t.start && list_all (has before.targets) t.targets

-- the transfer is the one of the cycle before, in which no channel joined
abbrev pub transfer_goes_on : Told → TransferValue → Bool
transfer_goes_on [] t = false
transfer_goes_on (r ∷ told) t = is_empty r.joined && continues r.transfer t

-- a channel that may be restored
abbrev pub is_passive : MissionValue → ChannelSet → Channel → Bool
is_passive M active q = nat_lt q M.rules.channels && not (has active q)

-- it is to one up to `returning` passive channels, and starts in this cycle or goes on
abbrev pub transfer_fits : MissionValue → Told → ChannelSet → Option TransferValue → Bool
transfer_fits M told active None = true
transfer_fits M told active (Some t) =
    within 1 M.rules.returning (length t.targets)
    && (list_all (is_passive M active) t.targets && (t.start == next_cycle_number told || transfer_goes_on told t))

abbrev pub cycle_fits : MissionValue → Told → ℕ → ChannelSet → Option TransferValue → Bool
cycle_fits M told c active transfer =
    (nat_lt c M.cycles && c == next_cycle_number told)
    && (bytes_eq active (active_told M told) && transfer_fits M told active transfer)

-- ---- the line of a channel

-- the channel is active and above the last one of the lines before
abbrev pub comes_next : ChannelSet → List Channel → Channel → Bool
comes_next active before p = has active p && list_all (λ q. nat_lt q p) before

-- it says what the first line of the cycle says
abbrev pub says_same : LineValue → LineValue → Bool
says_same l first =
    (are_same_words l.inputs first.inputs && same_votes l.votes first.votes)
    && (bytes_eq l.judged first.judged && bytes_eq l.counts first.counts)

-- the counts are those of the printed judgement, active set and earlier counts
abbrev pub counts_fit : MissionValue → Told → RecordValue → LineValue → Bool
counts_fit M told r l =
    bytes_eq l.counts
    (take M.rules.channels
    (counts_of M.rules.law M.rules.keep M.rules.decrement r.active l.judged (counts_told M told)))

-- the votes are the output words of the context that the printed inputs give
abbrev pub votes_fit : MissionValue → Told → LineValue → Bool
votes_fit M told l =
    same_votes l.votes
    (map (λ w. Some w)
    (output_words M (whole (cycle_writes M (next_cycle_number told)) (context_told M told) (next_cycle_number told)
    l.inputs)))

-- as many inputs as the mission's width; only active channels are judged
abbrev pub first_fits : MissionValue → Told → RecordValue → LineValue → Bool
first_fits M told r l =
    (length l.inputs == M.width && list_all (has r.active) l.judged) && (counts_fit M told r l && votes_fit M told l)

-- the first line of the cycle, or one more
abbrev pub says_fit : MissionValue → Told → RecordValue → LineValue → Bool
says_fit M told r l = if is_empty r.lines then first_fits M told r l else says_same l (first_line r)

-- no line of a channel follows one of steps
abbrev pub channel_fits : MissionValue → Told → RecordValue → LineValue → Bool
channel_fits M told r l =
    (is_empty r.traces && comes_next r.active (map (λ line. line.channel) r.lines) l.channel) && says_fit M told r l

-- ---- the line of a channel's steps

-- some line of a channel stands before; there is a letter for each write of the row and for each planned block
abbrev pub steps_fit : MissionValue → Told → RecordValue → TraceValue → Bool
steps_fit M told r t =
    (not (is_empty r.lines) && comes_next r.active (map (λ trace. trace.channel) r.traces) t.channel)
    && (count_by is_task t.steps == length (cycle_writes M (next_cycle_number told))
    && count_by is_sweep t.steps == length (plan_told M told r.transfer))

-- ---- the line with which a cycle ends

-- an active channel whose count has reached the threshold stays only where three are left, and all removed are below it
abbrev pub stays_rightly : MissionValue → RecordValue → ChannelSet → Channel → Bool
stays_rightly M r removed q =
    (not (nat_le M.rules.threshold (place_or (first_line r).counts q 0)) || has removed q)
    || (length (without r.active removed) == 3 && list_all (λ p. nat_lt p q) removed)

-- only active channels are removed, and three are left
abbrev pub removed_fits : MissionValue → RecordValue → ChannelSet → Bool
removed_fits M r removed =
    list_all (has r.active) removed
    && (nat_le 3 (length (without r.active removed)) && list_all (stays_rightly M r removed) r.active)

-- each channel with a line has one of its steps
abbrev pub all_traced : RecordValue → Bool
all_traced r = list_all (λ l. list_any (λ t. t.channel == l.channel) r.traces) r.lines

abbrev pub end_fits : MissionValue → Told → RecordValue → ChannelSet → ChannelSet → Option ℕ → Bool
end_fits M told r removed joined remaining =
    ((not (is_empty r.lines) && all_traced r) && removed_fits M r removed)
    && (same_number remaining (number_remaining M told r.transfer)
    && bytes_eq joined (joined_of M.rules.last r.transfer (rest_told M told r.transfer)))

-- ---- the line of an actuator's words

-- the words are those that the told cycles give; without an actuator there is no such line
abbrev pub words_fit : Option ActuatorValue → Told → List ℤ → Bool
words_fit None told words = false
words_fit (Some a) told words = are_same_words words (words_told a told)
