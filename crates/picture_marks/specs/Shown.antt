-- What the facts of a cycle show in each lane of a picture.
use Rattle.std.specs.Prelude.{ℕ, ◌==◌, Bool, true, false, not, ◌&&◌, ℤ, pos, length, Option, Some, None, if◌then◌else◌}
use Rattle.std.specs.Ordering.{int_eq}
use Rattle.guards_model.specs.Channels.{Channel, ChannelSet, has, place_or}
use Rattle.picture_marks.specs.declared.facts.CycleFacts.{CycleFacts}
use Rattle.picture_marks.specs.declared.facts.Limits.{Limits}
use Rattle.picture_marks.specs.declared.shown.Lane.{Lane}
use Rattle.picture_marks.specs.declared.shown.Lane.TheVariants as lane
use Rattle.picture_marks.specs.declared.shown.Shown.{Shown}
use Rattle.picture_marks.specs.declared.shown.Shown.TheVariants as shown

-- a channel that is not active is restored where it is a target of the transfer; whether any other one waits, is down
-- or asks no report tells
abbrev pub passive_state : Option (ChannelSet × ℕ) → Channel → Shown
passive_state None q = shown.Off
passive_state (Some t) q = if has t.0 q then shown.Restored t.1 else shown.Off

-- an active channel runs where it has a line
abbrev pub state_shown_in : CycleFacts → Channel → Shown
state_shown_in f q =
    if has f.active q then (if has f.ran q then shown.Runs else shown.Silent) else passive_state f.transfer q

-- its count, where the cycle has lines
abbrev pub count_in : CycleFacts → Channel → Shown
count_in f q = if length f.ran == 0 then shown.Nothing else shown.Count (place_or f.counts q 0)

-- the count at which it is removed, where the mission is known and the cycle has lines
abbrev pub threshold_in : Option Limits → CycleFacts → Shown
threshold_in None f = shown.Nothing
threshold_in (Some l) f = if length f.ran == 0 then shown.Nothing else shown.Threshold l.threshold

abbrev pub cast : Option ℤ → Shown
cast None = shown.Nothing
cast (Some w) = shown.Vote w

-- the word of an output, where the cycle has lines
abbrev pub vote_in : CycleFacts → ℕ → Shown
vote_in f k = if length f.ran == 0 then shown.Nothing else cast (place_or f.votes k None)

abbrev pub blocks_shown : Option ℕ → Shown
blocks_shown None = shown.Nothing
blocks_shown (Some left) = shown.Blocks left

-- how many blocks a final frame may carry, where the mission is known and a transfer runs
abbrev pub final_in : Option Limits → Option ℕ → Shown
final_in (Some l) (Some left) = shown.Final l.last
final_in _ _ = shown.Nothing

-- a target of the transfer that started then
abbrev pub is_target_shown : Option (ChannelSet × ℕ) → ℕ → Channel → Bool
is_target_shown None since q = false
is_target_shown (Some t) since q = t.1 == since && has t.0 q

-- a target of the transfer of the cycle before is dropped where it has not joined, and is no target of the same
-- transfer
abbrev pub dropped_from : Option (ChannelSet × ℕ) → CycleFacts → Channel → Bool
dropped_from None f q = false
dropped_from (Some t) f q = has t.0 q && (not (has f.arrived q) && not (is_target_shown f.transfer t.1 q))

abbrev pub is_dropped : CycleFacts → Channel → Bool
is_dropped f q = dropped_from f.before f q

-- what a lane shows of a cycle, with the limits of the mission where that is known
abbrev pub lane_shown_in : Option Limits → Lane → CycleFacts → Shown
lane_shown_in limits (lane.State q) f = state_shown_in f q
lane_shown_in limits (lane.Judged q) f = if has f.judged q then shown.Judged else shown.Nothing
lane_shown_in limits (lane.Count q) f = count_in f q
lane_shown_in limits (lane.Threshold q) f = threshold_in limits f
lane_shown_in limits (lane.Removed q) f = if has f.removed q then shown.Removed f.cycle else shown.Nothing
lane_shown_in limits (lane.Joined q) f = if has f.joined q then shown.Joined f.cycle else shown.Nothing
lane_shown_in limits (lane.Dropped q) f = if is_dropped f q then shown.Dropped f.cycle else shown.Nothing
lane_shown_in limits lane.Remaining f = blocks_shown f.remaining
lane_shown_in limits lane.Final f = final_in limits f.remaining
lane_shown_in limits (lane.Output k) f = vote_in f k

-- ---- whether two show the same: they look alike and have the same amount

abbrev pub look : Shown → ℕ
look shown.Nothing = 0
look shown.Runs = 1
look shown.Silent = 2
look shown.Off = 3
look shown.Judged = 4
look (shown.Restored start) = 5
look (shown.Removed cycle) = 6
look (shown.Joined cycle) = 7
look (shown.Dropped cycle) = 8
look (shown.Count count) = 9
look (shown.Blocks left) = 10
look (shown.Vote word) = 11
look (shown.Threshold count) = 12
look (shown.Final blocks) = 13

abbrev pub amount : Shown → ℤ
amount shown.Nothing = pos 0
amount shown.Runs = pos 0
amount shown.Silent = pos 0
amount shown.Off = pos 0
amount shown.Judged = pos 0
amount (shown.Restored start) = pos start
amount (shown.Removed cycle) = pos cycle
amount (shown.Joined cycle) = pos cycle
amount (shown.Dropped cycle) = pos cycle
amount (shown.Count count) = pos count
amount (shown.Blocks left) = pos left
amount (shown.Vote word) = word
amount (shown.Threshold count) = pos count
amount (shown.Final blocks) = pos blocks

abbrev pub same : Shown → Shown → Bool
same a b = look a == look b && int_eq (amount a) (amount b)

-- whether there is anything to draw
abbrev pub is_drawn : Shown → Bool
is_drawn shown.Nothing = false
is_drawn _ = true

-- ---- whether two lanes are one

abbrev pub lane_kind : Lane → ℕ
lane_kind (lane.State q) = 0
lane_kind (lane.Judged q) = 1
lane_kind (lane.Count q) = 2
lane_kind (lane.Removed q) = 3
lane_kind (lane.Joined q) = 4
lane_kind (lane.Dropped q) = 5
lane_kind lane.Remaining = 6
lane_kind (lane.Output k) = 7
lane_kind (lane.Threshold q) = 8
lane_kind lane.Final = 9

abbrev pub lane_place : Lane → ℕ
lane_place (lane.State q) = q
lane_place (lane.Judged q) = q
lane_place (lane.Count q) = q
lane_place (lane.Removed q) = q
lane_place (lane.Joined q) = q
lane_place (lane.Dropped q) = q
lane_place lane.Remaining = 0
lane_place (lane.Output k) = k
lane_place (lane.Threshold q) = q
lane_place lane.Final = 0

abbrev pub same_lane : Lane → Lane → Bool
same_lane a b = lane_kind a == lane_kind b && lane_place a == lane_place b
