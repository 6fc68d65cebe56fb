-- How many cycles a transfer takes, told by the rules and the table alone: what a transfer copies and writes in its
-- cycles depends on nothing that a bus delivers. This project's own.
use Rattle.std.specs.Prelude.{◌≡◌, ℕ, zero, suc, ◌+◌, ◌%◌, ◌<◌, ◌≤◌, ◌↔◌, Bool, false, nat_le, IsTrue, List, [], ◌∷◌, length, Option, Some, None, if◌then◌else◌}
use Rattle.guards_model.specs.Channels.{Channel, has}
use Rattle.guards_model.specs.Missions.{MissionValue, written_blocks}
use Rattle.guards_model.specs.Network.{Log}
use Rattle.guards_model.specs.Tags.{TagsValue, tags_of, tags_noted, tags_closed, plan_by_tags}
use Rattle.guards_model.specs.Transfers.{TransferCycle, remaining_blocks, planned_blocks}
use Rattle.guards_model.specs.Decisions.{dropped_of}
use Rattle.guards_runs.specs.Cycles.{Cycle, Past, this_cycle, swept_since, cycle_at}
use Rattle.guards_runs.specs.Promises.{is_transfer_to}

-- ---- the length

-- what the first n cycles of a transfer that starts in cycle s do where it goes on that long, the latest first
abbrev pub transfer_cycles : MissionValue → ℕ → ℕ → List TransferCycle
transfer_cycles M s zero = []
transfer_cycles M s (suc n) =
    record {
      planned = planned_blocks M.rules.blocks M.rules.sweep (transfer_cycles M s n);
      written = written_blocks M (s + n);
    } ∷ transfer_cycles M s n

-- whether the blocks that remain after n cycles of it fit a final frame
abbrev pub fits_after : MissionValue → ℕ → ℕ → Bool
fits_after M s n = nat_le (length (remaining_blocks M.rules.blocks (transfer_cycles M s n))) M.rules.last

-- the first of so many numbers from n on that passes
abbrev pub first_from : (ℕ → Bool) → ℕ → ℕ → Option ℕ
first_from passes n zero = None
first_from passes n (suc more) = if passes n then Some n else first_from passes (suc n) more

-- no run has more cycles, nor has any bound of a join
abbrev pub most_cycles : ℕ
most_cycles = 2000

-- The number of cycles of a transfer that starts in a cycle of this row and keeps a target to its end: the first number
-- of cycles, from 1 on, after which the rest fits a final frame; or none where no run lasts that long.
unfoldable pub transfer_length : MissionValue → ℕ → Option ℕ
transfer_length M row = first_from (fits_after M row) 1 most_cycles

-- the row of the table whose turn it is in a cycle
abbrev pub row_of : MissionValue → ℕ → ℕ
row_of M c = c % length M.table

-- ---- the same, counted along by the tags

-- the tags after cycle c of a transfer
abbrev pub next_tags : MissionValue → ℕ → TagsValue → TagsValue
next_tags M c tags = tags_closed (plan_by_tags M.rules.sweep tags) (tags_noted (written_blocks M c) tags)

-- the tags with which a transfer starts, and those after n cycles of one that starts in cycle s
abbrev pub tags_in_transfer : MissionValue → ℕ → ℕ → TagsValue
tags_in_transfer M s zero = tags_of M.rules.blocks [] []
tags_in_transfer M s (suc n) = next_tags M (s + n) (tags_in_transfer M s n)

-- the first number of cycles from n on, of so many, after which the rest fits, from the tags before cycle c on
abbrev pub counted_from : MissionValue → ℕ → TagsValue → ℕ → ℕ → Option ℕ
counted_from M c tags n zero = None
counted_from M c tags n (suc more) =
    let after = next_tags M c tags in
    if nat_le (length after.remaining) M.rules.last then Some n else counted_from M (suc c) after (suc n) more

unfoldable pub counted_length : MissionValue → ℕ → ℕ → Option ℕ
counted_length M row most = counted_from M row (tags_of M.rules.blocks [] []) 1 most

-- After i cycles the tags are what they are d cycles later, where the table stands as before, and until then the rest
-- never fits. So the transfer goes round, and never ends.
pub record GoesRound (M : MissionValue) (row i d : ℕ) : Type 0 where
  pub some : 0 < d
  pub rows : d % length M.table ≡ 0
  pub again : tags_in_transfer M row (i + d) ≡ tags_in_transfer M row i
  pub unfit : counted_length M row (i + d) ≡ None

-- ---- what a run keeps

-- A transfer to q from start s that runs in cycle e, after the past.
pub record TakesJust (M : MissionValue) (past : Past) (e : Cycle) (q : Channel) (s : ℕ) : Type 0 where
  -- so many cycles of it were before
  pub count : ℕ
  pub place : this_cycle past ≡ s + count
  -- what they planned and wrote, what this one plans, and what remains after it, is told by the row of the start
  pub before : swept_since M s past ≡ transfer_cycles M (row_of M s) count
  pub planned : e.planned ≡ planned_blocks M.rules.blocks M.rules.sweep (transfer_cycles M (row_of M s) count)
  pub remaining : e.remaining ≡ remaining_blocks M.rules.blocks (transfer_cycles M (row_of M s) (suc count))
  -- it has not more cycles than its length says
  pub within : (k : ℕ) → transfer_length M (row_of M s) ≡ Some k → count < k
  -- and its targets are declared joined in the last one, and in no other
  pub joined : IsTrue (has e.joined q) ↔ (transfer_length M (row_of M s) ≡ Some (suc count))

abbrev pub TakeLength : MissionValue → Past → Cycle → Type 0
TakeLength M past e = (q : Channel) (s : ℕ) → IsTrue (is_transfer_to q s e.transfer) → TakesJust M past e q s

-- the targets that a cycle drops of the transfer that runs
abbrev pub dropped_in : ℕ → Cycle → List ℕ
dropped_in c e = dropped_of e.active e.agreed c e.running

-- no cycle after the start, up to cycle c, drops the target
abbrev pub IsKeptTo : MissionValue → Log → Channel → ℕ → ℕ → Type 0
IsKeptTo M L q s c = (d : ℕ) → s < d → d ≤ c → has (dropped_in d (cycle_at M L d)) q ≡ false

-- A transfer that starts in cycle s and has the target q: while no cycle drops the target, it runs in just the cycles
-- of its length.
abbrev pub RunsForLength : MissionValue → Log → Channel → ℕ → ℕ → Type 0
RunsForLength M L q s c =
    IsTrue (is_transfer_to q s (cycle_at M L c).transfer) ↔
    ((k : ℕ) → transfer_length M (row_of M s) ≡ Some k → c < s + k)
