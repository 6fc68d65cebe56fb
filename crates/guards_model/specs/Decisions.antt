-- What the channels decide in a cycle about requests, transfers and joins. This project's own.
use Rattle.std.specs.Prelude.{ℕ, Bool, false, not, ◌&&◌, ◌==◌, nat_le, List, [], ◌∷◌, length, filter, Option, Some, None, if◌then◌else◌}
use Rattle.guards_model.specs.Channels.{Channel, ChannelSet, has}
use Rattle.guards_model.specs.Diagnosis.{Agreed}
use Rattle.guards_model.specs.Transfers.{TransferValue, stays}

-- what the channels decide from the agreed words
pub record DecisionValue : Type 0 where
  -- the channels that are judged errant
  pub judged : ChannelSet
  -- the alpha-counts after this cycle's step
  pub counts : List ℕ
  -- the channels that leave the active set
  pub removed : ChannelSet
  -- the transfer that goes on or starts
  pub transfer : Option TransferValue
  -- the blocks that the sweep copies, in order
  pub planned : List ℕ

-- the targets that a running transfer loses: those that do not stay
abbrev pub dropped_of : ChannelSet → Agreed → ℕ → Option TransferValue → ChannelSet
dropped_of active agreed c None = []
dropped_of active agreed c (Some t) = filter (λ q. not (stays active agreed c t q)) t.targets

-- whether the transfer of cycle c is one that started in it
abbrev pub has_started : ℕ → Option TransferValue → Bool
has_started c None = false
has_started c (Some t) = t.start == c

-- whether the running transfer is to a channel, and from this start
abbrev pub is_start_of : Option TransferValue → Channel → ℕ → Bool
is_start_of None q start = false
is_start_of (Some t) q start = has t.targets q && t.start == start

-- the code of a request: 2 where it has the start of the running transfer to its sender, 1 for any other, 0 for none
abbrev pub request_code : Option TransferValue → Channel → Option (Option ℕ) → ℕ
request_code running q None = 0
request_code running q (Some None) = 1
request_code running q (Some (Some start)) = if is_start_of running q start then 2 else 1

-- the targets are declared joined where the remaining blocks fit a final frame, which carries this many at most
abbrev pub joined_of : ℕ → Option TransferValue → List ℕ → ChannelSet
joined_of last None remaining_blocks = []
joined_of last (Some t) remaining_blocks = if nat_le (length remaining_blocks) last then t.targets else []

-- a transfer is over when its targets are declared joined
abbrev pub if_empty : ChannelSet → Option TransferValue → Option TransferValue
if_empty [] t = t
if_empty (q ∷ joined) t = None
