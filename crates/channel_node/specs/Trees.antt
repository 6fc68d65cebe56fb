-- What contracts see of the tree of a member.
use Rattle.std.specs.Prelude.{◌≡◌, ◌≤◌, ℕ, ◌+◌, [], ◌∷◌, ◌==◌, ◌&&◌, nat_le, length, take, Bool, Option, None, if◌then◌else◌}
use Rattle.guards_model.specs.Channels.{Channel, ChannelSet, has, tolerated_faults}
use Rattle.guards_model.specs.Frames.{SourceValue}
use Rattle.guards_model.specs.OralMessages.{resolved_value}
use Rattle.guards_nodes.specs.NodeStates.{ExchangeTreeValue}
use Rattle.guards_nodes.specs.NodeSteps.{Received, tree_for}
use Rattle.oral_messages.specs.Trees.{TreeValue}

-- the levels of the rounds that there are
abbrev pub seen_tree : TreeValue → ExchangeTreeValue
seen_tree t =
    record {
      active = t.members;
      me = t.me;
      width = t.width;
      own = t.own;
      levels = take (tolerated_faults t.members + 1) (t.first ∷ t.second ∷ t.third ∷ []);
    }

-- the tree stands for what was received
abbrev pub IsTreeFor : Received → ExchangeTreeValue → Type 0
IsTreeFor received tree = tree ≡ tree_for received tree

-- the members, the member itself and the width of a tree, beside it
pub record IsOfTree (active : ChannelSet) (me : Channel) (width : ℕ) (t : TreeValue) : Type 0 where
  pub members : active ≡ t.members
  pub me_is : me ≡ t.me
  pub width_is : width ≡ t.width
  pub few : length active ≤ 7
  pub narrow : width ≤ 4

-- the places of a tree suffice for a cycle of the same member with the same width and no member more
abbrev pub has_places : Channel → ChannelSet → ℕ → ExchangeTreeValue → Bool
has_places me active width t = t.me == me && t.width == width && nat_le (length active) (length t.active)

-- the word of a channel, where it is a member
abbrev pub word_from : Received → ExchangeTreeValue → Channel → Option SourceValue
word_from received t s =
    if has t.active s then resolved_value t.active t.width t.me t.own received (tolerated_faults t.active) (s ∷ [])
    else None
