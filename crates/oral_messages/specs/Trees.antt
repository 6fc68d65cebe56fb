-- What a member's tree holds, and what it is to hold for what was received.
use Rattle.std.specs.Prelude.{◌≡◌, ◌≤◌, ℕ, ◌-◌, ◌*◌, ◌&&◌, ◌==◌, IsTrue, List, [], ◌∷◌, length, map, reverse, filter, not, Option, slice_set, ◌≢◌, if◌then◌else◌}
use Rattle.guards_model.specs.Channels.{Channel, ChannelSet, has}
use Rattle.guards_model.specs.Frames.{SourceValue, ItemValue, is_set}
use Rattle.guards_model.specs.OralMessages.{PathValue, held_value, items_owed, paths}
use Rattle.oral_messages.specs.Ranks.{rank}

-- what was received in each round from each member
abbrev pub ReceivedItems : Type 0
ReceivedItems = ℕ → Channel → List ItemValue

-- nothing
abbrev pub nothing : ReceivedItems
nothing r j = []

-- the same, with these items in a round from a member
abbrev pub with_items_of : ReceivedItems → ℕ → Channel → List ItemValue → ReceivedItems
with_items_of received round from items r j = if (r == round && j == from) then items else received r j

-- a tree: the members, the one that holds it with its own word, and the values of the paths of each round
pub record TreeValue : Type 0 where
  pub members : ChannelSet
  pub me : Channel
  pub width : ℕ
  pub own : SourceValue
  pub first : List (Option SourceValue)
  pub second : List (Option SourceValue)
  pub third : List (Option SourceValue)

-- one of three to seven members holds it, and each level that the rounds reach has a place for each path
pub record IsTreeInRange (members : ChannelSet) (me : Channel) (ones twos threes : ℕ) : Type 0 where
  pub set : IsTrue (is_set members)
  pub some : 3 ≤ length members
  pub mine : IsTrue (has members me)
  pub first : ones ≡ length members
  pub second : 4 ≤ length members → twos ≡ length members * (length members - 1)
  pub third : 7 ≤ length members → threes ≡ 210

-- the values of all paths of so many labels, in ascending order of the paths
unfoldable pub tree_level : TreeValue → ReceivedItems → ℕ → List (Option SourceValue)
tree_level t received labels = map (held_value t.members t.width t.me t.own received) (paths t.members labels)

-- the tree holds what the member is to hold for what was received
pub record Holds (t : TreeValue) (received : ReceivedItems) : Type 0 where
  pub first : t.first ≡ tree_level t received 1
  pub second : 4 ≤ length t.members → t.second ≡ tree_level t received 2
  pub third : 7 ≤ length t.members → t.third ≡ tree_level t received 3

-- what a member tells of these paths: the value of each one without itself, labels in their order
unfoldable pub items_told : Channel → (PathValue → Option SourceValue) → List PathValue → List ItemValue
items_told me value ys = map (λ y. record { path = reverse y; word = value y }) (filter (λ y. not (has y me)) ys)

-- what a member owes in a round
unfoldable pub owed_items : TreeValue → ReceivedItems → ℕ → List ItemValue
owed_items t received round = items_owed t.members t.width t.me t.own received round

-- the tree is of the same member
pub record IsSameMember (a b : TreeValue) : Type 0 where
  pub members : a.members ≡ b.members
  pub me : a.me ≡ b.me
  pub width : a.width ≡ b.width
  pub own : a.own ≡ b.own

-- the tree of a member before anything was received
pub record BeginsTree (t : TreeValue) (members : ChannelSet) (me : Channel) (width : ℕ) (own : SourceValue) : Type
    0 where
  pub members_are : t.members ≡ members
  pub me_is : t.me ≡ me
  pub width_is : t.width ≡ width
  pub own_is : t.own ≡ own
  pub holds : Holds t nothing

-- a value is kept for the path a, and where there is a next level for what the holder says for it
pub record KeepsFirst (old new : TreeValue) (a : Channel) (value : Option SourceValue) : Type 0 where
  pub same : IsSameMember new old
  pub first : new.first ≡ slice_set old.first (rank old.members (a ∷ [])) value
  pub second : 4 ≤ length old.members → new.second ≡ slice_set old.second (rank old.members (old.me ∷ a ∷ [])) value
  pub third : new.third ≡ old.third

-- the same for the path a, b; no path has the holder twice
pub record KeepsSecond (old new : TreeValue) (a b : Channel) (value : Option SourceValue) : Type 0 where
  pub same : IsSameMember new old
  pub first : new.first ≡ old.first
  pub second : new.second ≡ slice_set old.second (rank old.members (b ∷ a ∷ [])) value
  pub third : 7 ≤ length old.members → a ≢ old.me →
      new.third ≡ slice_set old.third (rank old.members (old.me ∷ b ∷ a ∷ [])) value
  pub own : a ≡ old.me → new.third ≡ old.third

-- the same for the path a, b, c
pub record KeepsThird (old new : TreeValue) (a b c : Channel) (value : Option SourceValue) : Type 0 where
  pub same : IsSameMember new old
  pub first : new.first ≡ old.first
  pub second : new.second ≡ old.second
  pub third : new.third ≡ slice_set old.third (rank old.members (c ∷ b ∷ a ∷ [])) value
