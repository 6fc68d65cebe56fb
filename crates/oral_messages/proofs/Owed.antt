-- What is told of the round before is what a member owes.
use Rattle.std.proofs.Common.{◌≡◌, ◌≤◌, List, [], ◌∷◌, length, Option, Some, ◌∙◌}
use Rattle.std.specs.Prelude.{map}
use Rattle.guards_model.specs.Frames.{SourceValue, ItemValue}
use Rattle.guards_model.specs.OralMessages.{PathValue, paths, held_value}
use Rattle.oral_messages.specs.Trees.{TreeValue, ReceivedItems, Holds, tree_level, items_told, owed_items}

module _ (t : TreeValue) (received : ReceivedItems) (holds : Holds t received) (items : List ItemValue) where
  pub owed_own : items ≡ (let one : ItemValue = record { path = []; word = Some t.own } in one ∷ []) →
      items ≡ owed_items t received 1
  unfolding owed_items
  owed_own told = told

  pub owed_sources : (values : List (Option SourceValue)) → values ≡ t.first →
      ((value : PathValue → Option SourceValue) → values ≡ map value (paths t.members 1) →
      items ≡ items_told t.me value (paths t.members 1)) →
      items ≡ owed_items t received 2
  unfolding owed_items tree_level items_told
  owed_sources values same told = told (held_value t.members t.width t.me t.own received) (same ∙ holds.first)

  pub owed_relays : (values : List (Option SourceValue)) → values ≡ t.second → 4 ≤ length t.members →
      ((value : PathValue → Option SourceValue) → values ≡ map value (paths t.members 2) →
      items ≡ items_told t.me value (paths t.members 2)) →
      items ≡ owed_items t received 3
  unfolding owed_items tree_level items_told
  owed_relays values same some told = told (held_value t.members t.width t.me t.own received) (same ∙ holds.second some)
