-- The integers of a document are words of 64 bits.
use Rattle.std.specs.Prelude.{Bool, true, ◌&&◌}
use Rattle.toml.specs.Data.{Data, integer, array, table, Items, no_items, item, Members, no_members, member}
use Rattle.guards_model.specs.Words.{is_word}

-- each integer inside is a word
abbrev mutual
  pub holds_words : Data → Bool
  holds_words (integer z) = is_word z
  holds_words (array items) = items_hold_words items
  holds_words (table fields) = members_hold_words fields
  holds_words _ = true

  pub items_hold_words : Items → Bool
  items_hold_words no_items = true
  items_hold_words (item value rest) = holds_words value && items_hold_words rest

  pub members_hold_words : Members → Bool
  members_hold_words no_members = true
  members_hold_words (member key value rest) = holds_words value && members_hold_words rest
