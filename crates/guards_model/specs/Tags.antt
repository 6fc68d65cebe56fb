-- The tags of a transfer: which blocks remain, kept from cycle to cycle without the cycles that came before.
use Rattle.std.specs.Prelude.{◌≡◌, ℕ, not, ◌&&◌, ◌||◌, List, [], ◌∷◌, filter, take, None}
use Rattle.std.specs.List.{last_or}
use Rattle.guards_model.specs.Channels.{has, numbers_below}
use Rattle.guards_model.specs.Transfers.{TransferCycle, remaining_blocks, sweep_cursor, cursor_after, cyclic_from}

-- the blocks that remained at the end of the last cycle, the block at which the next plan begins, and the blocks
-- that were written since; both lists are ascending
pub record TagsValue : Type 0 where
  pub blocks : ℕ
  pub remaining : List ℕ
  pub cursor : ℕ
  pub written : List ℕ

-- the blocks that a list has, ascending
abbrev pub blocks_in : ℕ → List ℕ → List ℕ
blocks_in blocks list = filter (has list) (numbers_below blocks)

-- the tags that stand for these cycles of a transfer, the latest first, and for what was written since
unfoldable pub tags_of : ℕ → List TransferCycle → List ℕ → TagsValue
tags_of blocks cycles written =
    record {
      blocks = blocks;
      remaining = remaining_blocks blocks cycles;
      cursor = sweep_cursor blocks cycles;
      written = blocks_in blocks written;
    }

-- the tags stand for a list of cycles
abbrev pub StandFor : TagsValue → List TransferCycle → List ℕ → Type 0
StandFor tags cycles written = tags ≡ tags_of tags.blocks cycles written

-- the tags after a write
unfoldable pub tags_written : ℕ → TagsValue → TagsValue
tags_written block tags =
    record {
      blocks = tags.blocks;
      remaining = tags.remaining;
      cursor = tags.cursor;
      written = blocks_in tags.blocks (block ∷ tags.written);
    }

-- the tags after writes to all blocks of a list
unfoldable pub tags_noted : List ℕ → TagsValue → TagsValue
tags_noted list tags =
    record {
      blocks = tags.blocks;
      remaining = tags.remaining;
      cursor = tags.cursor;
      written = filter (λ b. has list b || has tags.written b) (numbers_below tags.blocks);
    }

-- the tags after a cycle with this plan: a block remains where it was written, or remained and was not planned
unfoldable pub tags_closed : List ℕ → TagsValue → TagsValue
tags_closed planned tags =
    record {
      blocks = tags.blocks;
      remaining = filter (λ b. has tags.written b || (not (has planned b) && has tags.remaining b))
          (numbers_below tags.blocks);
      cursor = cursor_after tags.blocks tags.cursor (last_or None planned);
      written = [];
    }

-- the plan that the tags give: the first `sweep` remaining blocks in cyclic order from the cursor
unfoldable pub plan_by_tags : ℕ → TagsValue → List ℕ
plan_by_tags sweep tags = take sweep (filter (has tags.remaining) (cyclic_from tags.blocks tags.cursor))
