use Rattle.std.proofs.Common.{◌≡◌, ℕ, ◌<◌, not, ◌&&◌, take}
use Rattle.guards_model.specs.Channels.{has}
use Rattle.dirty_tags.specs.Marks.{is_marked}
use Rattle.dirty_tags.proofs.marks.unmark.Given as goal

abbrev pub invariant-loop-block : goal.invariant-loop-block
invariant-loop-block l = (b : ℕ) → b < 256 →
    is_marked l.marks b ≡ (not (has (take l.block-index l.planned) b) && is_marked l.initial.marks b)
