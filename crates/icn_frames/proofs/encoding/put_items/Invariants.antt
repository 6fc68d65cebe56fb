use Rattle.std.proofs.Common.{◌≡◌, ◌++◌, ◌∷◌, [], length, take}
use Rattle.std.specs.List.{flat_map}
use Rattle.guards_model.specs.Frames.{item_bytes}
use Rattle.icn_frames.proofs.encoding.put_items.Given as goal

abbrev pub invariant-loop-item : goal.invariant-loop-item
invariant-loop-item l = l.out.items
    ≡ (l.fn.out.items ++ length l.items ∷ []) ++ flat_map item_bytes (take l.item-index l.items)
