use Rattle.std.proofs.Common.{◌≡◌, ◌++◌, ◌∷◌, [], length, take}
use Rattle.std.specs.List.{flat_map}
use Rattle.guards_model.specs.Frames.{copy_bytes}
use Rattle.icn_frames.proofs.encoding.put_copies.Given as goal

abbrev pub invariant-loop-copy : goal.invariant-loop-copy
invariant-loop-copy l = l.out.items
    ≡ (l.fn.out.items ++ length l.copies ∷ []) ++ flat_map copy_bytes (take l.copy-index l.copies)
