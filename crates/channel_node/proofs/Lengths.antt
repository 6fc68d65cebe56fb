-- What a node takes leaves its context with as many blocks.
use Rattle.std.proofs.Common.{◌≡◌, ◌==◌, ◌+◌, ℕ, zero, suc, Bool, true, false, List, [], ◌∷◌, length, replicate, Option, Some, None, refl, ap, ◌∙◌}
use Rattle.std.specs.Prelude.{map, slice_set, if◌then◌else◌}
use Rattle.std.specs.Option.{option_eq}
use Rattle.std.specs.List.{range_with_len}
use Rattle.std.proofs.lemmas.List.{length-map, length-replicate, length-set}
use Rattle.guards_model.specs.Channels.{numbers_below}
use Rattle.guards_model.specs.Contexts.{ContextValue, zero_block}
use Rattle.guards_model.specs.Frames.{CopyValue, SweepValue, FinalValue}
use Rattle.guards_model.specs.Majority.{majority}
use Rattle.guards_model.specs.Replicas.{ReplicaValue, voted_block, restarted_replica, replica_for_start, with_copies, final_taken}
use Rattle.guards_nodes.specs.NodeStates.{JoinerValue}
use Rattle.guards_nodes.specs.NodeSteps.{after_sweep_frames}
use Rattle.join_vote.specs.Finals.{replica_with, after_final}

length-range : (a n : ℕ) → length (range_with_len a n) ≡ n
length-range a zero = refl
length-range a (suc n) = ap suc (length-range (a + 1) n)

length-copies : (copies : List CopyValue) (ctx : ContextValue) → length (with_copies copies ctx) ≡ length ctx
length-copies [] ctx = refl
length-copies (copy ∷ copies) ctx =
    length-copies copies (slice_set ctx copy.block copy.words) ∙ length-set ctx copy.block copy.words

-- ---- the sweep

restarted : (starts : Bool) (blocks c : ℕ) (r : ReplicaValue) → length r.blocks ≡ blocks →
    length (if starts then record { have = Some c; blocks = replicate blocks zero_block } else r).blocks ≡ blocks
restarted true blocks c r h = length-replicate blocks zero_block
restarted false blocks c r h = h

filled : (own : Bool) (blocks start : ℕ) (frames : List SweepValue) (r : ReplicaValue) → length r.blocks ≡ blocks →
    length (if own then record {
      have = r.have;
      blocks = map (voted_block start frames r.blocks) (numbers_below blocks);
    } else r).blocks ≡ blocks
filled true blocks start frames r h =
    length-map (numbers_below blocks) (voted_block start frames r.blocks) ∙ length-range 0 blocks
filled false blocks start frames r h = h

for_start : (blocks c : ℕ) (frames : List SweepValue) (start : Option ℕ) (r : ReplicaValue) → length r.blocks ≡ blocks →
    length (replica_for_start blocks c frames start r).blocks ≡ blocks
for_start blocks c frames None r h = h
for_start blocks c frames (Some start) r h =
    let s : ReplicaValue = restarted_replica blocks c start r in
    filled (option_eq (λ a b. a == b) s.have (Some start)) blocks start frames s (restarted (start == c) blocks c r h)

pub length-swept : (blocks c : ℕ) (frames : List SweepValue) (j : JoinerValue) → length j.replica.blocks ≡ blocks →
    length (after_sweep_frames blocks c frames j).replica.blocks ≡ blocks
length-swept blocks c frames j h =
    for_start blocks c frames (majority (λ a b. a == b) (map (λ (f : SweepValue). f.start) frames)) j.replica h

-- ---- the final content

length-with : (content : Option FinalValue) (r : ReplicaValue) →
    length (replica_with content r).blocks ≡ length r.blocks
length-with None r = refl
length-with (Some content) r = length-copies content.copies r.blocks

pub length-final : (frames : List FinalValue) (r : ReplicaValue) →
    length (after_final frames r).blocks ≡ length r.blocks
length-final frames r = length-with (final_taken frames r) r
