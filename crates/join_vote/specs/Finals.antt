-- What the final frames of a cycle leave of a replica. This project's own.
use Rattle.std.specs.Prelude.{List, Option, Some, None}
use Rattle.guards_model.specs.Frames.{FinalValue}
use Rattle.guards_model.specs.Replicas.{ReplicaValue, with_copies, final_taken}

-- the blocks of a content that is taken are put in
abbrev pub replica_with : Option FinalValue → ReplicaValue → ReplicaValue
replica_with None r = r
replica_with (Some content) r = record { have = r.have; blocks = with_copies content.copies r.blocks }

-- the replica after the final frames of a cycle that count
abbrev pub after_final : List FinalValue → ReplicaValue → ReplicaValue
after_final frames r = replica_with (final_taken frames r) r
