-- What the reader of a set answers.
use Rattle.std.proofs.Common.{◌≡◌, ℕ, ◌<◌, List, Some, refl}
use Rattle.std.proofs.lemmas.Bool.{lt-ltb}
use Rattle.guards_model.specs.Channels.{ChannelSet, set_of_mask}
use Rattle.guards_model.specs.Fields.{set_at, byte_at}

pub set_is_read : (bytes rest : List ℕ) (b : ℕ) (set : ChannelSet) → byte_at bytes ≡ Some (b, rest) → b < 128 →
    set ≡ set_of_mask b → set_at bytes ≡ Some (set, rest)
unfolding set_at
set_is_read bytes rest b set read below e = rw (read, lt-ltb b 128 below, e) refl
