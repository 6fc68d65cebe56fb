-- What a part of a cycle that carries nothing leaves as it is: the mission, and the counts of cycles and entries.
use Rattle.std.specs.Prelude.{◌≡◌}
use Rattle.guards_world.specs.Worlds.{WorldValue}

pub record IsWorldKept (old new : WorldValue) : Type 0 where
  pub mission : new.mission ≡ old.mission
  pub done : new.done ≡ old.done
  pub carried : new.carried ≡ old.carried
