-- What is true of the fields of tags.
use Rattle.std.specs.Prelude.{ℕ, ◌<◌, ◌≤◌}

pub record IsTagFields (blocks cursor : ℕ) : Type 0 where
  pub some : 1 ≤ blocks
  pub most : blocks ≤ 256
  pub within : cursor < blocks
