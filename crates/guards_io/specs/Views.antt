-- What contracts see of a source and of a sink.
use Rattle.std.specs.Prelude.{ℕ, List, Option}

-- what a source has left, where it tells that, and how often it has failed, which never falls
pub record SourceView : Type 0 where
  pub left : Option (List ℕ)
  pub faults : ℕ

-- what was written to a sink, where it tells that, and how often it has failed, which never falls
pub record SinkView : Type 0 where
  pub written : Option (List ℕ)
  pub faults : ℕ
