use Rattle.std.proofs.Common.{◌≡◌, ℕ, true, List, length, map, take, drop}
use Rattle.std.specs.Fmt.{decimal}
use Rattle.std.specs.List.{list_all, join_with_byte}
use Rattle.std.specs.Str.{IsUtf8}
use Rattle.guards_audit.specs.Lines.{is_small}
use Rattle.run_audit.proofs.pieces.counts.Given as goal

-- the counts so far are read, and the rest stands
abbrev pub invariant-loop-place : goal.invariant-loop-place
invariant-loop-place l = record {
  whole : length l.counts ≡ 7;
  formed : list_all is_small l.counts ≡ true;
  text : IsUtf8 l.rest;
  read : (ns : List ℕ) → list_all is_small ns ≡ true → length ns ≡ l.channels →
      l.text ≡ join_with_byte 44 (map decimal ns) →
      (l.rest ≡ join_with_byte 44 (map decimal (drop l.place ns))) × (take l.place l.counts ≡ take l.place ns);
}
