-- What two runs of one mission have in common, whatever was carried in them.
use Rattle.std.specs.Prelude.{◌≡◌, [], map}
use Rattle.guards_runs.specs.Cycles.{Cycle, Past}

-- the facts of a cycle without its entries
abbrev pub without_entries : Cycle → Cycle
without_entries e =
    record { entries = []; opening = e.opening; agreement = e.agreement; decision = e.decision; work = e.work }

-- some cycles of two runs have the same facts, but for their entries
abbrev pub HaveSameFacts : Past → Past → Type 0
HaveSameFacts P R = map without_entries P ≡ map without_entries R
