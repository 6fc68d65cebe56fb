use Rattle.std.proofs.Common.{◌≡◌, [], drop, length, map, true}
use Rattle.std.specs.List.{list_all}
use Rattle.toml.specs.View.{items_view}
use Rattle.document_checks.specs.Checks.{each}
use Rattle.document_checks.proofs.elements.each.Given as goal

-- the elements that are left, after those that were read, give what all of them give
abbrev pub invariant-loop-value : goal.invariant-loop-value
invariant-loop-value g l =
    (each (g.R.ElementReader.check l.reader) l.path (map (g.R.ElementReader.meaning l.reader) l.list.items)
    (items_view (drop l.value-index l.items))
    ≡ each (g.R.ElementReader.check l.reader) l.path [] (items_view l.items))
    × (length l.list.items ≡ l.value-index)
    × (list_all (g.R.ElementReader.holds l.reader) l.list.items ≡ true)
