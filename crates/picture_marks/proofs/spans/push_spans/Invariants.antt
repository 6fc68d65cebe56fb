use Rattle.std.proofs.Common.{◌≡◌, ◌++◌, ◌≤◌, ◌+◌, drop, map}
use Rattle.picture_marks.specs.Shown.{lane_shown_in}
use Rattle.picture_marks.specs.Marks.{marks_drawn, spans_on}
use Rattle.picture_marks.proofs.spans.push_spans.Given as goal

-- what is there and what comes of the rest are all the spans
abbrev pub invariant-loop-facts : goal.invariant-loop-facts
invariant-loop-facts l = record {
  read :
      l.marks.items
      ++ marks_drawn (spans_on l.open (map (lane_shown_in l.limits l.lane) (drop l.facts-index l.told)))
      ≡ l.fn.marks.items ++ marks_drawn (spans_on l.fn.first (map (lane_shown_in l.limits l.lane) l.fn.told));
  few : l.open.past ≤ l.fn.first.past + l.facts-index;
}
