-- The report of a run without faults: all channels work on, with the votes of the ideal machine, and nobody is judged.
use Rattle.std.specs.Prelude.{ℕ, zero, suc, ℤ, false, List, [], ◌++◌, map, replicate, Some, None}
use Rattle.guards_model.specs.Channels.{numbers_below}
use Rattle.guards_model.specs.Missions.{MissionValue, output_words}
use Rattle.guards_model.specs.Texts.{LineValue, RecordValue, head_line, cycle_part, done_line, part_text}
use Rattle.guards_runs.specs.IdealMachine.{ideal, ideal_inputs}

-- the line of a channel with these inputs, whose output words are all voted
unfoldable pub ideal_line : ℕ → List ℤ → List ℤ → ℕ → LineValue
ideal_line channels inputs outputs chan =
    record { channel = chan; inputs = inputs; votes = map Some outputs; judged = []; counts = replicate channels 0 }

-- all channels are active and have a line
unfoldable pub record_with : ℕ → ℕ → List ℤ → List ℤ → RecordValue
record_with channels cycle inputs outputs = record {
  cycle = cycle;
  active = numbers_below channels;
  transfer = None;
  lines = map (ideal_line channels inputs outputs) (numbers_below channels);
  traces = [];
  removed = [];
  joined = [];
  remaining = None;
}

-- the record of cycle c
abbrev pub ideal_record : MissionValue → ℕ → RecordValue
ideal_record M c = record_with M.rules.channels c (ideal_inputs M c) (output_words M (ideal M (suc c)))

-- the text of a cycle's record
unfoldable pub record_text : RecordValue → List ℕ
record_text r = part_text (cycle_part false r)

unfoldable pub part : MissionValue → ℕ → List ℕ
part M c = record_text (ideal_record M c)

-- the parts of the cycles below this one
abbrev pub parts_below : MissionValue → ℕ → List ℕ
parts_below M zero = []
parts_below M (suc c) = parts_below M c ++ part M c

unfoldable pub head : MissionValue → List ℕ
head M = head_line M.rules.channels M.cycles

unfoldable pub last : MissionValue → List ℕ
last M = done_line M.cycles

abbrev pub ideal_report : MissionValue → List ℕ
ideal_report M = head M ++ parts_below M M.cycles ++ last M
