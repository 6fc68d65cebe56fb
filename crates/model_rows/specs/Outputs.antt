-- Missions with an actuator: their logs and texts as literals, which the definitions have to compute.
-- tools/simulator.py gives the same.
use Rattle.std.specs.Prelude.{ℕ, List, [], ◌∷◌, ◌++◌, Some, None, pos, codes}
use Rattle.guards_model.specs.declared.Slot.TheVariants.{Round1, Vote, Switch, Output}
use Rattle.guards_model.specs.Faults.{bus}
use Rattle.guards_model.specs.BusRules.{lose}
use Rattle.guards_model.specs.Missions.{MissionValue, ActuatorValue}
use Rattle.guards_model.specs.Network.{Log}
use Rattle.guards_model.specs.Voting.{Ballots}
use Rattle.model_rows.specs.Worked.{hex, carried, lost, forged}
use Rattle.model_rows.specs.TwoCycles as two_cycles
use Rattle.model_rows.specs.ThreeStop as three

abbrev pub by_three : ActuatorValue
by_three = record { steps = pos 3 ∷ []; start = pos 0 ∷ [] }

-- four channels for two cycles, with an actuator
abbrev pub acting : MissionValue
acting = record two_cycles.mission { actuator = Some by_three }

abbrev pub outputs_0 : Log
outputs_0 =
    carried 0 Output 0 (8 ∷ []) (hex (codes "4701030000000000010000000000000005"))
    ++ carried 0 Output 1 (8 ∷ []) (hex (codes "4701030100000000010000000000000005"))
    ++ carried 0 Output 2 (8 ∷ []) (hex (codes "4701030200000000010000000000000005"))
    ++ carried 0 Output 3 (8 ∷ []) (hex (codes "4701030300000000010000000000000005"))

abbrev pub outputs_1 : Log
outputs_1 =
    carried 1 Output 0 (8 ∷ []) (hex (codes "470103000000000101000000000000000a"))
    ++ carried 1 Output 1 (8 ∷ []) (hex (codes "470103010000000101000000000000000a"))
    ++ carried 1 Output 2 (8 ∷ []) (hex (codes "470103020000000101000000000000000a"))
    ++ carried 1 Output 3 (8 ∷ []) (hex (codes "470103030000000101000000000000000a"))

-- two cycles of four channels, whose votes are 5 and 10
abbrev pub whole : Log
whole = two_cycles.entries_0 ++ outputs_0 ++ two_cycles.entries_1 ++ outputs_1

abbrev pub whole_text : List ℕ
whole_text =
    codes "guards channels 4 cycles 2\n"
    ++ codes "cycle 0 active 0,1,2,3 transfer -\n"
    ++ codes "ch 0 in 5 vote 5 judged - alpha 0,0,0,0\n"
    ++ codes "ch 1 in 5 vote 5 judged - alpha 0,0,0,0\n"
    ++ codes "ch 2 in 5 vote 5 judged - alpha 0,0,0,0\n"
    ++ codes "ch 3 in 5 vote 5 judged - alpha 0,0,0,0\n"
    ++ codes "end removed - joined - remaining -\n"
    ++ codes "out 3\n"
    ++ codes "cycle 1 active 0,1,2,3 transfer -\n"
    ++ codes "ch 0 in 5 vote 10 judged - alpha 0,0,0,0\n"
    ++ codes "ch 1 in 5 vote 10 judged - alpha 0,0,0,0\n"
    ++ codes "ch 2 in 5 vote 10 judged - alpha 0,0,0,0\n"
    ++ codes "ch 3 in 5 vote 10 judged - alpha 0,0,0,0\n"
    ++ codes "end removed - joined - remaining -\n"
    ++ codes "out 6\n"
    ++ codes "done 2\n"

-- the output frame of channel 1 is lost in cycle 0
abbrev pub losing : MissionValue
losing = record acting { script = bus (record { cycle = 0; slot = Output; from = 1; to = None; act = lose }) ∷ [] }

abbrev pub lost_0 : Log
lost_0 =
    carried 0 Output 0 (8 ∷ []) (hex (codes "4701030000000000010000000000000005"))
    ++ lost 0 Output 1 (8 ∷ []) (hex (codes "4701030100000000010000000000000005"))
    ++ carried 0 Output 2 (8 ∷ []) (hex (codes "4701030200000000010000000000000005"))
    ++ carried 0 Output 3 (8 ∷ []) (hex (codes "4701030300000000010000000000000005"))

abbrev pub with_loss : Log
with_loss = two_cycles.entries_0 ++ lost_0 ++ two_cycles.entries_1 ++ outputs_1

-- three channels, of which the output frame of channel 2 is lost in cycle 0
abbrev pub of_three : MissionValue
of_three =
    record three.mission {
      script = bus (record { cycle = 0; slot = Output; from = 2; to = None; act = lose }) ∷ [];
      actuator = Some by_three;
    }

abbrev pub slots_of_three : Log
slots_of_three =
    carried 0 Round1 0 (1 ∷ 2 ∷ []) (hex (codes "4701020000000000010101010000000000000005000000"))
    ++ carried 0 Round1 1 (0 ∷ 2 ∷ []) (hex (codes "4701020100000000010101010000000000000005000000"))
    ++ carried 0 Round1 2 (0 ∷ 1 ∷ []) (hex (codes "4701020200000000010101010000000000000005000000"))
    ++ carried 0 Vote 0 (1 ∷ 2 ∷ []) (hex (codes "4701030000000000010000000000000005"))
    ++ carried 0 Vote 1 (0 ∷ 2 ∷ []) (hex (codes "4701030100000000010000000000000005"))
    ++ carried 0 Vote 2 (0 ∷ 1 ∷ []) (hex (codes "4701030200000000010000000000000005"))
    ++ carried 0 Switch 0 (7 ∷ []) (hex (codes "470106000000000007"))
    ++ carried 0 Switch 1 (7 ∷ []) (hex (codes "470106010000000007"))
    ++ carried 0 Switch 2 (7 ∷ []) (hex (codes "470106020000000007"))

abbrev pub outputs_of_three : Log
outputs_of_three =
    carried 0 Output 0 (8 ∷ []) (hex (codes "4701030000000000010000000000000005"))
    ++ carried 0 Output 1 (8 ∷ []) (hex (codes "4701030100000000010000000000000005"))
    ++ lost 0 Output 2 (8 ∷ []) (hex (codes "4701030200000000010000000000000005"))

abbrev pub stopped : Log
stopped = slots_of_three ++ outputs_of_three

abbrev pub stopped_text : List ℕ
stopped_text =
    codes "guards channels 3 cycles 2\n"
    ++ codes "stop cycle 0 slot output disturbed 2 active 0,1,2\n"

-- two ballots of which neither word has more than half
abbrev pub two_words : Ballots
two_words = Some (pos 9 ∷ []) ∷ None ∷ Some (pos 4 ∷ []) ∷ None ∷ None ∷ None ∷ None ∷ []

-- ---- the output frame of channel 1 of cycle 0, replaced by another piece

abbrev pub with_piece : List ℕ → Log
with_piece piece =
    carried 0 Output 0 (8 ∷ []) (hex (codes "4701030000000000010000000000000005"))
    ++ forged 0 Output 1 (8 ∷ []) (hex (codes "4701030100000000010000000000000005")) piece
    ++ carried 0 Output 2 (8 ∷ []) (hex (codes "4701030200000000010000000000000005"))
    ++ carried 0 Output 3 (8 ∷ []) (hex (codes "4701030300000000010000000000000005"))

abbrev pub run_with : List ℕ → Log
run_with piece = two_cycles.entries_0 ++ with_piece piece ++ two_cycles.entries_1 ++ outputs_1

-- its own frame with the word 9
abbrev pub another_word : List ℕ
another_word = hex (codes "4701030100000000010000000000000009")

-- frames of cycle 1, of channel 2, with two words, and of a request: none counts
abbrev pub another_cycle : List ℕ
another_cycle = hex (codes "4701030100000001010000000000000005")

abbrev pub another_sender : List ℕ
another_sender = hex (codes "4701030200000000010000000000000005")

abbrev pub another_number : List ℕ
another_number = hex (codes "47010301000000000200000000000000050000000000000005")

abbrev pub another_kind : List ℕ
another_kind = hex (codes "470101010000000000")

-- ---- a channel that is damaged in cycle 1 has a line, and is disturbed

abbrev pub of_damaged : Log
of_damaged =
    carried 1 Output 0 (8 ∷ []) (hex (codes "4701030000000001010000000000000002"))
    ++ carried 1 Output 1 (8 ∷ []) (hex (codes "4701030100000001010000000000000002"))
    ++ carried 1 Output 2 (8 ∷ []) (hex (codes "4701030200000001010000000000000002"))
    ++ carried 1 Output 3 (8 ∷ []) (hex (codes "4701030300000001010000000000000002"))
    ++ carried 1 Output 4 (8 ∷ []) (hex (codes "4701030400000001010000000000000002"))

-- so one lost output frame more stops five channels
abbrev pub of_damaged_with_loss : Log
of_damaged_with_loss =
    lost 1 Output 0 (8 ∷ []) (hex (codes "4701030000000001010000000000000002"))
    ++ carried 1 Output 1 (8 ∷ []) (hex (codes "4701030100000001010000000000000002"))
    ++ carried 1 Output 2 (8 ∷ []) (hex (codes "4701030200000001010000000000000002"))
    ++ carried 1 Output 3 (8 ∷ []) (hex (codes "4701030300000001010000000000000002"))
    ++ carried 1 Output 4 (8 ∷ []) (hex (codes "4701030400000001010000000000000002"))

-- ---- a channel that crashed in cycle 1 has no line and sends nothing

abbrev pub of_crashed : Log
of_crashed =
    carried 1 Output 0 (8 ∷ []) (hex (codes "4701030000000001010000000000000002"))
    ++ carried 1 Output 1 (8 ∷ []) (hex (codes "4701030100000001010000000000000002"))
    ++ carried 1 Output 3 (8 ∷ []) (hex (codes "4701030300000001010000000000000002"))
    ++ carried 1 Output 4 (8 ∷ []) (hex (codes "4701030400000001010000000000000002"))
