-- Written by tools/worked_runs.py.
-- Three channels stay active, whatever the counts.
use Rattle.std.specs.Prelude.{ℕ, List, [], ◌∷◌, ◌++◌, Some, None, pos, replicate, codes}
use Rattle.guards_model.specs.declared.Slot.TheVariants.{Round1, Round2, Vote, Switch}
use Rattle.guards_model.specs.declared.Op.TheVariants.{Add}
use Rattle.guards_model.specs.declared.Law.TheVariants.{Multiply}
use Rattle.guards_model.specs.declared.Actor.TheVariants as step
use Rattle.guards_model.specs.Contexts.{zeroed}
use Rattle.guards_model.specs.Expressions.{input, block_word, binary}
use Rattle.guards_model.specs.Faults.{bus}
use Rattle.guards_model.specs.BusRules.{lose}
use Rattle.guards_model.specs.Missions.{MissionValue}
use Rattle.guards_model.specs.Network.{Log}
use Rattle.guards_model.specs.Rounds.{Histories}
use Rattle.model_rows.specs.Worked.{hex, carried, lost, WorkedRun}

abbrev pub mission : MissionValue
mission =
    record {
      rules = record {
        channels = 4;
        blocks = 1;
        version = 1;
        law = Multiply;
        keep = 32768;
        decrement = 32768;
        threshold = 65536;
        sweep = 16;
        last = 8;
        returning = 1;
      };
      cycles = 3;
      width = 1;
      return_after = 2;
      initial = zeroed 1;
      table = (record { name = codes "sum"; writes = record { block = 0; set = Some (binary Add (block_word 0 0) (input 0)) ∷ replicate 7 None } ∷ [] } ∷ []) ∷ [];
      outputs = (0, 0) ∷ [];
      sensors = ((pos 5 ∷ []) ∷ (pos 5 ∷ []) ∷ (pos 5 ∷ []) ∷ (pos 5 ∷ []) ∷ []) ∷ [];
      script = bus (record { cycle = 0; slot = Vote; from = 1; to = None; act = lose }) ∷
          bus (record { cycle = 1; slot = Round1; from = 0; to = None; act = lose }) ∷
          [];
      actuator = None;
    }

abbrev pub entries_0 : Log
entries_0 =
    carried 0 Round1 0 (1 ∷ 2 ∷ 3 ∷ []) (hex (codes "4701020000000000010101010000000000000005000000"))
    ++ carried 0 Round1 1 (0 ∷ 2 ∷ 3 ∷ []) (hex (codes "4701020100000000010101010000000000000005000000"))
    ++ carried 0 Round1 2 (0 ∷ 1 ∷ 3 ∷ []) (hex (codes "4701020200000000010101010000000000000005000000"))
    ++ carried 0 Round1 3 (0 ∷ 1 ∷ 2 ∷ []) (hex (codes "4701020300000000010101010000000000000005000000"))
    ++ carried 0 Round2 0 (1 ∷ 2 ∷ 3 ∷ []) (hex (codes "47010200000000000203010101000000000000000500000002010100000000000000050000000301010000000000000005000000"))
    ++ carried 0 Round2 1 (0 ∷ 2 ∷ 3 ∷ []) (hex (codes "47010201000000000203000101000000000000000500000002010100000000000000050000000301010000000000000005000000"))
    ++ carried 0 Round2 2 (0 ∷ 1 ∷ 3 ∷ []) (hex (codes "47010202000000000203000101000000000000000500000001010100000000000000050000000301010000000000000005000000"))
    ++ carried 0 Round2 3 (0 ∷ 1 ∷ 2 ∷ []) (hex (codes "47010203000000000203000101000000000000000500000001010100000000000000050000000201010000000000000005000000"))
    ++ carried 0 Vote 0 (1 ∷ 2 ∷ 3 ∷ []) (hex (codes "4701030000000000010000000000000005"))
    ++ lost 0 Vote 1 (0 ∷ 2 ∷ 3 ∷ []) (hex (codes "4701030100000000010000000000000005"))
    ++ carried 0 Vote 2 (0 ∷ 1 ∷ 3 ∷ []) (hex (codes "4701030200000000010000000000000005"))
    ++ carried 0 Vote 3 (0 ∷ 1 ∷ 2 ∷ []) (hex (codes "4701030300000000010000000000000005"))
    ++ carried 0 Switch 0 (7 ∷ []) (hex (codes "47010600000000000f"))
    ++ carried 0 Switch 1 (7 ∷ []) (hex (codes "47010601000000000f"))
    ++ carried 0 Switch 2 (7 ∷ []) (hex (codes "47010602000000000f"))
    ++ carried 0 Switch 3 (7 ∷ []) (hex (codes "47010603000000000f"))

abbrev pub entries_1 : Log
entries_1 =
    lost 1 Round1 0 (1 ∷ 2 ∷ 3 ∷ []) (hex (codes "4701020000000001010101010000000000000005020000"))
    ++ carried 1 Round1 1 (0 ∷ 2 ∷ 3 ∷ []) (hex (codes "4701020100000001010101010000000000000005000000"))
    ++ carried 1 Round1 2 (0 ∷ 1 ∷ 3 ∷ []) (hex (codes "4701020200000001010101010000000000000005020000"))
    ++ carried 1 Round1 3 (0 ∷ 1 ∷ 2 ∷ []) (hex (codes "4701020300000001010101010000000000000005020000"))
    ++ carried 1 Round2 0 (1 ∷ 2 ∷ 3 ∷ []) (hex (codes "47010200000000010203010101000000000000000500000002010100000000000000050200000301010000000000000005020000"))
    ++ carried 1 Round2 1 (0 ∷ 2 ∷ 3 ∷ []) (hex (codes "47010201000000010203000002010100000000000000050200000301010000000000000005020000"))
    ++ carried 1 Round2 2 (0 ∷ 1 ∷ 3 ∷ []) (hex (codes "47010202000000010203000001010100000000000000050000000301010000000000000005020000"))
    ++ carried 1 Round2 3 (0 ∷ 1 ∷ 2 ∷ []) (hex (codes "47010203000000010203000001010100000000000000050000000201010000000000000005020000"))
    ++ carried 1 Vote 0 (1 ∷ 2 ∷ 3 ∷ []) (hex (codes "470103000000000101000000000000000a"))
    ++ carried 1 Vote 1 (0 ∷ 2 ∷ 3 ∷ []) (hex (codes "470103010000000101000000000000000a"))
    ++ carried 1 Vote 2 (0 ∷ 1 ∷ 3 ∷ []) (hex (codes "470103020000000101000000000000000a"))
    ++ carried 1 Vote 3 (0 ∷ 1 ∷ 2 ∷ []) (hex (codes "470103030000000101000000000000000a"))
    ++ carried 1 Switch 0 (7 ∷ []) (hex (codes "47010600000000010e"))
    ++ carried 1 Switch 1 (7 ∷ []) (hex (codes "47010601000000010e"))
    ++ carried 1 Switch 2 (7 ∷ []) (hex (codes "47010602000000010e"))
    ++ carried 1 Switch 3 (7 ∷ []) (hex (codes "47010603000000010e"))

abbrev pub entries_2 : Log
entries_2 =
    carried 2 Round1 1 (2 ∷ 3 ∷ []) (hex (codes "4701020100000002010101010000000000000005000000"))
    ++ carried 2 Round1 2 (1 ∷ 3 ∷ []) (hex (codes "4701020200000002010101010000000000000005000000"))
    ++ carried 2 Round1 3 (1 ∷ 2 ∷ []) (hex (codes "4701020300000002010101010000000000000005000000"))
    ++ carried 2 Vote 1 (2 ∷ 3 ∷ []) (hex (codes "470103010000000201000000000000000f"))
    ++ carried 2 Vote 2 (1 ∷ 3 ∷ []) (hex (codes "470103020000000201000000000000000f"))
    ++ carried 2 Vote 3 (1 ∷ 2 ∷ []) (hex (codes "470103030000000201000000000000000f"))
    ++ carried 2 Switch 1 (7 ∷ []) (hex (codes "47010601000000020e"))
    ++ carried 2 Switch 2 (7 ∷ []) (hex (codes "47010602000000020e"))
    ++ carried 2 Switch 3 (7 ∷ []) (hex (codes "47010603000000020e"))

abbrev pub log : Log
log = entries_0 ++ entries_1 ++ entries_2

-- the latest cycle stands first
abbrev pub histories : Histories
histories =
    (([]) ∷ (step.Task ∷ []) ∷ (step.Task ∷ []) ∷ (step.Task ∷ []) ∷ []) ∷
    ((step.Task ∷ []) ∷ (step.Task ∷ []) ∷ (step.Task ∷ []) ∷ (step.Task ∷ []) ∷ []) ∷
    ((step.Task ∷ []) ∷ (step.Task ∷ []) ∷ (step.Task ∷ []) ∷ (step.Task ∷ []) ∷ []) ∷
    []

abbrev pub text : List ℕ
text =
    codes "guards channels 4 cycles 3\n"
    ++ codes "cycle 0 active 0,1,2,3 transfer -\n"
    ++ codes "ch 0 in 5 vote 5 judged - alpha 0,0,0,0\n"
    ++ codes "ch 1 in 5 vote 5 judged - alpha 0,0,0,0\n"
    ++ codes "ch 2 in 5 vote 5 judged - alpha 0,0,0,0\n"
    ++ codes "ch 3 in 5 vote 5 judged - alpha 0,0,0,0\n"
    ++ codes "end removed - joined - remaining -\n"
    ++ codes "cycle 1 active 0,1,2,3 transfer -\n"
    ++ codes "ch 0 in 5 vote 10 judged 0,1 alpha 65536,65536,0,0\n"
    ++ codes "ch 1 in 5 vote 10 judged 0,1 alpha 65536,65536,0,0\n"
    ++ codes "ch 2 in 5 vote 10 judged 0,1 alpha 65536,65536,0,0\n"
    ++ codes "ch 3 in 5 vote 10 judged 0,1 alpha 65536,65536,0,0\n"
    ++ codes "end removed 0 joined - remaining -\n"
    ++ codes "cycle 2 active 1,2,3 transfer -\n"
    ++ codes "ch 1 in 5 vote 15 judged - alpha 0,32768,0,0\n"
    ++ codes "ch 2 in 5 vote 15 judged - alpha 0,32768,0,0\n"
    ++ codes "ch 3 in 5 vote 15 judged - alpha 0,32768,0,0\n"
    ++ codes "end removed - joined - remaining -\n"
    ++ codes "done 3\n"

abbrev pub run : WorkedRun
run = record { mission = mission; log = log; histories = histories; text = text }
