-- Written by tools/worked_runs.py.
-- A channel crashes after its vote, is silent in two cycles, and is removed in the second one.
use Rattle.std.specs.Prelude.{ℕ, List, [], ◌∷◌, ◌++◌, Some, None, pos, replicate, codes}
use Rattle.guards_model.specs.declared.Slot.TheVariants.{Round1, Round2, Vote, Switch}
use Rattle.guards_model.specs.declared.Op.TheVariants.{Add}
use Rattle.guards_model.specs.declared.Law.TheVariants.{Multiply}
use Rattle.guards_model.specs.declared.Actor.TheVariants as step
use Rattle.guards_model.specs.Contexts.{zeroed}
use Rattle.guards_model.specs.Expressions.{number, block_word, binary}
use Rattle.guards_model.specs.Faults.{crash}
use Rattle.guards_model.specs.Missions.{MissionValue}
use Rattle.guards_model.specs.Network.{Log}
use Rattle.guards_model.specs.Rounds.{Histories}
use Rattle.model_rows.specs.Worked.{hex, carried, WorkedRun}

abbrev pub mission : MissionValue
mission =
    record {
      rules = record {
        channels = 5;
        blocks = 8;
        version = 1;
        law = Multiply;
        keep = 32768;
        decrement = 32768;
        threshold = 131072;
        sweep = 3;
        last = 2;
        returning = 1;
      };
      cycles = 3;
      width = 1;
      return_after = 2;
      initial = zeroed 8;
      table = (record { name = codes "count"; writes = record { block = 0; set = Some (binary Add (block_word 0 0) (number (pos 1))) ∷ replicate 7 None } ∷ [] } ∷ []) ∷ [];
      outputs = (0, 0) ∷ [];
      sensors = ((pos 5 ∷ []) ∷ (pos 5 ∷ []) ∷ (pos 5 ∷ []) ∷ (pos 5 ∷ []) ∷ (pos 5 ∷ []) ∷ []) ∷ [];
      script = crash 4 0 Switch ∷
          [];
      actuator = None;
    }

abbrev pub entries_0 : Log
entries_0 =
    carried 0 Round1 0 (1 ∷ 2 ∷ 3 ∷ 4 ∷ []) (hex (codes "4701020000000000010101010000000000000005000000"))
    ++ carried 0 Round1 1 (0 ∷ 2 ∷ 3 ∷ 4 ∷ []) (hex (codes "4701020100000000010101010000000000000005000000"))
    ++ carried 0 Round1 2 (0 ∷ 1 ∷ 3 ∷ 4 ∷ []) (hex (codes "4701020200000000010101010000000000000005000000"))
    ++ carried 0 Round1 3 (0 ∷ 1 ∷ 2 ∷ 4 ∷ []) (hex (codes "4701020300000000010101010000000000000005000000"))
    ++ carried 0 Round1 4 (0 ∷ 1 ∷ 2 ∷ 3 ∷ []) (hex (codes "4701020400000000010101010000000000000005000000"))
    ++ carried 0 Round2 0 (1 ∷ 2 ∷ 3 ∷ 4 ∷ []) (hex (codes "470102000000000002040101010000000000000005000000020101000000000000000500000003010100000000000000050000000401010000000000000005000000"))
    ++ carried 0 Round2 1 (0 ∷ 2 ∷ 3 ∷ 4 ∷ []) (hex (codes "470102010000000002040001010000000000000005000000020101000000000000000500000003010100000000000000050000000401010000000000000005000000"))
    ++ carried 0 Round2 2 (0 ∷ 1 ∷ 3 ∷ 4 ∷ []) (hex (codes "470102020000000002040001010000000000000005000000010101000000000000000500000003010100000000000000050000000401010000000000000005000000"))
    ++ carried 0 Round2 3 (0 ∷ 1 ∷ 2 ∷ 4 ∷ []) (hex (codes "470102030000000002040001010000000000000005000000010101000000000000000500000002010100000000000000050000000401010000000000000005000000"))
    ++ carried 0 Round2 4 (0 ∷ 1 ∷ 2 ∷ 3 ∷ []) (hex (codes "470102040000000002040001010000000000000005000000010101000000000000000500000002010100000000000000050000000301010000000000000005000000"))
    ++ carried 0 Vote 0 (1 ∷ 2 ∷ 3 ∷ 4 ∷ []) (hex (codes "4701030000000000010000000000000001"))
    ++ carried 0 Vote 1 (0 ∷ 2 ∷ 3 ∷ 4 ∷ []) (hex (codes "4701030100000000010000000000000001"))
    ++ carried 0 Vote 2 (0 ∷ 1 ∷ 3 ∷ 4 ∷ []) (hex (codes "4701030200000000010000000000000001"))
    ++ carried 0 Vote 3 (0 ∷ 1 ∷ 2 ∷ 4 ∷ []) (hex (codes "4701030300000000010000000000000001"))
    ++ carried 0 Vote 4 (0 ∷ 1 ∷ 2 ∷ 3 ∷ []) (hex (codes "4701030400000000010000000000000001"))
    ++ carried 0 Switch 0 (7 ∷ []) (hex (codes "47010600000000001f"))
    ++ carried 0 Switch 1 (7 ∷ []) (hex (codes "47010601000000001f"))
    ++ carried 0 Switch 2 (7 ∷ []) (hex (codes "47010602000000001f"))
    ++ carried 0 Switch 3 (7 ∷ []) (hex (codes "47010603000000001f"))

abbrev pub entries_1 : Log
entries_1 =
    carried 1 Round1 0 (1 ∷ 2 ∷ 3 ∷ 4 ∷ []) (hex (codes "4701020000000001010101010000000000000005000000"))
    ++ carried 1 Round1 1 (0 ∷ 2 ∷ 3 ∷ 4 ∷ []) (hex (codes "4701020100000001010101010000000000000005000000"))
    ++ carried 1 Round1 2 (0 ∷ 1 ∷ 3 ∷ 4 ∷ []) (hex (codes "4701020200000001010101010000000000000005000000"))
    ++ carried 1 Round1 3 (0 ∷ 1 ∷ 2 ∷ 4 ∷ []) (hex (codes "4701020300000001010101010000000000000005000000"))
    ++ carried 1 Round2 0 (1 ∷ 2 ∷ 3 ∷ 4 ∷ []) (hex (codes "470102000000000102040101010000000000000005000000020101000000000000000500000003010100000000000000050000000400"))
    ++ carried 1 Round2 1 (0 ∷ 2 ∷ 3 ∷ 4 ∷ []) (hex (codes "470102010000000102040001010000000000000005000000020101000000000000000500000003010100000000000000050000000400"))
    ++ carried 1 Round2 2 (0 ∷ 1 ∷ 3 ∷ 4 ∷ []) (hex (codes "470102020000000102040001010000000000000005000000010101000000000000000500000003010100000000000000050000000400"))
    ++ carried 1 Round2 3 (0 ∷ 1 ∷ 2 ∷ 4 ∷ []) (hex (codes "470102030000000102040001010000000000000005000000010101000000000000000500000002010100000000000000050000000400"))
    ++ carried 1 Vote 0 (1 ∷ 2 ∷ 3 ∷ 4 ∷ []) (hex (codes "4701030000000001010000000000000002"))
    ++ carried 1 Vote 1 (0 ∷ 2 ∷ 3 ∷ 4 ∷ []) (hex (codes "4701030100000001010000000000000002"))
    ++ carried 1 Vote 2 (0 ∷ 1 ∷ 3 ∷ 4 ∷ []) (hex (codes "4701030200000001010000000000000002"))
    ++ carried 1 Vote 3 (0 ∷ 1 ∷ 2 ∷ 4 ∷ []) (hex (codes "4701030300000001010000000000000002"))
    ++ carried 1 Switch 0 (7 ∷ []) (hex (codes "47010600000000011f"))
    ++ carried 1 Switch 1 (7 ∷ []) (hex (codes "47010601000000011f"))
    ++ carried 1 Switch 2 (7 ∷ []) (hex (codes "47010602000000011f"))
    ++ carried 1 Switch 3 (7 ∷ []) (hex (codes "47010603000000011f"))

abbrev pub entries_2 : Log
entries_2 =
    carried 2 Round1 0 (1 ∷ 2 ∷ 3 ∷ 4 ∷ []) (hex (codes "4701020000000002010101010000000000000005100000"))
    ++ carried 2 Round1 1 (0 ∷ 2 ∷ 3 ∷ 4 ∷ []) (hex (codes "4701020100000002010101010000000000000005100000"))
    ++ carried 2 Round1 2 (0 ∷ 1 ∷ 3 ∷ 4 ∷ []) (hex (codes "4701020200000002010101010000000000000005100000"))
    ++ carried 2 Round1 3 (0 ∷ 1 ∷ 2 ∷ 4 ∷ []) (hex (codes "4701020300000002010101010000000000000005100000"))
    ++ carried 2 Round2 0 (1 ∷ 2 ∷ 3 ∷ 4 ∷ []) (hex (codes "470102000000000202040101010000000000000005100000020101000000000000000510000003010100000000000000051000000400"))
    ++ carried 2 Round2 1 (0 ∷ 2 ∷ 3 ∷ 4 ∷ []) (hex (codes "470102010000000202040001010000000000000005100000020101000000000000000510000003010100000000000000051000000400"))
    ++ carried 2 Round2 2 (0 ∷ 1 ∷ 3 ∷ 4 ∷ []) (hex (codes "470102020000000202040001010000000000000005100000010101000000000000000510000003010100000000000000051000000400"))
    ++ carried 2 Round2 3 (0 ∷ 1 ∷ 2 ∷ 4 ∷ []) (hex (codes "470102030000000202040001010000000000000005100000010101000000000000000510000002010100000000000000051000000400"))
    ++ carried 2 Vote 0 (1 ∷ 2 ∷ 3 ∷ 4 ∷ []) (hex (codes "4701030000000002010000000000000003"))
    ++ carried 2 Vote 1 (0 ∷ 2 ∷ 3 ∷ 4 ∷ []) (hex (codes "4701030100000002010000000000000003"))
    ++ carried 2 Vote 2 (0 ∷ 1 ∷ 3 ∷ 4 ∷ []) (hex (codes "4701030200000002010000000000000003"))
    ++ carried 2 Vote 3 (0 ∷ 1 ∷ 2 ∷ 4 ∷ []) (hex (codes "4701030300000002010000000000000003"))
    ++ carried 2 Switch 0 (7 ∷ []) (hex (codes "47010600000000020f"))
    ++ carried 2 Switch 1 (7 ∷ []) (hex (codes "47010601000000020f"))
    ++ carried 2 Switch 2 (7 ∷ []) (hex (codes "47010602000000020f"))
    ++ carried 2 Switch 3 (7 ∷ []) (hex (codes "47010603000000020f"))

abbrev pub log : Log
log = entries_0 ++ entries_1 ++ entries_2

-- the latest cycle stands first
abbrev pub histories : Histories
histories =
    ((step.Task ∷ []) ∷ (step.Task ∷ []) ∷ (step.Task ∷ []) ∷ (step.Task ∷ []) ∷ ([]) ∷ []) ∷
    ((step.Task ∷ []) ∷ (step.Task ∷ []) ∷ (step.Task ∷ []) ∷ (step.Task ∷ []) ∷ ([]) ∷ []) ∷
    ((step.Task ∷ []) ∷ (step.Task ∷ []) ∷ (step.Task ∷ []) ∷ (step.Task ∷ []) ∷ (step.Task ∷ []) ∷ []) ∷
    []

abbrev pub text : List ℕ
text =
    codes "guards channels 5 cycles 3\n"
    ++ codes "cycle 0 active 0,1,2,3,4 transfer -\n"
    ++ codes "ch 0 in 5 vote 1 judged - alpha 0,0,0,0,0\n"
    ++ codes "ch 1 in 5 vote 1 judged - alpha 0,0,0,0,0\n"
    ++ codes "ch 2 in 5 vote 1 judged - alpha 0,0,0,0,0\n"
    ++ codes "ch 3 in 5 vote 1 judged - alpha 0,0,0,0,0\n"
    ++ codes "end removed - joined - remaining -\n"
    ++ codes "cycle 1 active 0,1,2,3,4 transfer -\n"
    ++ codes "ch 0 in 5 vote 2 judged 4 alpha 0,0,0,0,65536\n"
    ++ codes "ch 1 in 5 vote 2 judged 4 alpha 0,0,0,0,65536\n"
    ++ codes "ch 2 in 5 vote 2 judged 4 alpha 0,0,0,0,65536\n"
    ++ codes "ch 3 in 5 vote 2 judged 4 alpha 0,0,0,0,65536\n"
    ++ codes "end removed - joined - remaining -\n"
    ++ codes "cycle 2 active 0,1,2,3,4 transfer -\n"
    ++ codes "ch 0 in 5 vote 3 judged 4 alpha 0,0,0,0,131072\n"
    ++ codes "ch 1 in 5 vote 3 judged 4 alpha 0,0,0,0,131072\n"
    ++ codes "ch 2 in 5 vote 3 judged 4 alpha 0,0,0,0,131072\n"
    ++ codes "ch 3 in 5 vote 3 judged 4 alpha 0,0,0,0,131072\n"
    ++ codes "end removed 4 joined - remaining -\n"
    ++ codes "done 3\n"

abbrev pub run : WorkedRun
run = record { mission = mission; log = log; histories = histories; text = text }
