-- Written by tools/worked_runs.py.
-- A lost vote is not judged: of those who found it one is removed, one is lost, and a new channel is silent.
use Rattle.std.specs.Prelude.{ℕ, List, [], ◌∷◌, ◌++◌, Some, None, pos, replicate, codes}
use Rattle.guards_model.specs.declared.Slot.TheVariants.{Request, Round1, Round2, Vote, Sweep, Final, Switch}
use Rattle.guards_model.specs.declared.Op.TheVariants.{Add}
use Rattle.guards_model.specs.declared.Law.TheVariants.{Multiply}
use Rattle.guards_model.specs.declared.Actor.TheVariants as step
use Rattle.guards_model.specs.Contexts.{zero_block, zeroed}
use Rattle.guards_model.specs.Expressions.{number, block_word, binary}
use Rattle.guards_model.specs.Faults.{crash, restart, bus}
use Rattle.guards_model.specs.BusRules.{lose}
use Rattle.guards_model.specs.Missions.{MissionValue}
use Rattle.guards_model.specs.Network.{Log}
use Rattle.guards_model.specs.Rounds.{Histories}
use Rattle.model_rows.specs.Worked.{hex, carried, lost, WorkedRun, WorkedJoin}

abbrev pub mission : MissionValue
mission =
    record {
      rules = record {
        channels = 5;
        blocks = 2;
        version = 1;
        law = Multiply;
        keep = 32768;
        decrement = 32768;
        threshold = 65536;
        sweep = 1;
        last = 2;
        returning = 1;
      };
      cycles = 4;
      width = 1;
      return_after = 2;
      initial = zeroed 2;
      table = (record { name = codes "count"; writes = record { block = 0; set = Some (binary Add (block_word 0 0) (number (pos 1))) ∷ replicate 7 None } ∷ [] } ∷ []) ∷ [];
      outputs = (0, 0) ∷ [];
      sensors = ((pos 5 ∷ []) ∷ (pos 5 ∷ []) ∷ (pos 5 ∷ []) ∷ (pos 5 ∷ []) ∷ (pos 5 ∷ []) ∷ []) ∷ [];
      script = crash 4 0 Request ∷
          restart 4 1 ∷
          bus (record { cycle = 1; slot = Vote; from = 3; to = None; act = lose }) ∷
          bus (record { cycle = 2; slot = Vote; from = 1; to = None; act = lose }) ∷
          bus (record { cycle = 3; slot = Round1; from = 2; to = None; act = lose }) ∷
          [];
      actuator = None;
    }

abbrev pub entries_0 : Log
entries_0 =
    carried 0 Round1 0 (1 ∷ 2 ∷ 3 ∷ 4 ∷ []) (hex (codes "4701020000000000010101010000000000000005000000"))
    ++ carried 0 Round1 1 (0 ∷ 2 ∷ 3 ∷ 4 ∷ []) (hex (codes "4701020100000000010101010000000000000005000000"))
    ++ carried 0 Round1 2 (0 ∷ 1 ∷ 3 ∷ 4 ∷ []) (hex (codes "4701020200000000010101010000000000000005000000"))
    ++ carried 0 Round1 3 (0 ∷ 1 ∷ 2 ∷ 4 ∷ []) (hex (codes "4701020300000000010101010000000000000005000000"))
    ++ carried 0 Round2 0 (1 ∷ 2 ∷ 3 ∷ 4 ∷ []) (hex (codes "470102000000000002040101010000000000000005000000020101000000000000000500000003010100000000000000050000000400"))
    ++ carried 0 Round2 1 (0 ∷ 2 ∷ 3 ∷ 4 ∷ []) (hex (codes "470102010000000002040001010000000000000005000000020101000000000000000500000003010100000000000000050000000400"))
    ++ carried 0 Round2 2 (0 ∷ 1 ∷ 3 ∷ 4 ∷ []) (hex (codes "470102020000000002040001010000000000000005000000010101000000000000000500000003010100000000000000050000000400"))
    ++ carried 0 Round2 3 (0 ∷ 1 ∷ 2 ∷ 4 ∷ []) (hex (codes "470102030000000002040001010000000000000005000000010101000000000000000500000002010100000000000000050000000400"))
    ++ carried 0 Vote 0 (1 ∷ 2 ∷ 3 ∷ 4 ∷ []) (hex (codes "4701030000000000010000000000000001"))
    ++ carried 0 Vote 1 (0 ∷ 2 ∷ 3 ∷ 4 ∷ []) (hex (codes "4701030100000000010000000000000001"))
    ++ carried 0 Vote 2 (0 ∷ 1 ∷ 3 ∷ 4 ∷ []) (hex (codes "4701030200000000010000000000000001"))
    ++ carried 0 Vote 3 (0 ∷ 1 ∷ 2 ∷ 4 ∷ []) (hex (codes "4701030300000000010000000000000001"))
    ++ carried 0 Switch 0 (7 ∷ []) (hex (codes "47010600000000000f"))
    ++ carried 0 Switch 1 (7 ∷ []) (hex (codes "47010601000000000f"))
    ++ carried 0 Switch 2 (7 ∷ []) (hex (codes "47010602000000000f"))
    ++ carried 0 Switch 3 (7 ∷ []) (hex (codes "47010603000000000f"))

abbrev pub entries_1 : Log
entries_1 =
    carried 1 Request 4 (0 ∷ 1 ∷ 2 ∷ 3 ∷ []) (hex (codes "470101040000000100"))
    ++ carried 1 Round1 0 (1 ∷ 2 ∷ 3 ∷ []) (hex (codes "4701020000000001010101010000000000000005100000"))
    ++ carried 1 Round1 1 (0 ∷ 2 ∷ 3 ∷ []) (hex (codes "4701020100000001010101010000000000000005100000"))
    ++ carried 1 Round1 2 (0 ∷ 1 ∷ 3 ∷ []) (hex (codes "4701020200000001010101010000000000000005100000"))
    ++ carried 1 Round1 3 (0 ∷ 1 ∷ 2 ∷ []) (hex (codes "4701020300000001010101010000000000000005100000"))
    ++ carried 1 Round2 0 (1 ∷ 2 ∷ 3 ∷ []) (hex (codes "47010200000000010203010101000000000000000510000002010100000000000000051000000301010000000000000005100000"))
    ++ carried 1 Round2 1 (0 ∷ 2 ∷ 3 ∷ []) (hex (codes "47010201000000010203000101000000000000000510000002010100000000000000051000000301010000000000000005100000"))
    ++ carried 1 Round2 2 (0 ∷ 1 ∷ 3 ∷ []) (hex (codes "47010202000000010203000101000000000000000510000001010100000000000000051000000301010000000000000005100000"))
    ++ carried 1 Round2 3 (0 ∷ 1 ∷ 2 ∷ []) (hex (codes "47010203000000010203000101000000000000000510000001010100000000000000051000000201010000000000000005100000"))
    ++ carried 1 Vote 0 (1 ∷ 2 ∷ 3 ∷ []) (hex (codes "4701030000000001010000000000000002"))
    ++ carried 1 Vote 1 (0 ∷ 2 ∷ 3 ∷ []) (hex (codes "4701030100000001010000000000000002"))
    ++ carried 1 Vote 2 (0 ∷ 1 ∷ 3 ∷ []) (hex (codes "4701030200000001010000000000000002"))
    ++ lost 1 Vote 3 (0 ∷ 1 ∷ 2 ∷ []) (hex (codes "4701030300000001010000000000000002"))
    ++ carried 1 Switch 0 (7 ∷ []) (hex (codes "47010600000000010f"))
    ++ carried 1 Switch 1 (7 ∷ []) (hex (codes "47010601000000010f"))
    ++ carried 1 Switch 2 (7 ∷ []) (hex (codes "47010602000000010f"))
    ++ carried 1 Switch 3 (7 ∷ []) (hex (codes "47010603000000010f"))

abbrev pub entries_2 : Log
entries_2 =
    carried 2 Request 4 (0 ∷ 1 ∷ 2 ∷ 3 ∷ []) (hex (codes "470101040000000200"))
    ++ carried 2 Round1 0 (1 ∷ 2 ∷ 3 ∷ []) (hex (codes "4701020000000002010101010000000000000005080100"))
    ++ carried 2 Round1 1 (0 ∷ 2 ∷ 3 ∷ []) (hex (codes "4701020100000002010101010000000000000005080100"))
    ++ carried 2 Round1 2 (0 ∷ 1 ∷ 3 ∷ []) (hex (codes "4701020200000002010101010000000000000005080100"))
    ++ carried 2 Round1 3 (0 ∷ 1 ∷ 2 ∷ []) (hex (codes "4701020300000002010101010000000000000005000100"))
    ++ carried 2 Round2 0 (1 ∷ 2 ∷ 3 ∷ []) (hex (codes "47010200000000020203010101000000000000000508010002010100000000000000050801000301010000000000000005000100"))
    ++ carried 2 Round2 1 (0 ∷ 2 ∷ 3 ∷ []) (hex (codes "47010201000000020203000101000000000000000508010002010100000000000000050801000301010000000000000005000100"))
    ++ carried 2 Round2 2 (0 ∷ 1 ∷ 3 ∷ []) (hex (codes "47010202000000020203000101000000000000000508010001010100000000000000050801000301010000000000000005000100"))
    ++ carried 2 Round2 3 (0 ∷ 1 ∷ 2 ∷ []) (hex (codes "47010203000000020203000101000000000000000508010001010100000000000000050801000201010000000000000005080100"))
    ++ carried 2 Vote 0 (1 ∷ 2 ∷ 3 ∷ []) (hex (codes "4701030000000002010000000000000003"))
    ++ lost 2 Vote 1 (0 ∷ 2 ∷ 3 ∷ []) (hex (codes "4701030100000002010000000000000003"))
    ++ carried 2 Vote 2 (0 ∷ 1 ∷ 3 ∷ []) (hex (codes "4701030200000002010000000000000003"))
    ++ carried 2 Vote 3 (0 ∷ 1 ∷ 2 ∷ []) (hex (codes "4701030300000002010000000000000003"))
    ++ carried 2 Sweep 0 (4 ∷ []) (hex (codes "47010400000000020400000002010000000000000000030000000000000000000000000000000000000000000000000000000000000000000000000000000000000000000000000000000000000000"))
    ++ carried 2 Sweep 1 (4 ∷ []) (hex (codes "47010401000000020400000002010000000000000000030000000000000000000000000000000000000000000000000000000000000000000000000000000000000000000000000000000000000000"))
    ++ carried 2 Sweep 2 (4 ∷ []) (hex (codes "47010402000000020400000002010000000000000000030000000000000000000000000000000000000000000000000000000000000000000000000000000000000000000000000000000000000000"))
    ++ carried 2 Sweep 3 (4 ∷ []) (hex (codes "47010403000000020400000002010000000000000000030000000000000000000000000000000000000000000000000000000000000000000000000000000000000000000000000000000000000000"))
    ++ carried 2 Final 0 (4 ∷ []) (hex (codes "470105000000000204000000020200000000000000000300000000000000000000000000000000000000000000000000000000000000000000000000000000000000000000000000000000000000000100000000000000000000000000000000000000000000000000000000000000000000000000000000000000000000000000000000000000000000000000000000171000000000000000000000000000000000000000000000000000000000"))
    ++ carried 2 Final 1 (4 ∷ []) (hex (codes "470105010000000204000000020200000000000000000300000000000000000000000000000000000000000000000000000000000000000000000000000000000000000000000000000000000000000100000000000000000000000000000000000000000000000000000000000000000000000000000000000000000000000000000000000000000000000000000000171000000000000000000000000000000000000000000000000000000000"))
    ++ carried 2 Final 2 (4 ∷ []) (hex (codes "470105020000000204000000020200000000000000000300000000000000000000000000000000000000000000000000000000000000000000000000000000000000000000000000000000000000000100000000000000000000000000000000000000000000000000000000000000000000000000000000000000000000000000000000000000000000000000000000171000000000000000000000000000000000000000000000000000000000"))
    ++ carried 2 Final 3 (4 ∷ []) (hex (codes "470105030000000204000000020200000000000000000300000000000000000000000000000000000000000000000000000000000000000000000000000000000000000000000000000000000000000100000000000000000000000000000000000000000000000000000000000000000000000000000000000000000000000000000000000000000000000000000000171000000000000000000000000000000000000000000000000000000000"))
    ++ carried 2 Switch 0 (7 ∷ []) (hex (codes "470106000000000217"))
    ++ carried 2 Switch 1 (7 ∷ []) (hex (codes "470106010000000217"))
    ++ carried 2 Switch 2 (7 ∷ []) (hex (codes "470106020000000217"))
    ++ carried 2 Switch 3 (7 ∷ []) (hex (codes "470106030000000217"))

abbrev pub entries_3 : Log
entries_3 =
    carried 3 Round1 0 (1 ∷ 2 ∷ 4 ∷ []) (hex (codes "4701020000000003010101010000000000000005020100"))
    ++ carried 3 Round1 1 (0 ∷ 2 ∷ 4 ∷ []) (hex (codes "4701020100000003010101010000000000000005000100"))
    ++ lost 3 Round1 2 (0 ∷ 1 ∷ 4 ∷ []) (hex (codes "4701020200000003010101010000000000000005020100"))
    ++ carried 3 Round1 4 (0 ∷ 1 ∷ 2 ∷ []) (hex (codes "4701020400000003010101010000000000000005000000"))
    ++ carried 3 Round2 0 (1 ∷ 2 ∷ 4 ∷ []) (hex (codes "47010200000000030203010101000000000000000500010002000401010000000000000005000000"))
    ++ carried 3 Round2 1 (0 ∷ 2 ∷ 4 ∷ []) (hex (codes "47010201000000030203000101000000000000000502010002000401010000000000000005000000"))
    ++ carried 3 Round2 2 (0 ∷ 1 ∷ 4 ∷ []) (hex (codes "47010202000000030203000101000000000000000502010001010100000000000000050001000401010000000000000005000000"))
    ++ carried 3 Round2 4 (0 ∷ 1 ∷ 2 ∷ []) (hex (codes "47010204000000030203000101000000000000000502010001010100000000000000050001000200"))
    ++ carried 3 Vote 0 (1 ∷ 2 ∷ 4 ∷ []) (hex (codes "4701030000000003010000000000000004"))
    ++ carried 3 Vote 1 (0 ∷ 2 ∷ 4 ∷ []) (hex (codes "4701030100000003010000000000000004"))
    ++ carried 3 Vote 2 (0 ∷ 1 ∷ 4 ∷ []) (hex (codes "4701030200000003010000000000000004"))
    ++ carried 3 Vote 4 (0 ∷ 1 ∷ 2 ∷ []) (hex (codes "4701030400000003010000000000000004"))
    ++ carried 3 Switch 0 (7 ∷ []) (hex (codes "470106000000000313"))
    ++ carried 3 Switch 1 (7 ∷ []) (hex (codes "470106010000000313"))
    ++ carried 3 Switch 2 (7 ∷ []) (hex (codes "470106020000000313"))
    ++ carried 3 Switch 4 (7 ∷ []) (hex (codes "470106040000000313"))

abbrev pub log : Log
log = entries_0 ++ entries_1 ++ entries_2 ++ entries_3

-- the latest cycle stands first
abbrev pub histories : Histories
histories =
    ((step.Task ∷ []) ∷ (step.Task ∷ []) ∷ (step.Task ∷ []) ∷ ([]) ∷ (step.Task ∷ []) ∷ []) ∷
    ((step.Task ∷ step.Sweep ∷ []) ∷ (step.Task ∷ step.Sweep ∷ []) ∷ (step.Task ∷ step.Sweep ∷ []) ∷ (step.Task ∷ step.Sweep ∷ []) ∷ ([]) ∷ []) ∷
    ((step.Task ∷ []) ∷ (step.Task ∷ []) ∷ (step.Task ∷ []) ∷ (step.Task ∷ []) ∷ ([]) ∷ []) ∷
    ((step.Task ∷ []) ∷ (step.Task ∷ []) ∷ (step.Task ∷ []) ∷ (step.Task ∷ []) ∷ ([]) ∷ []) ∷
    []

abbrev pub text : List ℕ
text =
    codes "guards channels 5 cycles 4\n"
    ++ codes "cycle 0 active 0,1,2,3,4 transfer -\n"
    ++ codes "ch 0 in 5 vote 1 judged 4 alpha 0,0,0,0,65536\n"
    ++ codes "ch 1 in 5 vote 1 judged 4 alpha 0,0,0,0,65536\n"
    ++ codes "ch 2 in 5 vote 1 judged 4 alpha 0,0,0,0,65536\n"
    ++ codes "ch 3 in 5 vote 1 judged 4 alpha 0,0,0,0,65536\n"
    ++ codes "end removed 4 joined - remaining -\n"
    ++ codes "cycle 1 active 0,1,2,3 transfer -\n"
    ++ codes "ch 0 in 5 vote 2 judged - alpha 0,0,0,0,0\n"
    ++ codes "ch 1 in 5 vote 2 judged - alpha 0,0,0,0,0\n"
    ++ codes "ch 2 in 5 vote 2 judged - alpha 0,0,0,0,0\n"
    ++ codes "ch 3 in 5 vote 2 judged - alpha 0,0,0,0,0\n"
    ++ codes "end removed - joined - remaining -\n"
    ++ codes "cycle 2 active 0,1,2,3 transfer 4@2\n"
    ++ codes "ch 0 in 5 vote 3 judged 3 alpha 0,0,0,65536,0\n"
    ++ codes "ch 1 in 5 vote 3 judged 3 alpha 0,0,0,65536,0\n"
    ++ codes "ch 2 in 5 vote 3 judged 3 alpha 0,0,0,65536,0\n"
    ++ codes "ch 3 in 5 vote 3 judged 3 alpha 0,0,0,65536,0\n"
    ++ codes "end removed 3 joined 4 remaining 2\n"
    ++ codes "cycle 3 active 0,1,2,4 transfer -\n"
    ++ codes "ch 0 in 5 vote 4 judged 2 alpha 0,0,65536,0,0\n"
    ++ codes "ch 1 in 5 vote 4 judged 2 alpha 0,0,65536,0,0\n"
    ++ codes "ch 2 in 5 vote 4 judged 2 alpha 0,0,65536,0,0\n"
    ++ codes "ch 4 in 5 vote 4 judged 2 alpha 0,0,65536,0,0\n"
    ++ codes "end removed 2 joined - remaining -\n"
    ++ codes "done 4\n"

abbrev pub run : WorkedRun
run = record { mission = mission; log = log; histories = histories; text = text }

abbrev pub joined_4 : WorkedJoin
joined_4 =
    record {
      channel = 4;
      cycle = 2;
      replica = record { have = Some 2; blocks = (pos 3 ∷ pos 0 ∷ pos 0 ∷ pos 0 ∷ pos 0 ∷ pos 0 ∷ pos 0 ∷ pos 0 ∷ []) ∷ zero_block ∷ [] };
      content = record {
        target = 4;
        start = 2;
        copies = record { block = 0; words = (pos 3 ∷ pos 0 ∷ pos 0 ∷ pos 0 ∷ pos 0 ∷ pos 0 ∷ pos 0 ∷ pos 0 ∷ []) } ∷ record { block = 1; words = zero_block } ∷ [];
        control = record {
          law = Multiply;
          active = 0 ∷ 1 ∷ 2 ∷ 4 ∷ [];
          fresh = 4 ∷ [];
          counts = 0 ∷ 0 ∷ 0 ∷ 0 ∷ 0 ∷ 0 ∷ 0 ∷ [];
        };
      };
      context = (pos 3 ∷ pos 0 ∷ pos 0 ∷ pos 0 ∷ pos 0 ∷ pos 0 ∷ pos 0 ∷ pos 0 ∷ []) ∷ zero_block ∷ [];
    }
