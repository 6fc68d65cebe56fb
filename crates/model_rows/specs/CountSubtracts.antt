-- Written by tools/worked_runs.py.
-- An alpha-count under the law of subtraction, in frames of version 2.
use Rattle.std.specs.Prelude.{ℕ, List, [], ◌∷◌, ◌++◌, Some, None, pos, replicate, codes}
use Rattle.guards_model.specs.declared.Slot.TheVariants.{Round1, Round2, Vote, Switch}
use Rattle.guards_model.specs.declared.Op.TheVariants.{Add}
use Rattle.guards_model.specs.declared.Law.TheVariants.{Subtract}
use Rattle.guards_model.specs.declared.Actor.TheVariants as step
use Rattle.guards_model.specs.Contexts.{zeroed}
use Rattle.guards_model.specs.Expressions.{number, block_word, binary}
use Rattle.guards_model.specs.Faults.{bus}
use Rattle.guards_model.specs.BusRules.{lose}
use Rattle.guards_model.specs.Missions.{MissionValue}
use Rattle.guards_model.specs.Network.{Log}
use Rattle.guards_model.specs.Rounds.{Histories}
use Rattle.model_rows.specs.Worked.{hex, carried, lost, WorkedRun}

abbrev pub mission : MissionValue
mission =
    record {
      rules = record {
        channels = 5;
        blocks = 8;
        version = 2;
        law = Subtract;
        keep = 32767;
        decrement = 16384;
        threshold = 131072;
        sweep = 3;
        last = 2;
        returning = 1;
      };
      cycles = 5;
      width = 1;
      return_after = 2;
      initial = zeroed 8;
      table = (record { name = codes "count"; writes = record { block = 0; set = Some (binary Add (block_word 0 0) (number (pos 1))) ∷ replicate 7 None } ∷ [] } ∷ []) ∷ [];
      outputs = (0, 0) ∷ [];
      sensors = ((pos 5 ∷ []) ∷ (pos 5 ∷ []) ∷ (pos 5 ∷ []) ∷ (pos 5 ∷ []) ∷ (pos 5 ∷ []) ∷ []) ∷ [];
      script = bus (record { cycle = 0; slot = Round1; from = 3; to = None; act = lose }) ∷
          bus (record { cycle = 3; slot = Round1; from = 3; to = None; act = lose }) ∷
          bus (record { cycle = 4; slot = Round1; from = 3; to = None; act = lose }) ∷
          [];
      actuator = None;
    }

abbrev pub entries_0 : Log
entries_0 =
    carried 0 Round1 0 (1 ∷ 2 ∷ 3 ∷ 4 ∷ []) (hex (codes "4702020000000000010101010000000000000005000000"))
    ++ carried 0 Round1 1 (0 ∷ 2 ∷ 3 ∷ 4 ∷ []) (hex (codes "4702020100000000010101010000000000000005000000"))
    ++ carried 0 Round1 2 (0 ∷ 1 ∷ 3 ∷ 4 ∷ []) (hex (codes "4702020200000000010101010000000000000005000000"))
    ++ lost 0 Round1 3 (0 ∷ 1 ∷ 2 ∷ 4 ∷ []) (hex (codes "4702020300000000010101010000000000000005000000"))
    ++ carried 0 Round1 4 (0 ∷ 1 ∷ 2 ∷ 3 ∷ []) (hex (codes "4702020400000000010101010000000000000005000000"))
    ++ carried 0 Round2 0 (1 ∷ 2 ∷ 3 ∷ 4 ∷ []) (hex (codes "470202000000000002040101010000000000000005000000020101000000000000000500000003000401010000000000000005000000"))
    ++ carried 0 Round2 1 (0 ∷ 2 ∷ 3 ∷ 4 ∷ []) (hex (codes "470202010000000002040001010000000000000005000000020101000000000000000500000003000401010000000000000005000000"))
    ++ carried 0 Round2 2 (0 ∷ 1 ∷ 3 ∷ 4 ∷ []) (hex (codes "470202020000000002040001010000000000000005000000010101000000000000000500000003000401010000000000000005000000"))
    ++ carried 0 Round2 3 (0 ∷ 1 ∷ 2 ∷ 4 ∷ []) (hex (codes "470202030000000002040001010000000000000005000000010101000000000000000500000002010100000000000000050000000401010000000000000005000000"))
    ++ carried 0 Round2 4 (0 ∷ 1 ∷ 2 ∷ 3 ∷ []) (hex (codes "470202040000000002040001010000000000000005000000010101000000000000000500000002010100000000000000050000000300"))
    ++ carried 0 Vote 0 (1 ∷ 2 ∷ 3 ∷ 4 ∷ []) (hex (codes "4702030000000000010000000000000001"))
    ++ carried 0 Vote 1 (0 ∷ 2 ∷ 3 ∷ 4 ∷ []) (hex (codes "4702030100000000010000000000000001"))
    ++ carried 0 Vote 2 (0 ∷ 1 ∷ 3 ∷ 4 ∷ []) (hex (codes "4702030200000000010000000000000001"))
    ++ carried 0 Vote 3 (0 ∷ 1 ∷ 2 ∷ 4 ∷ []) (hex (codes "4702030300000000010000000000000001"))
    ++ carried 0 Vote 4 (0 ∷ 1 ∷ 2 ∷ 3 ∷ []) (hex (codes "4702030400000000010000000000000001"))
    ++ carried 0 Switch 0 (7 ∷ []) (hex (codes "47020600000000001f"))
    ++ carried 0 Switch 1 (7 ∷ []) (hex (codes "47020601000000001f"))
    ++ carried 0 Switch 2 (7 ∷ []) (hex (codes "47020602000000001f"))
    ++ carried 0 Switch 3 (7 ∷ []) (hex (codes "47020603000000001f"))
    ++ carried 0 Switch 4 (7 ∷ []) (hex (codes "47020604000000001f"))

abbrev pub entries_1 : Log
entries_1 =
    carried 1 Round1 0 (1 ∷ 2 ∷ 3 ∷ 4 ∷ []) (hex (codes "4702020000000001010101010000000000000005000000"))
    ++ carried 1 Round1 1 (0 ∷ 2 ∷ 3 ∷ 4 ∷ []) (hex (codes "4702020100000001010101010000000000000005000000"))
    ++ carried 1 Round1 2 (0 ∷ 1 ∷ 3 ∷ 4 ∷ []) (hex (codes "4702020200000001010101010000000000000005000000"))
    ++ carried 1 Round1 3 (0 ∷ 1 ∷ 2 ∷ 4 ∷ []) (hex (codes "4702020300000001010101010000000000000005000000"))
    ++ carried 1 Round1 4 (0 ∷ 1 ∷ 2 ∷ 3 ∷ []) (hex (codes "4702020400000001010101010000000000000005000000"))
    ++ carried 1 Round2 0 (1 ∷ 2 ∷ 3 ∷ 4 ∷ []) (hex (codes "470202000000000102040101010000000000000005000000020101000000000000000500000003010100000000000000050000000401010000000000000005000000"))
    ++ carried 1 Round2 1 (0 ∷ 2 ∷ 3 ∷ 4 ∷ []) (hex (codes "470202010000000102040001010000000000000005000000020101000000000000000500000003010100000000000000050000000401010000000000000005000000"))
    ++ carried 1 Round2 2 (0 ∷ 1 ∷ 3 ∷ 4 ∷ []) (hex (codes "470202020000000102040001010000000000000005000000010101000000000000000500000003010100000000000000050000000401010000000000000005000000"))
    ++ carried 1 Round2 3 (0 ∷ 1 ∷ 2 ∷ 4 ∷ []) (hex (codes "470202030000000102040001010000000000000005000000010101000000000000000500000002010100000000000000050000000401010000000000000005000000"))
    ++ carried 1 Round2 4 (0 ∷ 1 ∷ 2 ∷ 3 ∷ []) (hex (codes "470202040000000102040001010000000000000005000000010101000000000000000500000002010100000000000000050000000301010000000000000005000000"))
    ++ carried 1 Vote 0 (1 ∷ 2 ∷ 3 ∷ 4 ∷ []) (hex (codes "4702030000000001010000000000000002"))
    ++ carried 1 Vote 1 (0 ∷ 2 ∷ 3 ∷ 4 ∷ []) (hex (codes "4702030100000001010000000000000002"))
    ++ carried 1 Vote 2 (0 ∷ 1 ∷ 3 ∷ 4 ∷ []) (hex (codes "4702030200000001010000000000000002"))
    ++ carried 1 Vote 3 (0 ∷ 1 ∷ 2 ∷ 4 ∷ []) (hex (codes "4702030300000001010000000000000002"))
    ++ carried 1 Vote 4 (0 ∷ 1 ∷ 2 ∷ 3 ∷ []) (hex (codes "4702030400000001010000000000000002"))
    ++ carried 1 Switch 0 (7 ∷ []) (hex (codes "47020600000000011f"))
    ++ carried 1 Switch 1 (7 ∷ []) (hex (codes "47020601000000011f"))
    ++ carried 1 Switch 2 (7 ∷ []) (hex (codes "47020602000000011f"))
    ++ carried 1 Switch 3 (7 ∷ []) (hex (codes "47020603000000011f"))
    ++ carried 1 Switch 4 (7 ∷ []) (hex (codes "47020604000000011f"))

abbrev pub entries_2 : Log
entries_2 =
    carried 2 Round1 0 (1 ∷ 2 ∷ 3 ∷ 4 ∷ []) (hex (codes "4702020000000002010101010000000000000005000000"))
    ++ carried 2 Round1 1 (0 ∷ 2 ∷ 3 ∷ 4 ∷ []) (hex (codes "4702020100000002010101010000000000000005000000"))
    ++ carried 2 Round1 2 (0 ∷ 1 ∷ 3 ∷ 4 ∷ []) (hex (codes "4702020200000002010101010000000000000005000000"))
    ++ carried 2 Round1 3 (0 ∷ 1 ∷ 2 ∷ 4 ∷ []) (hex (codes "4702020300000002010101010000000000000005000000"))
    ++ carried 2 Round1 4 (0 ∷ 1 ∷ 2 ∷ 3 ∷ []) (hex (codes "4702020400000002010101010000000000000005000000"))
    ++ carried 2 Round2 0 (1 ∷ 2 ∷ 3 ∷ 4 ∷ []) (hex (codes "470202000000000202040101010000000000000005000000020101000000000000000500000003010100000000000000050000000401010000000000000005000000"))
    ++ carried 2 Round2 1 (0 ∷ 2 ∷ 3 ∷ 4 ∷ []) (hex (codes "470202010000000202040001010000000000000005000000020101000000000000000500000003010100000000000000050000000401010000000000000005000000"))
    ++ carried 2 Round2 2 (0 ∷ 1 ∷ 3 ∷ 4 ∷ []) (hex (codes "470202020000000202040001010000000000000005000000010101000000000000000500000003010100000000000000050000000401010000000000000005000000"))
    ++ carried 2 Round2 3 (0 ∷ 1 ∷ 2 ∷ 4 ∷ []) (hex (codes "470202030000000202040001010000000000000005000000010101000000000000000500000002010100000000000000050000000401010000000000000005000000"))
    ++ carried 2 Round2 4 (0 ∷ 1 ∷ 2 ∷ 3 ∷ []) (hex (codes "470202040000000202040001010000000000000005000000010101000000000000000500000002010100000000000000050000000301010000000000000005000000"))
    ++ carried 2 Vote 0 (1 ∷ 2 ∷ 3 ∷ 4 ∷ []) (hex (codes "4702030000000002010000000000000003"))
    ++ carried 2 Vote 1 (0 ∷ 2 ∷ 3 ∷ 4 ∷ []) (hex (codes "4702030100000002010000000000000003"))
    ++ carried 2 Vote 2 (0 ∷ 1 ∷ 3 ∷ 4 ∷ []) (hex (codes "4702030200000002010000000000000003"))
    ++ carried 2 Vote 3 (0 ∷ 1 ∷ 2 ∷ 4 ∷ []) (hex (codes "4702030300000002010000000000000003"))
    ++ carried 2 Vote 4 (0 ∷ 1 ∷ 2 ∷ 3 ∷ []) (hex (codes "4702030400000002010000000000000003"))
    ++ carried 2 Switch 0 (7 ∷ []) (hex (codes "47020600000000021f"))
    ++ carried 2 Switch 1 (7 ∷ []) (hex (codes "47020601000000021f"))
    ++ carried 2 Switch 2 (7 ∷ []) (hex (codes "47020602000000021f"))
    ++ carried 2 Switch 3 (7 ∷ []) (hex (codes "47020603000000021f"))
    ++ carried 2 Switch 4 (7 ∷ []) (hex (codes "47020604000000021f"))

abbrev pub entries_3 : Log
entries_3 =
    carried 3 Round1 0 (1 ∷ 2 ∷ 3 ∷ 4 ∷ []) (hex (codes "4702020000000003010101010000000000000005000000"))
    ++ carried 3 Round1 1 (0 ∷ 2 ∷ 3 ∷ 4 ∷ []) (hex (codes "4702020100000003010101010000000000000005000000"))
    ++ carried 3 Round1 2 (0 ∷ 1 ∷ 3 ∷ 4 ∷ []) (hex (codes "4702020200000003010101010000000000000005000000"))
    ++ lost 3 Round1 3 (0 ∷ 1 ∷ 2 ∷ 4 ∷ []) (hex (codes "4702020300000003010101010000000000000005000000"))
    ++ carried 3 Round1 4 (0 ∷ 1 ∷ 2 ∷ 3 ∷ []) (hex (codes "4702020400000003010101010000000000000005000000"))
    ++ carried 3 Round2 0 (1 ∷ 2 ∷ 3 ∷ 4 ∷ []) (hex (codes "470202000000000302040101010000000000000005000000020101000000000000000500000003000401010000000000000005000000"))
    ++ carried 3 Round2 1 (0 ∷ 2 ∷ 3 ∷ 4 ∷ []) (hex (codes "470202010000000302040001010000000000000005000000020101000000000000000500000003000401010000000000000005000000"))
    ++ carried 3 Round2 2 (0 ∷ 1 ∷ 3 ∷ 4 ∷ []) (hex (codes "470202020000000302040001010000000000000005000000010101000000000000000500000003000401010000000000000005000000"))
    ++ carried 3 Round2 3 (0 ∷ 1 ∷ 2 ∷ 4 ∷ []) (hex (codes "470202030000000302040001010000000000000005000000010101000000000000000500000002010100000000000000050000000401010000000000000005000000"))
    ++ carried 3 Round2 4 (0 ∷ 1 ∷ 2 ∷ 3 ∷ []) (hex (codes "470202040000000302040001010000000000000005000000010101000000000000000500000002010100000000000000050000000300"))
    ++ carried 3 Vote 0 (1 ∷ 2 ∷ 3 ∷ 4 ∷ []) (hex (codes "4702030000000003010000000000000004"))
    ++ carried 3 Vote 1 (0 ∷ 2 ∷ 3 ∷ 4 ∷ []) (hex (codes "4702030100000003010000000000000004"))
    ++ carried 3 Vote 2 (0 ∷ 1 ∷ 3 ∷ 4 ∷ []) (hex (codes "4702030200000003010000000000000004"))
    ++ carried 3 Vote 3 (0 ∷ 1 ∷ 2 ∷ 4 ∷ []) (hex (codes "4702030300000003010000000000000004"))
    ++ carried 3 Vote 4 (0 ∷ 1 ∷ 2 ∷ 3 ∷ []) (hex (codes "4702030400000003010000000000000004"))
    ++ carried 3 Switch 0 (7 ∷ []) (hex (codes "47020600000000031f"))
    ++ carried 3 Switch 1 (7 ∷ []) (hex (codes "47020601000000031f"))
    ++ carried 3 Switch 2 (7 ∷ []) (hex (codes "47020602000000031f"))
    ++ carried 3 Switch 3 (7 ∷ []) (hex (codes "47020603000000031f"))
    ++ carried 3 Switch 4 (7 ∷ []) (hex (codes "47020604000000031f"))

abbrev pub entries_4 : Log
entries_4 =
    carried 4 Round1 0 (1 ∷ 2 ∷ 3 ∷ 4 ∷ []) (hex (codes "4702020000000004010101010000000000000005000000"))
    ++ carried 4 Round1 1 (0 ∷ 2 ∷ 3 ∷ 4 ∷ []) (hex (codes "4702020100000004010101010000000000000005000000"))
    ++ carried 4 Round1 2 (0 ∷ 1 ∷ 3 ∷ 4 ∷ []) (hex (codes "4702020200000004010101010000000000000005000000"))
    ++ lost 4 Round1 3 (0 ∷ 1 ∷ 2 ∷ 4 ∷ []) (hex (codes "4702020300000004010101010000000000000005000000"))
    ++ carried 4 Round1 4 (0 ∷ 1 ∷ 2 ∷ 3 ∷ []) (hex (codes "4702020400000004010101010000000000000005000000"))
    ++ carried 4 Round2 0 (1 ∷ 2 ∷ 3 ∷ 4 ∷ []) (hex (codes "470202000000000402040101010000000000000005000000020101000000000000000500000003000401010000000000000005000000"))
    ++ carried 4 Round2 1 (0 ∷ 2 ∷ 3 ∷ 4 ∷ []) (hex (codes "470202010000000402040001010000000000000005000000020101000000000000000500000003000401010000000000000005000000"))
    ++ carried 4 Round2 2 (0 ∷ 1 ∷ 3 ∷ 4 ∷ []) (hex (codes "470202020000000402040001010000000000000005000000010101000000000000000500000003000401010000000000000005000000"))
    ++ carried 4 Round2 3 (0 ∷ 1 ∷ 2 ∷ 4 ∷ []) (hex (codes "470202030000000402040001010000000000000005000000010101000000000000000500000002010100000000000000050000000401010000000000000005000000"))
    ++ carried 4 Round2 4 (0 ∷ 1 ∷ 2 ∷ 3 ∷ []) (hex (codes "470202040000000402040001010000000000000005000000010101000000000000000500000002010100000000000000050000000300"))
    ++ carried 4 Vote 0 (1 ∷ 2 ∷ 3 ∷ 4 ∷ []) (hex (codes "4702030000000004010000000000000005"))
    ++ carried 4 Vote 1 (0 ∷ 2 ∷ 3 ∷ 4 ∷ []) (hex (codes "4702030100000004010000000000000005"))
    ++ carried 4 Vote 2 (0 ∷ 1 ∷ 3 ∷ 4 ∷ []) (hex (codes "4702030200000004010000000000000005"))
    ++ carried 4 Vote 3 (0 ∷ 1 ∷ 2 ∷ 4 ∷ []) (hex (codes "4702030300000004010000000000000005"))
    ++ carried 4 Vote 4 (0 ∷ 1 ∷ 2 ∷ 3 ∷ []) (hex (codes "4702030400000004010000000000000005"))
    ++ carried 4 Switch 0 (7 ∷ []) (hex (codes "470206000000000417"))
    ++ carried 4 Switch 1 (7 ∷ []) (hex (codes "470206010000000417"))
    ++ carried 4 Switch 2 (7 ∷ []) (hex (codes "470206020000000417"))
    ++ carried 4 Switch 3 (7 ∷ []) (hex (codes "470206030000000417"))
    ++ carried 4 Switch 4 (7 ∷ []) (hex (codes "470206040000000417"))

abbrev pub log : Log
log = entries_0 ++ entries_1 ++ entries_2 ++ entries_3 ++ entries_4

-- the latest cycle stands first
abbrev pub histories : Histories
histories =
    ((step.Task ∷ []) ∷ (step.Task ∷ []) ∷ (step.Task ∷ []) ∷ (step.Task ∷ []) ∷ (step.Task ∷ []) ∷ []) ∷
    ((step.Task ∷ []) ∷ (step.Task ∷ []) ∷ (step.Task ∷ []) ∷ (step.Task ∷ []) ∷ (step.Task ∷ []) ∷ []) ∷
    ((step.Task ∷ []) ∷ (step.Task ∷ []) ∷ (step.Task ∷ []) ∷ (step.Task ∷ []) ∷ (step.Task ∷ []) ∷ []) ∷
    ((step.Task ∷ []) ∷ (step.Task ∷ []) ∷ (step.Task ∷ []) ∷ (step.Task ∷ []) ∷ (step.Task ∷ []) ∷ []) ∷
    ((step.Task ∷ []) ∷ (step.Task ∷ []) ∷ (step.Task ∷ []) ∷ (step.Task ∷ []) ∷ (step.Task ∷ []) ∷ []) ∷
    []

abbrev pub text : List ℕ
text =
    codes "guards channels 5 cycles 5\n"
    ++ codes "cycle 0 active 0,1,2,3,4 transfer -\n"
    ++ codes "ch 0 in 5 vote 1 judged 3 alpha 0,0,0,65536,0\n"
    ++ codes "ch 1 in 5 vote 1 judged 3 alpha 0,0,0,65536,0\n"
    ++ codes "ch 2 in 5 vote 1 judged 3 alpha 0,0,0,65536,0\n"
    ++ codes "ch 3 in 5 vote 1 judged 3 alpha 0,0,0,65536,0\n"
    ++ codes "ch 4 in 5 vote 1 judged 3 alpha 0,0,0,65536,0\n"
    ++ codes "end removed - joined - remaining -\n"
    ++ codes "cycle 1 active 0,1,2,3,4 transfer -\n"
    ++ codes "ch 0 in 5 vote 2 judged - alpha 0,0,0,49152,0\n"
    ++ codes "ch 1 in 5 vote 2 judged - alpha 0,0,0,49152,0\n"
    ++ codes "ch 2 in 5 vote 2 judged - alpha 0,0,0,49152,0\n"
    ++ codes "ch 3 in 5 vote 2 judged - alpha 0,0,0,49152,0\n"
    ++ codes "ch 4 in 5 vote 2 judged - alpha 0,0,0,49152,0\n"
    ++ codes "end removed - joined - remaining -\n"
    ++ codes "cycle 2 active 0,1,2,3,4 transfer -\n"
    ++ codes "ch 0 in 5 vote 3 judged - alpha 0,0,0,32768,0\n"
    ++ codes "ch 1 in 5 vote 3 judged - alpha 0,0,0,32768,0\n"
    ++ codes "ch 2 in 5 vote 3 judged - alpha 0,0,0,32768,0\n"
    ++ codes "ch 3 in 5 vote 3 judged - alpha 0,0,0,32768,0\n"
    ++ codes "ch 4 in 5 vote 3 judged - alpha 0,0,0,32768,0\n"
    ++ codes "end removed - joined - remaining -\n"
    ++ codes "cycle 3 active 0,1,2,3,4 transfer -\n"
    ++ codes "ch 0 in 5 vote 4 judged 3 alpha 0,0,0,98304,0\n"
    ++ codes "ch 1 in 5 vote 4 judged 3 alpha 0,0,0,98304,0\n"
    ++ codes "ch 2 in 5 vote 4 judged 3 alpha 0,0,0,98304,0\n"
    ++ codes "ch 3 in 5 vote 4 judged 3 alpha 0,0,0,98304,0\n"
    ++ codes "ch 4 in 5 vote 4 judged 3 alpha 0,0,0,98304,0\n"
    ++ codes "end removed - joined - remaining -\n"
    ++ codes "cycle 4 active 0,1,2,3,4 transfer -\n"
    ++ codes "ch 0 in 5 vote 5 judged 3 alpha 0,0,0,163840,0\n"
    ++ codes "ch 1 in 5 vote 5 judged 3 alpha 0,0,0,163840,0\n"
    ++ codes "ch 2 in 5 vote 5 judged 3 alpha 0,0,0,163840,0\n"
    ++ codes "ch 3 in 5 vote 5 judged 3 alpha 0,0,0,163840,0\n"
    ++ codes "ch 4 in 5 vote 5 judged 3 alpha 0,0,0,163840,0\n"
    ++ codes "end removed 3 joined - remaining -\n"
    ++ codes "done 5\n"

abbrev pub run : WorkedRun
run = record { mission = mission; log = log; histories = histories; text = text }
