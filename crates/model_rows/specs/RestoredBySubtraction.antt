-- Written by tools/worked_runs.py.
-- A channel is restored in frames of version 2, whose control word names the law.
use Rattle.std.specs.Prelude.{ℕ, List, [], ◌∷◌, ◌++◌, Some, None, pos, negsuc, replicate, codes}
use Rattle.guards_model.specs.declared.Slot.TheVariants.{Request, Round1, Round2, Vote, Sweep, Final, Switch}
use Rattle.guards_model.specs.declared.Op.TheVariants.{Add}
use Rattle.guards_model.specs.declared.Law.TheVariants.{Subtract}
use Rattle.guards_model.specs.declared.Actor.TheVariants as step
use Rattle.guards_model.specs.Contexts.{zero_block}
use Rattle.guards_model.specs.Expressions.{number, block_word, binary}
use Rattle.guards_model.specs.Faults.{crash, restart}
use Rattle.guards_model.specs.Missions.{MissionValue}
use Rattle.guards_model.specs.Network.{Log}
use Rattle.guards_model.specs.Rounds.{Histories}
use Rattle.model_rows.specs.Worked.{hex, carried, WorkedRun, WorkedJoin}

abbrev pub mission : MissionValue
mission =
    record {
      rules = record {
        channels = 5;
        blocks = 8;
        version = 2;
        law = Subtract;
        keep = 32768;
        decrement = 32768;
        threshold = 6553600;
        sweep = 3;
        last = 2;
        returning = 1;
      };
      cycles = 7;
      width = 1;
      return_after = 2;
      initial = zero_block ∷ (negsuc 299 ∷ negsuc 298 ∷ negsuc 297 ∷ negsuc 296 ∷ negsuc 295 ∷ negsuc 294 ∷ negsuc 293 ∷ negsuc 292 ∷ []) ∷ (negsuc 199 ∷ negsuc 198 ∷ negsuc 197 ∷ negsuc 196 ∷ negsuc 195 ∷ negsuc 194 ∷ negsuc 193 ∷ negsuc 192 ∷ []) ∷ (negsuc 99 ∷ negsuc 98 ∷ negsuc 97 ∷ negsuc 96 ∷ negsuc 95 ∷ negsuc 94 ∷ negsuc 93 ∷ negsuc 92 ∷ []) ∷ (pos 0 ∷ pos 1 ∷ pos 2 ∷ pos 3 ∷ pos 4 ∷ pos 5 ∷ pos 6 ∷ pos 7 ∷ []) ∷ (pos 100 ∷ pos 101 ∷ pos 102 ∷ pos 103 ∷ pos 104 ∷ pos 105 ∷ pos 106 ∷ pos 107 ∷ []) ∷ (pos 200 ∷ pos 201 ∷ pos 202 ∷ pos 203 ∷ pos 204 ∷ pos 205 ∷ pos 206 ∷ pos 207 ∷ []) ∷ (pos 300 ∷ pos 301 ∷ pos 302 ∷ pos 303 ∷ pos 304 ∷ pos 305 ∷ pos 306 ∷ pos 307 ∷ []) ∷ [];
      table = (record { name = codes "count"; writes = record { block = 0; set = Some (binary Add (block_word 0 0) (number (pos 1))) ∷ replicate 7 None } ∷ [] } ∷ []) ∷ [];
      outputs = (0, 0) ∷ [];
      sensors = ((pos 5 ∷ []) ∷ (pos 5 ∷ []) ∷ (pos 5 ∷ []) ∷ (pos 5 ∷ []) ∷ (pos 5 ∷ []) ∷ []) ∷ [];
      script = crash 4 0 Request ∷
          restart 4 1 ∷
          [];
      actuator = None;
    }

abbrev pub entries_0 : Log
entries_0 =
    carried 0 Round1 0 (1 ∷ 2 ∷ 3 ∷ 4 ∷ []) (hex (codes "4702020000000000010101010000000000000005000000"))
    ++ carried 0 Round1 1 (0 ∷ 2 ∷ 3 ∷ 4 ∷ []) (hex (codes "4702020100000000010101010000000000000005000000"))
    ++ carried 0 Round1 2 (0 ∷ 1 ∷ 3 ∷ 4 ∷ []) (hex (codes "4702020200000000010101010000000000000005000000"))
    ++ carried 0 Round1 3 (0 ∷ 1 ∷ 2 ∷ 4 ∷ []) (hex (codes "4702020300000000010101010000000000000005000000"))
    ++ carried 0 Round2 0 (1 ∷ 2 ∷ 3 ∷ 4 ∷ []) (hex (codes "470202000000000002040101010000000000000005000000020101000000000000000500000003010100000000000000050000000400"))
    ++ carried 0 Round2 1 (0 ∷ 2 ∷ 3 ∷ 4 ∷ []) (hex (codes "470202010000000002040001010000000000000005000000020101000000000000000500000003010100000000000000050000000400"))
    ++ carried 0 Round2 2 (0 ∷ 1 ∷ 3 ∷ 4 ∷ []) (hex (codes "470202020000000002040001010000000000000005000000010101000000000000000500000003010100000000000000050000000400"))
    ++ carried 0 Round2 3 (0 ∷ 1 ∷ 2 ∷ 4 ∷ []) (hex (codes "470202030000000002040001010000000000000005000000010101000000000000000500000002010100000000000000050000000400"))
    ++ carried 0 Vote 0 (1 ∷ 2 ∷ 3 ∷ 4 ∷ []) (hex (codes "4702030000000000010000000000000001"))
    ++ carried 0 Vote 1 (0 ∷ 2 ∷ 3 ∷ 4 ∷ []) (hex (codes "4702030100000000010000000000000001"))
    ++ carried 0 Vote 2 (0 ∷ 1 ∷ 3 ∷ 4 ∷ []) (hex (codes "4702030200000000010000000000000001"))
    ++ carried 0 Vote 3 (0 ∷ 1 ∷ 2 ∷ 4 ∷ []) (hex (codes "4702030300000000010000000000000001"))
    ++ carried 0 Switch 0 (7 ∷ []) (hex (codes "47020600000000001f"))
    ++ carried 0 Switch 1 (7 ∷ []) (hex (codes "47020601000000001f"))
    ++ carried 0 Switch 2 (7 ∷ []) (hex (codes "47020602000000001f"))
    ++ carried 0 Switch 3 (7 ∷ []) (hex (codes "47020603000000001f"))

abbrev pub entries_1 : Log
entries_1 =
    carried 1 Request 4 (0 ∷ 1 ∷ 2 ∷ 3 ∷ []) (hex (codes "470201040000000100"))
    ++ carried 1 Round1 0 (1 ∷ 2 ∷ 3 ∷ 4 ∷ []) (hex (codes "4702020000000001010101010000000000000005100000"))
    ++ carried 1 Round1 1 (0 ∷ 2 ∷ 3 ∷ 4 ∷ []) (hex (codes "4702020100000001010101010000000000000005100000"))
    ++ carried 1 Round1 2 (0 ∷ 1 ∷ 3 ∷ 4 ∷ []) (hex (codes "4702020200000001010101010000000000000005100000"))
    ++ carried 1 Round1 3 (0 ∷ 1 ∷ 2 ∷ 4 ∷ []) (hex (codes "4702020300000001010101010000000000000005100000"))
    ++ carried 1 Round2 0 (1 ∷ 2 ∷ 3 ∷ 4 ∷ []) (hex (codes "470202000000000102040101010000000000000005100000020101000000000000000510000003010100000000000000051000000400"))
    ++ carried 1 Round2 1 (0 ∷ 2 ∷ 3 ∷ 4 ∷ []) (hex (codes "470202010000000102040001010000000000000005100000020101000000000000000510000003010100000000000000051000000400"))
    ++ carried 1 Round2 2 (0 ∷ 1 ∷ 3 ∷ 4 ∷ []) (hex (codes "470202020000000102040001010000000000000005100000010101000000000000000510000003010100000000000000051000000400"))
    ++ carried 1 Round2 3 (0 ∷ 1 ∷ 2 ∷ 4 ∷ []) (hex (codes "470202030000000102040001010000000000000005100000010101000000000000000510000002010100000000000000051000000400"))
    ++ carried 1 Vote 0 (1 ∷ 2 ∷ 3 ∷ 4 ∷ []) (hex (codes "4702030000000001010000000000000002"))
    ++ carried 1 Vote 1 (0 ∷ 2 ∷ 3 ∷ 4 ∷ []) (hex (codes "4702030100000001010000000000000002"))
    ++ carried 1 Vote 2 (0 ∷ 1 ∷ 3 ∷ 4 ∷ []) (hex (codes "4702030200000001010000000000000002"))
    ++ carried 1 Vote 3 (0 ∷ 1 ∷ 2 ∷ 4 ∷ []) (hex (codes "4702030300000001010000000000000002"))
    ++ carried 1 Switch 0 (7 ∷ []) (hex (codes "47020600000000011f"))
    ++ carried 1 Switch 1 (7 ∷ []) (hex (codes "47020601000000011f"))
    ++ carried 1 Switch 2 (7 ∷ []) (hex (codes "47020602000000011f"))
    ++ carried 1 Switch 3 (7 ∷ []) (hex (codes "47020603000000011f"))

abbrev pub entries_2 : Log
entries_2 =
    carried 2 Request 4 (0 ∷ 1 ∷ 2 ∷ 3 ∷ []) (hex (codes "470201040000000200"))
    ++ carried 2 Round1 0 (1 ∷ 2 ∷ 3 ∷ 4 ∷ []) (hex (codes "4702020000000002010101010000000000000005100100"))
    ++ carried 2 Round1 1 (0 ∷ 2 ∷ 3 ∷ 4 ∷ []) (hex (codes "4702020100000002010101010000000000000005100100"))
    ++ carried 2 Round1 2 (0 ∷ 1 ∷ 3 ∷ 4 ∷ []) (hex (codes "4702020200000002010101010000000000000005100100"))
    ++ carried 2 Round1 3 (0 ∷ 1 ∷ 2 ∷ 4 ∷ []) (hex (codes "4702020300000002010101010000000000000005100100"))
    ++ carried 2 Round2 0 (1 ∷ 2 ∷ 3 ∷ 4 ∷ []) (hex (codes "470202000000000202040101010000000000000005100100020101000000000000000510010003010100000000000000051001000400"))
    ++ carried 2 Round2 1 (0 ∷ 2 ∷ 3 ∷ 4 ∷ []) (hex (codes "470202010000000202040001010000000000000005100100020101000000000000000510010003010100000000000000051001000400"))
    ++ carried 2 Round2 2 (0 ∷ 1 ∷ 3 ∷ 4 ∷ []) (hex (codes "470202020000000202040001010000000000000005100100010101000000000000000510010003010100000000000000051001000400"))
    ++ carried 2 Round2 3 (0 ∷ 1 ∷ 2 ∷ 4 ∷ []) (hex (codes "470202030000000202040001010000000000000005100100010101000000000000000510010002010100000000000000051001000400"))
    ++ carried 2 Vote 0 (1 ∷ 2 ∷ 3 ∷ 4 ∷ []) (hex (codes "4702030000000002010000000000000003"))
    ++ carried 2 Vote 1 (0 ∷ 2 ∷ 3 ∷ 4 ∷ []) (hex (codes "4702030100000002010000000000000003"))
    ++ carried 2 Vote 2 (0 ∷ 1 ∷ 3 ∷ 4 ∷ []) (hex (codes "4702030200000002010000000000000003"))
    ++ carried 2 Vote 3 (0 ∷ 1 ∷ 2 ∷ 4 ∷ []) (hex (codes "4702030300000002010000000000000003"))
    ++ carried 2 Switch 0 (7 ∷ []) (hex (codes "47020600000000020f"))
    ++ carried 2 Switch 1 (7 ∷ []) (hex (codes "47020601000000020f"))
    ++ carried 2 Switch 2 (7 ∷ []) (hex (codes "47020602000000020f"))
    ++ carried 2 Switch 3 (7 ∷ []) (hex (codes "47020603000000020f"))

abbrev pub entries_3 : Log
entries_3 =
    carried 3 Request 4 (0 ∷ 1 ∷ 2 ∷ 3 ∷ []) (hex (codes "470201040000000300"))
    ++ carried 3 Round1 0 (1 ∷ 2 ∷ 3 ∷ []) (hex (codes "4702020000000003010101010000000000000005100100"))
    ++ carried 3 Round1 1 (0 ∷ 2 ∷ 3 ∷ []) (hex (codes "4702020100000003010101010000000000000005100100"))
    ++ carried 3 Round1 2 (0 ∷ 1 ∷ 3 ∷ []) (hex (codes "4702020200000003010101010000000000000005100100"))
    ++ carried 3 Round1 3 (0 ∷ 1 ∷ 2 ∷ []) (hex (codes "4702020300000003010101010000000000000005100100"))
    ++ carried 3 Round2 0 (1 ∷ 2 ∷ 3 ∷ []) (hex (codes "47020200000000030203010101000000000000000510010002010100000000000000051001000301010000000000000005100100"))
    ++ carried 3 Round2 1 (0 ∷ 2 ∷ 3 ∷ []) (hex (codes "47020201000000030203000101000000000000000510010002010100000000000000051001000301010000000000000005100100"))
    ++ carried 3 Round2 2 (0 ∷ 1 ∷ 3 ∷ []) (hex (codes "47020202000000030203000101000000000000000510010001010100000000000000051001000301010000000000000005100100"))
    ++ carried 3 Round2 3 (0 ∷ 1 ∷ 2 ∷ []) (hex (codes "47020203000000030203000101000000000000000510010001010100000000000000051001000201010000000000000005100100"))
    ++ carried 3 Vote 0 (1 ∷ 2 ∷ 3 ∷ []) (hex (codes "4702030000000003010000000000000004"))
    ++ carried 3 Vote 1 (0 ∷ 2 ∷ 3 ∷ []) (hex (codes "4702030100000003010000000000000004"))
    ++ carried 3 Vote 2 (0 ∷ 1 ∷ 3 ∷ []) (hex (codes "4702030200000003010000000000000004"))
    ++ carried 3 Vote 3 (0 ∷ 1 ∷ 2 ∷ []) (hex (codes "4702030300000003010000000000000004"))
    ++ carried 3 Sweep 0 (4 ∷ []) (hex (codes "4702040000000003040000000303000000000000000004000000000000000000000000000000000000000000000000000000000000000000000000000000000000000000000000000000000000000001fffffffffffffed4fffffffffffffed5fffffffffffffed6fffffffffffffed7fffffffffffffed8fffffffffffffed9fffffffffffffedafffffffffffffedb02ffffffffffffff38ffffffffffffff39ffffffffffffff3affffffffffffff3bffffffffffffff3cffffffffffffff3dffffffffffffff3effffffffffffff3f"))
    ++ carried 3 Sweep 1 (4 ∷ []) (hex (codes "4702040100000003040000000303000000000000000004000000000000000000000000000000000000000000000000000000000000000000000000000000000000000000000000000000000000000001fffffffffffffed4fffffffffffffed5fffffffffffffed6fffffffffffffed7fffffffffffffed8fffffffffffffed9fffffffffffffedafffffffffffffedb02ffffffffffffff38ffffffffffffff39ffffffffffffff3affffffffffffff3bffffffffffffff3cffffffffffffff3dffffffffffffff3effffffffffffff3f"))
    ++ carried 3 Sweep 2 (4 ∷ []) (hex (codes "4702040200000003040000000303000000000000000004000000000000000000000000000000000000000000000000000000000000000000000000000000000000000000000000000000000000000001fffffffffffffed4fffffffffffffed5fffffffffffffed6fffffffffffffed7fffffffffffffed8fffffffffffffed9fffffffffffffedafffffffffffffedb02ffffffffffffff38ffffffffffffff39ffffffffffffff3affffffffffffff3bffffffffffffff3cffffffffffffff3dffffffffffffff3effffffffffffff3f"))
    ++ carried 3 Sweep 3 (4 ∷ []) (hex (codes "4702040300000003040000000303000000000000000004000000000000000000000000000000000000000000000000000000000000000000000000000000000000000000000000000000000000000001fffffffffffffed4fffffffffffffed5fffffffffffffed6fffffffffffffed7fffffffffffffed8fffffffffffffed9fffffffffffffedafffffffffffffedb02ffffffffffffff38ffffffffffffff39ffffffffffffff3affffffffffffff3bffffffffffffff3cffffffffffffff3dffffffffffffff3effffffffffffff3f"))
    ++ carried 3 Switch 0 (7 ∷ []) (hex (codes "47020600000000030f"))
    ++ carried 3 Switch 1 (7 ∷ []) (hex (codes "47020601000000030f"))
    ++ carried 3 Switch 2 (7 ∷ []) (hex (codes "47020602000000030f"))
    ++ carried 3 Switch 3 (7 ∷ []) (hex (codes "47020603000000030f"))

abbrev pub entries_4 : Log
entries_4 =
    carried 4 Request 4 (0 ∷ 1 ∷ 2 ∷ 3 ∷ []) (hex (codes "47020104000000040100000003"))
    ++ carried 4 Round1 0 (1 ∷ 2 ∷ 3 ∷ []) (hex (codes "4702020000000004010101010000000000000005000100"))
    ++ carried 4 Round1 1 (0 ∷ 2 ∷ 3 ∷ []) (hex (codes "4702020100000004010101010000000000000005000100"))
    ++ carried 4 Round1 2 (0 ∷ 1 ∷ 3 ∷ []) (hex (codes "4702020200000004010101010000000000000005000100"))
    ++ carried 4 Round1 3 (0 ∷ 1 ∷ 2 ∷ []) (hex (codes "4702020300000004010101010000000000000005000100"))
    ++ carried 4 Round2 0 (1 ∷ 2 ∷ 3 ∷ []) (hex (codes "47020200000000040203010101000000000000000500010002010100000000000000050001000301010000000000000005000100"))
    ++ carried 4 Round2 1 (0 ∷ 2 ∷ 3 ∷ []) (hex (codes "47020201000000040203000101000000000000000500010002010100000000000000050001000301010000000000000005000100"))
    ++ carried 4 Round2 2 (0 ∷ 1 ∷ 3 ∷ []) (hex (codes "47020202000000040203000101000000000000000500010001010100000000000000050001000301010000000000000005000100"))
    ++ carried 4 Round2 3 (0 ∷ 1 ∷ 2 ∷ []) (hex (codes "47020203000000040203000101000000000000000500010001010100000000000000050001000201010000000000000005000100"))
    ++ carried 4 Vote 0 (1 ∷ 2 ∷ 3 ∷ []) (hex (codes "4702030000000004010000000000000005"))
    ++ carried 4 Vote 1 (0 ∷ 2 ∷ 3 ∷ []) (hex (codes "4702030100000004010000000000000005"))
    ++ carried 4 Vote 2 (0 ∷ 1 ∷ 3 ∷ []) (hex (codes "4702030200000004010000000000000005"))
    ++ carried 4 Vote 3 (0 ∷ 1 ∷ 2 ∷ []) (hex (codes "4702030300000004010000000000000005"))
    ++ carried 4 Sweep 0 (4 ∷ []) (hex (codes "470204000000000404000000030303ffffffffffffff9cffffffffffffff9dffffffffffffff9effffffffffffff9fffffffffffffffa0ffffffffffffffa1ffffffffffffffa2ffffffffffffffa3040000000000000000000000000000000100000000000000020000000000000003000000000000000400000000000000050000000000000006000000000000000705000000000000006400000000000000650000000000000066000000000000006700000000000000680000000000000069000000000000006a000000000000006b"))
    ++ carried 4 Sweep 1 (4 ∷ []) (hex (codes "470204010000000404000000030303ffffffffffffff9cffffffffffffff9dffffffffffffff9effffffffffffff9fffffffffffffffa0ffffffffffffffa1ffffffffffffffa2ffffffffffffffa3040000000000000000000000000000000100000000000000020000000000000003000000000000000400000000000000050000000000000006000000000000000705000000000000006400000000000000650000000000000066000000000000006700000000000000680000000000000069000000000000006a000000000000006b"))
    ++ carried 4 Sweep 2 (4 ∷ []) (hex (codes "470204020000000404000000030303ffffffffffffff9cffffffffffffff9dffffffffffffff9effffffffffffff9fffffffffffffffa0ffffffffffffffa1ffffffffffffffa2ffffffffffffffa3040000000000000000000000000000000100000000000000020000000000000003000000000000000400000000000000050000000000000006000000000000000705000000000000006400000000000000650000000000000066000000000000006700000000000000680000000000000069000000000000006a000000000000006b"))
    ++ carried 4 Sweep 3 (4 ∷ []) (hex (codes "470204030000000404000000030303ffffffffffffff9cffffffffffffff9dffffffffffffff9effffffffffffff9fffffffffffffffa0ffffffffffffffa1ffffffffffffffa2ffffffffffffffa3040000000000000000000000000000000100000000000000020000000000000003000000000000000400000000000000050000000000000006000000000000000705000000000000006400000000000000650000000000000066000000000000006700000000000000680000000000000069000000000000006a000000000000006b"))
    ++ carried 4 Switch 0 (7 ∷ []) (hex (codes "47020600000000040f"))
    ++ carried 4 Switch 1 (7 ∷ []) (hex (codes "47020601000000040f"))
    ++ carried 4 Switch 2 (7 ∷ []) (hex (codes "47020602000000040f"))
    ++ carried 4 Switch 3 (7 ∷ []) (hex (codes "47020603000000040f"))

abbrev pub entries_5 : Log
entries_5 =
    carried 5 Request 4 (0 ∷ 1 ∷ 2 ∷ 3 ∷ []) (hex (codes "47020104000000050100000003"))
    ++ carried 5 Round1 0 (1 ∷ 2 ∷ 3 ∷ []) (hex (codes "4702020000000005010101010000000000000005000200"))
    ++ carried 5 Round1 1 (0 ∷ 2 ∷ 3 ∷ []) (hex (codes "4702020100000005010101010000000000000005000200"))
    ++ carried 5 Round1 2 (0 ∷ 1 ∷ 3 ∷ []) (hex (codes "4702020200000005010101010000000000000005000200"))
    ++ carried 5 Round1 3 (0 ∷ 1 ∷ 2 ∷ []) (hex (codes "4702020300000005010101010000000000000005000200"))
    ++ carried 5 Round2 0 (1 ∷ 2 ∷ 3 ∷ []) (hex (codes "47020200000000050203010101000000000000000500020002010100000000000000050002000301010000000000000005000200"))
    ++ carried 5 Round2 1 (0 ∷ 2 ∷ 3 ∷ []) (hex (codes "47020201000000050203000101000000000000000500020002010100000000000000050002000301010000000000000005000200"))
    ++ carried 5 Round2 2 (0 ∷ 1 ∷ 3 ∷ []) (hex (codes "47020202000000050203000101000000000000000500020001010100000000000000050002000301010000000000000005000200"))
    ++ carried 5 Round2 3 (0 ∷ 1 ∷ 2 ∷ []) (hex (codes "47020203000000050203000101000000000000000500020001010100000000000000050002000201010000000000000005000200"))
    ++ carried 5 Vote 0 (1 ∷ 2 ∷ 3 ∷ []) (hex (codes "4702030000000005010000000000000006"))
    ++ carried 5 Vote 1 (0 ∷ 2 ∷ 3 ∷ []) (hex (codes "4702030100000005010000000000000006"))
    ++ carried 5 Vote 2 (0 ∷ 1 ∷ 3 ∷ []) (hex (codes "4702030200000005010000000000000006"))
    ++ carried 5 Vote 3 (0 ∷ 1 ∷ 2 ∷ []) (hex (codes "4702030300000005010000000000000006"))
    ++ carried 5 Sweep 0 (4 ∷ []) (hex (codes "47020400000000050400000003030600000000000000c800000000000000c900000000000000ca00000000000000cb00000000000000cc00000000000000cd00000000000000ce00000000000000cf07000000000000012c000000000000012d000000000000012e000000000000012f00000000000001300000000000000131000000000000013200000000000001330000000000000000060000000000000000000000000000000000000000000000000000000000000000000000000000000000000000000000000000000000000000"))
    ++ carried 5 Sweep 1 (4 ∷ []) (hex (codes "47020401000000050400000003030600000000000000c800000000000000c900000000000000ca00000000000000cb00000000000000cc00000000000000cd00000000000000ce00000000000000cf07000000000000012c000000000000012d000000000000012e000000000000012f00000000000001300000000000000131000000000000013200000000000001330000000000000000060000000000000000000000000000000000000000000000000000000000000000000000000000000000000000000000000000000000000000"))
    ++ carried 5 Sweep 2 (4 ∷ []) (hex (codes "47020402000000050400000003030600000000000000c800000000000000c900000000000000ca00000000000000cb00000000000000cc00000000000000cd00000000000000ce00000000000000cf07000000000000012c000000000000012d000000000000012e000000000000012f00000000000001300000000000000131000000000000013200000000000001330000000000000000060000000000000000000000000000000000000000000000000000000000000000000000000000000000000000000000000000000000000000"))
    ++ carried 5 Sweep 3 (4 ∷ []) (hex (codes "47020403000000050400000003030600000000000000c800000000000000c900000000000000ca00000000000000cb00000000000000cc00000000000000cd00000000000000ce00000000000000cf07000000000000012c000000000000012d000000000000012e000000000000012f00000000000001300000000000000131000000000000013200000000000001330000000000000000060000000000000000000000000000000000000000000000000000000000000000000000000000000000000000000000000000000000000000"))
    ++ carried 5 Final 0 (4 ∷ []) (hex (codes "47020500000000050400000003010000000000000000060000000000000000000000000000000000000000000000000000000000000000000000000000000000000000000000000000000000000000021f1000000000000000000000000000000000000000000000000000000000"))
    ++ carried 5 Final 1 (4 ∷ []) (hex (codes "47020501000000050400000003010000000000000000060000000000000000000000000000000000000000000000000000000000000000000000000000000000000000000000000000000000000000021f1000000000000000000000000000000000000000000000000000000000"))
    ++ carried 5 Final 2 (4 ∷ []) (hex (codes "47020502000000050400000003010000000000000000060000000000000000000000000000000000000000000000000000000000000000000000000000000000000000000000000000000000000000021f1000000000000000000000000000000000000000000000000000000000"))
    ++ carried 5 Final 3 (4 ∷ []) (hex (codes "47020503000000050400000003010000000000000000060000000000000000000000000000000000000000000000000000000000000000000000000000000000000000000000000000000000000000021f1000000000000000000000000000000000000000000000000000000000"))
    ++ carried 5 Switch 0 (7 ∷ []) (hex (codes "47020600000000051f"))
    ++ carried 5 Switch 1 (7 ∷ []) (hex (codes "47020601000000051f"))
    ++ carried 5 Switch 2 (7 ∷ []) (hex (codes "47020602000000051f"))
    ++ carried 5 Switch 3 (7 ∷ []) (hex (codes "47020603000000051f"))

abbrev pub entries_6 : Log
entries_6 =
    carried 6 Round1 0 (1 ∷ 2 ∷ 3 ∷ 4 ∷ []) (hex (codes "4702020000000006010101010000000000000005000200"))
    ++ carried 6 Round1 1 (0 ∷ 2 ∷ 3 ∷ 4 ∷ []) (hex (codes "4702020100000006010101010000000000000005000200"))
    ++ carried 6 Round1 2 (0 ∷ 1 ∷ 3 ∷ 4 ∷ []) (hex (codes "4702020200000006010101010000000000000005000200"))
    ++ carried 6 Round1 3 (0 ∷ 1 ∷ 2 ∷ 4 ∷ []) (hex (codes "4702020300000006010101010000000000000005000200"))
    ++ carried 6 Round1 4 (0 ∷ 1 ∷ 2 ∷ 3 ∷ []) (hex (codes "4702020400000006010101010000000000000005000000"))
    ++ carried 6 Round2 0 (1 ∷ 2 ∷ 3 ∷ 4 ∷ []) (hex (codes "470202000000000602040101010000000000000005000200020101000000000000000500020003010100000000000000050002000401010000000000000005000000"))
    ++ carried 6 Round2 1 (0 ∷ 2 ∷ 3 ∷ 4 ∷ []) (hex (codes "470202010000000602040001010000000000000005000200020101000000000000000500020003010100000000000000050002000401010000000000000005000000"))
    ++ carried 6 Round2 2 (0 ∷ 1 ∷ 3 ∷ 4 ∷ []) (hex (codes "470202020000000602040001010000000000000005000200010101000000000000000500020003010100000000000000050002000401010000000000000005000000"))
    ++ carried 6 Round2 3 (0 ∷ 1 ∷ 2 ∷ 4 ∷ []) (hex (codes "470202030000000602040001010000000000000005000200010101000000000000000500020002010100000000000000050002000401010000000000000005000000"))
    ++ carried 6 Round2 4 (0 ∷ 1 ∷ 2 ∷ 3 ∷ []) (hex (codes "470202040000000602040001010000000000000005000200010101000000000000000500020002010100000000000000050002000301010000000000000005000200"))
    ++ carried 6 Vote 0 (1 ∷ 2 ∷ 3 ∷ 4 ∷ []) (hex (codes "4702030000000006010000000000000007"))
    ++ carried 6 Vote 1 (0 ∷ 2 ∷ 3 ∷ 4 ∷ []) (hex (codes "4702030100000006010000000000000007"))
    ++ carried 6 Vote 2 (0 ∷ 1 ∷ 3 ∷ 4 ∷ []) (hex (codes "4702030200000006010000000000000007"))
    ++ carried 6 Vote 3 (0 ∷ 1 ∷ 2 ∷ 4 ∷ []) (hex (codes "4702030300000006010000000000000007"))
    ++ carried 6 Vote 4 (0 ∷ 1 ∷ 2 ∷ 3 ∷ []) (hex (codes "4702030400000006010000000000000007"))
    ++ carried 6 Switch 0 (7 ∷ []) (hex (codes "47020600000000061f"))
    ++ carried 6 Switch 1 (7 ∷ []) (hex (codes "47020601000000061f"))
    ++ carried 6 Switch 2 (7 ∷ []) (hex (codes "47020602000000061f"))
    ++ carried 6 Switch 3 (7 ∷ []) (hex (codes "47020603000000061f"))
    ++ carried 6 Switch 4 (7 ∷ []) (hex (codes "47020604000000061f"))

abbrev pub log : Log
log = entries_0 ++ entries_1 ++ entries_2 ++ entries_3 ++ entries_4 ++ entries_5 ++ entries_6

-- the latest cycle stands first
abbrev pub histories : Histories
histories =
    ((step.Task ∷ []) ∷ (step.Task ∷ []) ∷ (step.Task ∷ []) ∷ (step.Task ∷ []) ∷ (step.Task ∷ []) ∷ []) ∷
    ((step.Task ∷ step.Sweep ∷ step.Sweep ∷ step.Sweep ∷ []) ∷ (step.Task ∷ step.Sweep ∷ step.Sweep ∷ step.Sweep ∷ []) ∷ (step.Task ∷ step.Sweep ∷ step.Sweep ∷ step.Sweep ∷ []) ∷ (step.Task ∷ step.Sweep ∷ step.Sweep ∷ step.Sweep ∷ []) ∷ ([]) ∷ []) ∷
    ((step.Task ∷ step.Sweep ∷ step.Sweep ∷ step.Sweep ∷ []) ∷ (step.Task ∷ step.Sweep ∷ step.Sweep ∷ step.Sweep ∷ []) ∷ (step.Task ∷ step.Sweep ∷ step.Sweep ∷ step.Sweep ∷ []) ∷ (step.Task ∷ step.Sweep ∷ step.Sweep ∷ step.Sweep ∷ []) ∷ ([]) ∷ []) ∷
    ((step.Task ∷ step.Sweep ∷ step.Sweep ∷ step.Sweep ∷ []) ∷ (step.Task ∷ step.Sweep ∷ step.Sweep ∷ step.Sweep ∷ []) ∷ (step.Task ∷ step.Sweep ∷ step.Sweep ∷ step.Sweep ∷ []) ∷ (step.Task ∷ step.Sweep ∷ step.Sweep ∷ step.Sweep ∷ []) ∷ ([]) ∷ []) ∷
    ((step.Task ∷ []) ∷ (step.Task ∷ []) ∷ (step.Task ∷ []) ∷ (step.Task ∷ []) ∷ ([]) ∷ []) ∷
    ((step.Task ∷ []) ∷ (step.Task ∷ []) ∷ (step.Task ∷ []) ∷ (step.Task ∷ []) ∷ ([]) ∷ []) ∷
    ((step.Task ∷ []) ∷ (step.Task ∷ []) ∷ (step.Task ∷ []) ∷ (step.Task ∷ []) ∷ ([]) ∷ []) ∷
    []

abbrev pub text : List ℕ
text =
    codes "guards channels 5 cycles 7\n"
    ++ codes "cycle 0 active 0,1,2,3,4 transfer -\n"
    ++ codes "ch 0 in 5 vote 1 judged 4 alpha 0,0,0,0,65536\n"
    ++ codes "ch 1 in 5 vote 1 judged 4 alpha 0,0,0,0,65536\n"
    ++ codes "ch 2 in 5 vote 1 judged 4 alpha 0,0,0,0,65536\n"
    ++ codes "ch 3 in 5 vote 1 judged 4 alpha 0,0,0,0,65536\n"
    ++ codes "end removed - joined - remaining -\n"
    ++ codes "cycle 1 active 0,1,2,3,4 transfer -\n"
    ++ codes "ch 0 in 5 vote 2 judged 4 alpha 0,0,0,0,131072\n"
    ++ codes "ch 1 in 5 vote 2 judged 4 alpha 0,0,0,0,131072\n"
    ++ codes "ch 2 in 5 vote 2 judged 4 alpha 0,0,0,0,131072\n"
    ++ codes "ch 3 in 5 vote 2 judged 4 alpha 0,0,0,0,131072\n"
    ++ codes "end removed - joined - remaining -\n"
    ++ codes "cycle 2 active 0,1,2,3,4 transfer -\n"
    ++ codes "ch 0 in 5 vote 3 judged 4 alpha 0,0,0,0,196608\n"
    ++ codes "ch 1 in 5 vote 3 judged 4 alpha 0,0,0,0,196608\n"
    ++ codes "ch 2 in 5 vote 3 judged 4 alpha 0,0,0,0,196608\n"
    ++ codes "ch 3 in 5 vote 3 judged 4 alpha 0,0,0,0,196608\n"
    ++ codes "end removed 4 joined - remaining -\n"
    ++ codes "cycle 3 active 0,1,2,3 transfer 4@3\n"
    ++ codes "ch 0 in 5 vote 4 judged - alpha 0,0,0,0,0\n"
    ++ codes "ch 1 in 5 vote 4 judged - alpha 0,0,0,0,0\n"
    ++ codes "ch 2 in 5 vote 4 judged - alpha 0,0,0,0,0\n"
    ++ codes "ch 3 in 5 vote 4 judged - alpha 0,0,0,0,0\n"
    ++ codes "end removed - joined - remaining 6\n"
    ++ codes "cycle 4 active 0,1,2,3 transfer 4@3\n"
    ++ codes "ch 0 in 5 vote 5 judged - alpha 0,0,0,0,0\n"
    ++ codes "ch 1 in 5 vote 5 judged - alpha 0,0,0,0,0\n"
    ++ codes "ch 2 in 5 vote 5 judged - alpha 0,0,0,0,0\n"
    ++ codes "ch 3 in 5 vote 5 judged - alpha 0,0,0,0,0\n"
    ++ codes "end removed - joined - remaining 3\n"
    ++ codes "cycle 5 active 0,1,2,3 transfer 4@3\n"
    ++ codes "ch 0 in 5 vote 6 judged - alpha 0,0,0,0,0\n"
    ++ codes "ch 1 in 5 vote 6 judged - alpha 0,0,0,0,0\n"
    ++ codes "ch 2 in 5 vote 6 judged - alpha 0,0,0,0,0\n"
    ++ codes "ch 3 in 5 vote 6 judged - alpha 0,0,0,0,0\n"
    ++ codes "end removed - joined 4 remaining 1\n"
    ++ codes "cycle 6 active 0,1,2,3,4 transfer -\n"
    ++ codes "ch 0 in 5 vote 7 judged - alpha 0,0,0,0,0\n"
    ++ codes "ch 1 in 5 vote 7 judged - alpha 0,0,0,0,0\n"
    ++ codes "ch 2 in 5 vote 7 judged - alpha 0,0,0,0,0\n"
    ++ codes "ch 3 in 5 vote 7 judged - alpha 0,0,0,0,0\n"
    ++ codes "ch 4 in 5 vote 7 judged - alpha 0,0,0,0,0\n"
    ++ codes "end removed - joined - remaining -\n"
    ++ codes "done 7\n"

abbrev pub run : WorkedRun
run = record { mission = mission; log = log; histories = histories; text = text }

abbrev pub joined_4 : WorkedJoin
joined_4 =
    record {
      channel = 4;
      cycle = 5;
      replica = record { have = Some 3; blocks = (pos 6 ∷ pos 0 ∷ pos 0 ∷ pos 0 ∷ pos 0 ∷ pos 0 ∷ pos 0 ∷ pos 0 ∷ []) ∷ (negsuc 299 ∷ negsuc 298 ∷ negsuc 297 ∷ negsuc 296 ∷ negsuc 295 ∷ negsuc 294 ∷ negsuc 293 ∷ negsuc 292 ∷ []) ∷ (negsuc 199 ∷ negsuc 198 ∷ negsuc 197 ∷ negsuc 196 ∷ negsuc 195 ∷ negsuc 194 ∷ negsuc 193 ∷ negsuc 192 ∷ []) ∷ (negsuc 99 ∷ negsuc 98 ∷ negsuc 97 ∷ negsuc 96 ∷ negsuc 95 ∷ negsuc 94 ∷ negsuc 93 ∷ negsuc 92 ∷ []) ∷ (pos 0 ∷ pos 1 ∷ pos 2 ∷ pos 3 ∷ pos 4 ∷ pos 5 ∷ pos 6 ∷ pos 7 ∷ []) ∷ (pos 100 ∷ pos 101 ∷ pos 102 ∷ pos 103 ∷ pos 104 ∷ pos 105 ∷ pos 106 ∷ pos 107 ∷ []) ∷ (pos 200 ∷ pos 201 ∷ pos 202 ∷ pos 203 ∷ pos 204 ∷ pos 205 ∷ pos 206 ∷ pos 207 ∷ []) ∷ (pos 300 ∷ pos 301 ∷ pos 302 ∷ pos 303 ∷ pos 304 ∷ pos 305 ∷ pos 306 ∷ pos 307 ∷ []) ∷ [] };
      content = record {
        target = 4;
        start = 3;
        copies = record { block = 0; words = (pos 6 ∷ pos 0 ∷ pos 0 ∷ pos 0 ∷ pos 0 ∷ pos 0 ∷ pos 0 ∷ pos 0 ∷ []) } ∷ [];
        control = record {
          law = Subtract;
          active = 0 ∷ 1 ∷ 2 ∷ 3 ∷ 4 ∷ [];
          fresh = 4 ∷ [];
          counts = 0 ∷ 0 ∷ 0 ∷ 0 ∷ 0 ∷ 0 ∷ 0 ∷ [];
        };
      };
      context = (pos 6 ∷ pos 0 ∷ pos 0 ∷ pos 0 ∷ pos 0 ∷ pos 0 ∷ pos 0 ∷ pos 0 ∷ []) ∷ (negsuc 299 ∷ negsuc 298 ∷ negsuc 297 ∷ negsuc 296 ∷ negsuc 295 ∷ negsuc 294 ∷ negsuc 293 ∷ negsuc 292 ∷ []) ∷ (negsuc 199 ∷ negsuc 198 ∷ negsuc 197 ∷ negsuc 196 ∷ negsuc 195 ∷ negsuc 194 ∷ negsuc 193 ∷ negsuc 192 ∷ []) ∷ (negsuc 99 ∷ negsuc 98 ∷ negsuc 97 ∷ negsuc 96 ∷ negsuc 95 ∷ negsuc 94 ∷ negsuc 93 ∷ negsuc 92 ∷ []) ∷ (pos 0 ∷ pos 1 ∷ pos 2 ∷ pos 3 ∷ pos 4 ∷ pos 5 ∷ pos 6 ∷ pos 7 ∷ []) ∷ (pos 100 ∷ pos 101 ∷ pos 102 ∷ pos 103 ∷ pos 104 ∷ pos 105 ∷ pos 106 ∷ pos 107 ∷ []) ∷ (pos 200 ∷ pos 201 ∷ pos 202 ∷ pos 203 ∷ pos 204 ∷ pos 205 ∷ pos 206 ∷ pos 207 ∷ []) ∷ (pos 300 ∷ pos 301 ∷ pos 302 ∷ pos 303 ∷ pos 304 ∷ pos 305 ∷ pos 306 ∷ pos 307 ∷ []) ∷ [];
    }
