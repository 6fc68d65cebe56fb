-- Written by tools/worked_runs.py.
-- A transfer is aborted since its requests are lost, and its target, still joining, names the old start.
use Rattle.std.specs.Prelude.{ℕ, List, [], ◌∷◌, ◌++◌, Some, None, pos, negsuc, replicate, codes}
use Rattle.guards_model.specs.declared.Slot.TheVariants.{Request, Round1, Round2, Vote, Sweep, Final, Switch}
use Rattle.guards_model.specs.declared.Op.TheVariants.{Add}
use Rattle.guards_model.specs.declared.Law.TheVariants.{Multiply}
use Rattle.guards_model.specs.declared.Actor.TheVariants as step
use Rattle.guards_model.specs.Contexts.{zero_block}
use Rattle.guards_model.specs.Expressions.{number, block_word, binary}
use Rattle.guards_model.specs.Faults.{crash, restart, bus}
use Rattle.guards_model.specs.BusRules.{lose}
use Rattle.guards_model.specs.Missions.{MissionValue}
use Rattle.guards_model.specs.Network.{Log}
use Rattle.guards_model.specs.Rounds.{Histories}
use Rattle.model_rows.specs.Worked.{hex, carried, lost, WorkedRun, WorkedJoin}

abbrev pub mission : MissionValue
mission =
    record {
      rules = record {
        channels = 5;
        blocks = 8;
        version = 1;
        law = Multiply;
        keep = 32768;
        decrement = 32768;
        threshold = 6553600;
        sweep = 3;
        last = 2;
        returning = 1;
      };
      cycles = 9;
      width = 1;
      return_after = 2;
      initial = zero_block ∷ (negsuc 299 ∷ negsuc 298 ∷ negsuc 297 ∷ negsuc 296 ∷ negsuc 295 ∷ negsuc 294 ∷ negsuc 293 ∷ negsuc 292 ∷ []) ∷ (negsuc 199 ∷ negsuc 198 ∷ negsuc 197 ∷ negsuc 196 ∷ negsuc 195 ∷ negsuc 194 ∷ negsuc 193 ∷ negsuc 192 ∷ []) ∷ (negsuc 99 ∷ negsuc 98 ∷ negsuc 97 ∷ negsuc 96 ∷ negsuc 95 ∷ negsuc 94 ∷ negsuc 93 ∷ negsuc 92 ∷ []) ∷ (pos 0 ∷ pos 1 ∷ pos 2 ∷ pos 3 ∷ pos 4 ∷ pos 5 ∷ pos 6 ∷ pos 7 ∷ []) ∷ (pos 100 ∷ pos 101 ∷ pos 102 ∷ pos 103 ∷ pos 104 ∷ pos 105 ∷ pos 106 ∷ pos 107 ∷ []) ∷ (pos 200 ∷ pos 201 ∷ pos 202 ∷ pos 203 ∷ pos 204 ∷ pos 205 ∷ pos 206 ∷ pos 207 ∷ []) ∷ (pos 300 ∷ pos 301 ∷ pos 302 ∷ pos 303 ∷ pos 304 ∷ pos 305 ∷ pos 306 ∷ pos 307 ∷ []) ∷ [];
      table = (record { name = codes "count"; writes = record { block = 0; set = Some (binary Add (block_word 0 0) (number (pos 1))) ∷ replicate 7 None } ∷ [] } ∷ []) ∷ [];
      outputs = (0, 0) ∷ [];
      sensors = ((pos 5 ∷ []) ∷ (pos 5 ∷ []) ∷ (pos 5 ∷ []) ∷ (pos 5 ∷ []) ∷ (pos 5 ∷ []) ∷ []) ∷ [];
      script = crash 4 0 Request ∷
          restart 4 1 ∷
          bus (record { cycle = 3; slot = Request; from = 4; to = None; act = lose }) ∷
          [];
      actuator = None;
    }

abbrev pub entries_0 : Log
entries_0 =
    carried 0 Round1 0 (1 ∷ 2 ∷ 3 ∷ 4 ∷ []) (hex (codes "4701020000000000010101010000000000000005000000"))
    ++ carried 0 Round1 1 (0 ∷ 2 ∷ 3 ∷ 4 ∷ []) (hex (codes "4701020100000000010101010000000000000005000000"))
    ++ carried 0 Round1 2 (0 ∷ 1 ∷ 3 ∷ 4 ∷ []) (hex (codes "4701020200000000010101010000000000000005000000"))
    ++ carried 0 Round1 3 (0 ∷ 1 ∷ 2 ∷ 4 ∷ []) (hex (codes "4701020300000000010101010000000000000005000000"))
    ++ carried 0 Round2 0 (1 ∷ 2 ∷ 3 ∷ 4 ∷ []) (hex (codes "470102000000000002040101010000000000000005000000020101000000000000000500000003010100000000000000050000000400"))
    ++ carried 0 Round2 1 (0 ∷ 2 ∷ 3 ∷ 4 ∷ []) (hex (codes "470102010000000002040001010000000000000005000000020101000000000000000500000003010100000000000000050000000400"))
    ++ carried 0 Round2 2 (0 ∷ 1 ∷ 3 ∷ 4 ∷ []) (hex (codes "470102020000000002040001010000000000000005000000010101000000000000000500000003010100000000000000050000000400"))
    ++ carried 0 Round2 3 (0 ∷ 1 ∷ 2 ∷ 4 ∷ []) (hex (codes "470102030000000002040001010000000000000005000000010101000000000000000500000002010100000000000000050000000400"))
    ++ carried 0 Vote 0 (1 ∷ 2 ∷ 3 ∷ 4 ∷ []) (hex (codes "4701030000000000010000000000000001"))
    ++ carried 0 Vote 1 (0 ∷ 2 ∷ 3 ∷ 4 ∷ []) (hex (codes "4701030100000000010000000000000001"))
    ++ carried 0 Vote 2 (0 ∷ 1 ∷ 3 ∷ 4 ∷ []) (hex (codes "4701030200000000010000000000000001"))
    ++ carried 0 Vote 3 (0 ∷ 1 ∷ 2 ∷ 4 ∷ []) (hex (codes "4701030300000000010000000000000001"))
    ++ carried 0 Switch 0 (7 ∷ []) (hex (codes "47010600000000001f"))
    ++ carried 0 Switch 1 (7 ∷ []) (hex (codes "47010601000000001f"))
    ++ carried 0 Switch 2 (7 ∷ []) (hex (codes "47010602000000001f"))
    ++ carried 0 Switch 3 (7 ∷ []) (hex (codes "47010603000000001f"))

abbrev pub entries_1 : Log
entries_1 =
    carried 1 Request 4 (0 ∷ 1 ∷ 2 ∷ 3 ∷ []) (hex (codes "470101040000000100"))
    ++ carried 1 Round1 0 (1 ∷ 2 ∷ 3 ∷ 4 ∷ []) (hex (codes "4701020000000001010101010000000000000005100000"))
    ++ carried 1 Round1 1 (0 ∷ 2 ∷ 3 ∷ 4 ∷ []) (hex (codes "4701020100000001010101010000000000000005100000"))
    ++ carried 1 Round1 2 (0 ∷ 1 ∷ 3 ∷ 4 ∷ []) (hex (codes "4701020200000001010101010000000000000005100000"))
    ++ carried 1 Round1 3 (0 ∷ 1 ∷ 2 ∷ 4 ∷ []) (hex (codes "4701020300000001010101010000000000000005100000"))
    ++ carried 1 Round2 0 (1 ∷ 2 ∷ 3 ∷ 4 ∷ []) (hex (codes "470102000000000102040101010000000000000005100000020101000000000000000510000003010100000000000000051000000400"))
    ++ carried 1 Round2 1 (0 ∷ 2 ∷ 3 ∷ 4 ∷ []) (hex (codes "470102010000000102040001010000000000000005100000020101000000000000000510000003010100000000000000051000000400"))
    ++ carried 1 Round2 2 (0 ∷ 1 ∷ 3 ∷ 4 ∷ []) (hex (codes "470102020000000102040001010000000000000005100000010101000000000000000510000003010100000000000000051000000400"))
    ++ carried 1 Round2 3 (0 ∷ 1 ∷ 2 ∷ 4 ∷ []) (hex (codes "470102030000000102040001010000000000000005100000010101000000000000000510000002010100000000000000051000000400"))
    ++ carried 1 Vote 0 (1 ∷ 2 ∷ 3 ∷ 4 ∷ []) (hex (codes "4701030000000001010000000000000002"))
    ++ carried 1 Vote 1 (0 ∷ 2 ∷ 3 ∷ 4 ∷ []) (hex (codes "4701030100000001010000000000000002"))
    ++ carried 1 Vote 2 (0 ∷ 1 ∷ 3 ∷ 4 ∷ []) (hex (codes "4701030200000001010000000000000002"))
    ++ carried 1 Vote 3 (0 ∷ 1 ∷ 2 ∷ 4 ∷ []) (hex (codes "4701030300000001010000000000000002"))
    ++ carried 1 Switch 0 (7 ∷ []) (hex (codes "47010600000000011f"))
    ++ carried 1 Switch 1 (7 ∷ []) (hex (codes "47010601000000011f"))
    ++ carried 1 Switch 2 (7 ∷ []) (hex (codes "47010602000000011f"))
    ++ carried 1 Switch 3 (7 ∷ []) (hex (codes "47010603000000011f"))

abbrev pub entries_2 : Log
entries_2 =
    carried 2 Request 4 (0 ∷ 1 ∷ 2 ∷ 3 ∷ []) (hex (codes "470101040000000200"))
    ++ carried 2 Round1 0 (1 ∷ 2 ∷ 3 ∷ 4 ∷ []) (hex (codes "4701020000000002010101010000000000000005100100"))
    ++ carried 2 Round1 1 (0 ∷ 2 ∷ 3 ∷ 4 ∷ []) (hex (codes "4701020100000002010101010000000000000005100100"))
    ++ carried 2 Round1 2 (0 ∷ 1 ∷ 3 ∷ 4 ∷ []) (hex (codes "4701020200000002010101010000000000000005100100"))
    ++ carried 2 Round1 3 (0 ∷ 1 ∷ 2 ∷ 4 ∷ []) (hex (codes "4701020300000002010101010000000000000005100100"))
    ++ carried 2 Round2 0 (1 ∷ 2 ∷ 3 ∷ 4 ∷ []) (hex (codes "470102000000000202040101010000000000000005100100020101000000000000000510010003010100000000000000051001000400"))
    ++ carried 2 Round2 1 (0 ∷ 2 ∷ 3 ∷ 4 ∷ []) (hex (codes "470102010000000202040001010000000000000005100100020101000000000000000510010003010100000000000000051001000400"))
    ++ carried 2 Round2 2 (0 ∷ 1 ∷ 3 ∷ 4 ∷ []) (hex (codes "470102020000000202040001010000000000000005100100010101000000000000000510010003010100000000000000051001000400"))
    ++ carried 2 Round2 3 (0 ∷ 1 ∷ 2 ∷ 4 ∷ []) (hex (codes "470102030000000202040001010000000000000005100100010101000000000000000510010002010100000000000000051001000400"))
    ++ carried 2 Vote 0 (1 ∷ 2 ∷ 3 ∷ 4 ∷ []) (hex (codes "4701030000000002010000000000000003"))
    ++ carried 2 Vote 1 (0 ∷ 2 ∷ 3 ∷ 4 ∷ []) (hex (codes "4701030100000002010000000000000003"))
    ++ carried 2 Vote 2 (0 ∷ 1 ∷ 3 ∷ 4 ∷ []) (hex (codes "4701030200000002010000000000000003"))
    ++ carried 2 Vote 3 (0 ∷ 1 ∷ 2 ∷ 4 ∷ []) (hex (codes "4701030300000002010000000000000003"))
    ++ carried 2 Switch 0 (7 ∷ []) (hex (codes "47010600000000020f"))
    ++ carried 2 Switch 1 (7 ∷ []) (hex (codes "47010601000000020f"))
    ++ carried 2 Switch 2 (7 ∷ []) (hex (codes "47010602000000020f"))
    ++ carried 2 Switch 3 (7 ∷ []) (hex (codes "47010603000000020f"))

abbrev pub entries_3 : Log
entries_3 =
    lost 3 Request 4 (0 ∷ 1 ∷ 2 ∷ 3 ∷ []) (hex (codes "470101040000000300"))
    ++ carried 3 Round1 0 (1 ∷ 2 ∷ 3 ∷ []) (hex (codes "4701020000000003010101010000000000000005100100"))
    ++ carried 3 Round1 1 (0 ∷ 2 ∷ 3 ∷ []) (hex (codes "4701020100000003010101010000000000000005100100"))
    ++ carried 3 Round1 2 (0 ∷ 1 ∷ 3 ∷ []) (hex (codes "4701020200000003010101010000000000000005100100"))
    ++ carried 3 Round1 3 (0 ∷ 1 ∷ 2 ∷ []) (hex (codes "4701020300000003010101010000000000000005100100"))
    ++ carried 3 Round2 0 (1 ∷ 2 ∷ 3 ∷ []) (hex (codes "47010200000000030203010101000000000000000510010002010100000000000000051001000301010000000000000005100100"))
    ++ carried 3 Round2 1 (0 ∷ 2 ∷ 3 ∷ []) (hex (codes "47010201000000030203000101000000000000000510010002010100000000000000051001000301010000000000000005100100"))
    ++ carried 3 Round2 2 (0 ∷ 1 ∷ 3 ∷ []) (hex (codes "47010202000000030203000101000000000000000510010001010100000000000000051001000301010000000000000005100100"))
    ++ carried 3 Round2 3 (0 ∷ 1 ∷ 2 ∷ []) (hex (codes "47010203000000030203000101000000000000000510010001010100000000000000051001000201010000000000000005100100"))
    ++ carried 3 Vote 0 (1 ∷ 2 ∷ 3 ∷ []) (hex (codes "4701030000000003010000000000000004"))
    ++ carried 3 Vote 1 (0 ∷ 2 ∷ 3 ∷ []) (hex (codes "4701030100000003010000000000000004"))
    ++ carried 3 Vote 2 (0 ∷ 1 ∷ 3 ∷ []) (hex (codes "4701030200000003010000000000000004"))
    ++ carried 3 Vote 3 (0 ∷ 1 ∷ 2 ∷ []) (hex (codes "4701030300000003010000000000000004"))
    ++ carried 3 Sweep 0 (4 ∷ []) (hex (codes "4701040000000003040000000303000000000000000004000000000000000000000000000000000000000000000000000000000000000000000000000000000000000000000000000000000000000001fffffffffffffed4fffffffffffffed5fffffffffffffed6fffffffffffffed7fffffffffffffed8fffffffffffffed9fffffffffffffedafffffffffffffedb02ffffffffffffff38ffffffffffffff39ffffffffffffff3affffffffffffff3bffffffffffffff3cffffffffffffff3dffffffffffffff3effffffffffffff3f"))
    ++ carried 3 Sweep 1 (4 ∷ []) (hex (codes "4701040100000003040000000303000000000000000004000000000000000000000000000000000000000000000000000000000000000000000000000000000000000000000000000000000000000001fffffffffffffed4fffffffffffffed5fffffffffffffed6fffffffffffffed7fffffffffffffed8fffffffffffffed9fffffffffffffedafffffffffffffedb02ffffffffffffff38ffffffffffffff39ffffffffffffff3affffffffffffff3bffffffffffffff3cffffffffffffff3dffffffffffffff3effffffffffffff3f"))
    ++ carried 3 Sweep 2 (4 ∷ []) (hex (codes "4701040200000003040000000303000000000000000004000000000000000000000000000000000000000000000000000000000000000000000000000000000000000000000000000000000000000001fffffffffffffed4fffffffffffffed5fffffffffffffed6fffffffffffffed7fffffffffffffed8fffffffffffffed9fffffffffffffedafffffffffffffedb02ffffffffffffff38ffffffffffffff39ffffffffffffff3affffffffffffff3bffffffffffffff3cffffffffffffff3dffffffffffffff3effffffffffffff3f"))
    ++ carried 3 Sweep 3 (4 ∷ []) (hex (codes "4701040300000003040000000303000000000000000004000000000000000000000000000000000000000000000000000000000000000000000000000000000000000000000000000000000000000001fffffffffffffed4fffffffffffffed5fffffffffffffed6fffffffffffffed7fffffffffffffed8fffffffffffffed9fffffffffffffedafffffffffffffedb02ffffffffffffff38ffffffffffffff39ffffffffffffff3affffffffffffff3bffffffffffffff3cffffffffffffff3dffffffffffffff3effffffffffffff3f"))
    ++ carried 3 Switch 0 (7 ∷ []) (hex (codes "47010600000000030f"))
    ++ carried 3 Switch 1 (7 ∷ []) (hex (codes "47010601000000030f"))
    ++ carried 3 Switch 2 (7 ∷ []) (hex (codes "47010602000000030f"))
    ++ carried 3 Switch 3 (7 ∷ []) (hex (codes "47010603000000030f"))

abbrev pub entries_4 : Log
entries_4 =
    carried 4 Request 4 (0 ∷ 1 ∷ 2 ∷ 3 ∷ []) (hex (codes "47010104000000040100000003"))
    ++ carried 4 Round1 0 (1 ∷ 2 ∷ 3 ∷ []) (hex (codes "4701020000000004010101010000000000000005000000"))
    ++ carried 4 Round1 1 (0 ∷ 2 ∷ 3 ∷ []) (hex (codes "4701020100000004010101010000000000000005000000"))
    ++ carried 4 Round1 2 (0 ∷ 1 ∷ 3 ∷ []) (hex (codes "4701020200000004010101010000000000000005000000"))
    ++ carried 4 Round1 3 (0 ∷ 1 ∷ 2 ∷ []) (hex (codes "4701020300000004010101010000000000000005000000"))
    ++ carried 4 Round2 0 (1 ∷ 2 ∷ 3 ∷ []) (hex (codes "47010200000000040203010101000000000000000500000002010100000000000000050000000301010000000000000005000000"))
    ++ carried 4 Round2 1 (0 ∷ 2 ∷ 3 ∷ []) (hex (codes "47010201000000040203000101000000000000000500000002010100000000000000050000000301010000000000000005000000"))
    ++ carried 4 Round2 2 (0 ∷ 1 ∷ 3 ∷ []) (hex (codes "47010202000000040203000101000000000000000500000001010100000000000000050000000301010000000000000005000000"))
    ++ carried 4 Round2 3 (0 ∷ 1 ∷ 2 ∷ []) (hex (codes "47010203000000040203000101000000000000000500000001010100000000000000050000000201010000000000000005000000"))
    ++ carried 4 Vote 0 (1 ∷ 2 ∷ 3 ∷ []) (hex (codes "4701030000000004010000000000000005"))
    ++ carried 4 Vote 1 (0 ∷ 2 ∷ 3 ∷ []) (hex (codes "4701030100000004010000000000000005"))
    ++ carried 4 Vote 2 (0 ∷ 1 ∷ 3 ∷ []) (hex (codes "4701030200000004010000000000000005"))
    ++ carried 4 Vote 3 (0 ∷ 1 ∷ 2 ∷ []) (hex (codes "4701030300000004010000000000000005"))
    ++ carried 4 Switch 0 (7 ∷ []) (hex (codes "47010600000000040f"))
    ++ carried 4 Switch 1 (7 ∷ []) (hex (codes "47010601000000040f"))
    ++ carried 4 Switch 2 (7 ∷ []) (hex (codes "47010602000000040f"))
    ++ carried 4 Switch 3 (7 ∷ []) (hex (codes "47010603000000040f"))

abbrev pub entries_5 : Log
entries_5 =
    carried 5 Request 4 (0 ∷ 1 ∷ 2 ∷ 3 ∷ []) (hex (codes "47010104000000050100000003"))
    ++ carried 5 Round1 0 (1 ∷ 2 ∷ 3 ∷ []) (hex (codes "4701020000000005010101010000000000000005000200"))
    ++ carried 5 Round1 1 (0 ∷ 2 ∷ 3 ∷ []) (hex (codes "4701020100000005010101010000000000000005000200"))
    ++ carried 5 Round1 2 (0 ∷ 1 ∷ 3 ∷ []) (hex (codes "4701020200000005010101010000000000000005000200"))
    ++ carried 5 Round1 3 (0 ∷ 1 ∷ 2 ∷ []) (hex (codes "4701020300000005010101010000000000000005000200"))
    ++ carried 5 Round2 0 (1 ∷ 2 ∷ 3 ∷ []) (hex (codes "47010200000000050203010101000000000000000500020002010100000000000000050002000301010000000000000005000200"))
    ++ carried 5 Round2 1 (0 ∷ 2 ∷ 3 ∷ []) (hex (codes "47010201000000050203000101000000000000000500020002010100000000000000050002000301010000000000000005000200"))
    ++ carried 5 Round2 2 (0 ∷ 1 ∷ 3 ∷ []) (hex (codes "47010202000000050203000101000000000000000500020001010100000000000000050002000301010000000000000005000200"))
    ++ carried 5 Round2 3 (0 ∷ 1 ∷ 2 ∷ []) (hex (codes "47010203000000050203000101000000000000000500020001010100000000000000050002000201010000000000000005000200"))
    ++ carried 5 Vote 0 (1 ∷ 2 ∷ 3 ∷ []) (hex (codes "4701030000000005010000000000000006"))
    ++ carried 5 Vote 1 (0 ∷ 2 ∷ 3 ∷ []) (hex (codes "4701030100000005010000000000000006"))
    ++ carried 5 Vote 2 (0 ∷ 1 ∷ 3 ∷ []) (hex (codes "4701030200000005010000000000000006"))
    ++ carried 5 Vote 3 (0 ∷ 1 ∷ 2 ∷ []) (hex (codes "4701030300000005010000000000000006"))
    ++ carried 5 Sweep 0 (4 ∷ []) (hex (codes "4701040000000005040000000503000000000000000006000000000000000000000000000000000000000000000000000000000000000000000000000000000000000000000000000000000000000001fffffffffffffed4fffffffffffffed5fffffffffffffed6fffffffffffffed7fffffffffffffed8fffffffffffffed9fffffffffffffedafffffffffffffedb02ffffffffffffff38ffffffffffffff39ffffffffffffff3affffffffffffff3bffffffffffffff3cffffffffffffff3dffffffffffffff3effffffffffffff3f"))
    ++ carried 5 Sweep 1 (4 ∷ []) (hex (codes "4701040100000005040000000503000000000000000006000000000000000000000000000000000000000000000000000000000000000000000000000000000000000000000000000000000000000001fffffffffffffed4fffffffffffffed5fffffffffffffed6fffffffffffffed7fffffffffffffed8fffffffffffffed9fffffffffffffedafffffffffffffedb02ffffffffffffff38ffffffffffffff39ffffffffffffff3affffffffffffff3bffffffffffffff3cffffffffffffff3dffffffffffffff3effffffffffffff3f"))
    ++ carried 5 Sweep 2 (4 ∷ []) (hex (codes "4701040200000005040000000503000000000000000006000000000000000000000000000000000000000000000000000000000000000000000000000000000000000000000000000000000000000001fffffffffffffed4fffffffffffffed5fffffffffffffed6fffffffffffffed7fffffffffffffed8fffffffffffffed9fffffffffffffedafffffffffffffedb02ffffffffffffff38ffffffffffffff39ffffffffffffff3affffffffffffff3bffffffffffffff3cffffffffffffff3dffffffffffffff3effffffffffffff3f"))
    ++ carried 5 Sweep 3 (4 ∷ []) (hex (codes "4701040300000005040000000503000000000000000006000000000000000000000000000000000000000000000000000000000000000000000000000000000000000000000000000000000000000001fffffffffffffed4fffffffffffffed5fffffffffffffed6fffffffffffffed7fffffffffffffed8fffffffffffffed9fffffffffffffedafffffffffffffedb02ffffffffffffff38ffffffffffffff39ffffffffffffff3affffffffffffff3bffffffffffffff3cffffffffffffff3dffffffffffffff3effffffffffffff3f"))
    ++ carried 5 Switch 0 (7 ∷ []) (hex (codes "47010600000000050f"))
    ++ carried 5 Switch 1 (7 ∷ []) (hex (codes "47010601000000050f"))
    ++ carried 5 Switch 2 (7 ∷ []) (hex (codes "47010602000000050f"))
    ++ carried 5 Switch 3 (7 ∷ []) (hex (codes "47010603000000050f"))

abbrev pub entries_6 : Log
entries_6 =
    carried 6 Request 4 (0 ∷ 1 ∷ 2 ∷ 3 ∷ []) (hex (codes "47010104000000060100000005"))
    ++ carried 6 Round1 0 (1 ∷ 2 ∷ 3 ∷ []) (hex (codes "4701020000000006010101010000000000000005000100"))
    ++ carried 6 Round1 1 (0 ∷ 2 ∷ 3 ∷ []) (hex (codes "4701020100000006010101010000000000000005000100"))
    ++ carried 6 Round1 2 (0 ∷ 1 ∷ 3 ∷ []) (hex (codes "4701020200000006010101010000000000000005000100"))
    ++ carried 6 Round1 3 (0 ∷ 1 ∷ 2 ∷ []) (hex (codes "4701020300000006010101010000000000000005000100"))
    ++ carried 6 Round2 0 (1 ∷ 2 ∷ 3 ∷ []) (hex (codes "47010200000000060203010101000000000000000500010002010100000000000000050001000301010000000000000005000100"))
    ++ carried 6 Round2 1 (0 ∷ 2 ∷ 3 ∷ []) (hex (codes "47010201000000060203000101000000000000000500010002010100000000000000050001000301010000000000000005000100"))
    ++ carried 6 Round2 2 (0 ∷ 1 ∷ 3 ∷ []) (hex (codes "47010202000000060203000101000000000000000500010001010100000000000000050001000301010000000000000005000100"))
    ++ carried 6 Round2 3 (0 ∷ 1 ∷ 2 ∷ []) (hex (codes "47010203000000060203000101000000000000000500010001010100000000000000050001000201010000000000000005000100"))
    ++ carried 6 Vote 0 (1 ∷ 2 ∷ 3 ∷ []) (hex (codes "4701030000000006010000000000000007"))
    ++ carried 6 Vote 1 (0 ∷ 2 ∷ 3 ∷ []) (hex (codes "4701030100000006010000000000000007"))
    ++ carried 6 Vote 2 (0 ∷ 1 ∷ 3 ∷ []) (hex (codes "4701030200000006010000000000000007"))
    ++ carried 6 Vote 3 (0 ∷ 1 ∷ 2 ∷ []) (hex (codes "4701030300000006010000000000000007"))
    ++ carried 6 Sweep 0 (4 ∷ []) (hex (codes "470104000000000604000000050303ffffffffffffff9cffffffffffffff9dffffffffffffff9effffffffffffff9fffffffffffffffa0ffffffffffffffa1ffffffffffffffa2ffffffffffffffa3040000000000000000000000000000000100000000000000020000000000000003000000000000000400000000000000050000000000000006000000000000000705000000000000006400000000000000650000000000000066000000000000006700000000000000680000000000000069000000000000006a000000000000006b"))
    ++ carried 6 Sweep 1 (4 ∷ []) (hex (codes "470104010000000604000000050303ffffffffffffff9cffffffffffffff9dffffffffffffff9effffffffffffff9fffffffffffffffa0ffffffffffffffa1ffffffffffffffa2ffffffffffffffa3040000000000000000000000000000000100000000000000020000000000000003000000000000000400000000000000050000000000000006000000000000000705000000000000006400000000000000650000000000000066000000000000006700000000000000680000000000000069000000000000006a000000000000006b"))
    ++ carried 6 Sweep 2 (4 ∷ []) (hex (codes "470104020000000604000000050303ffffffffffffff9cffffffffffffff9dffffffffffffff9effffffffffffff9fffffffffffffffa0ffffffffffffffa1ffffffffffffffa2ffffffffffffffa3040000000000000000000000000000000100000000000000020000000000000003000000000000000400000000000000050000000000000006000000000000000705000000000000006400000000000000650000000000000066000000000000006700000000000000680000000000000069000000000000006a000000000000006b"))
    ++ carried 6 Sweep 3 (4 ∷ []) (hex (codes "470104030000000604000000050303ffffffffffffff9cffffffffffffff9dffffffffffffff9effffffffffffff9fffffffffffffffa0ffffffffffffffa1ffffffffffffffa2ffffffffffffffa3040000000000000000000000000000000100000000000000020000000000000003000000000000000400000000000000050000000000000006000000000000000705000000000000006400000000000000650000000000000066000000000000006700000000000000680000000000000069000000000000006a000000000000006b"))
    ++ carried 6 Switch 0 (7 ∷ []) (hex (codes "47010600000000060f"))
    ++ carried 6 Switch 1 (7 ∷ []) (hex (codes "47010601000000060f"))
    ++ carried 6 Switch 2 (7 ∷ []) (hex (codes "47010602000000060f"))
    ++ carried 6 Switch 3 (7 ∷ []) (hex (codes "47010603000000060f"))

abbrev pub entries_7 : Log
entries_7 =
    carried 7 Request 4 (0 ∷ 1 ∷ 2 ∷ 3 ∷ []) (hex (codes "47010104000000070100000005"))
    ++ carried 7 Round1 0 (1 ∷ 2 ∷ 3 ∷ []) (hex (codes "4701020000000007010101010000000000000005000200"))
    ++ carried 7 Round1 1 (0 ∷ 2 ∷ 3 ∷ []) (hex (codes "4701020100000007010101010000000000000005000200"))
    ++ carried 7 Round1 2 (0 ∷ 1 ∷ 3 ∷ []) (hex (codes "4701020200000007010101010000000000000005000200"))
    ++ carried 7 Round1 3 (0 ∷ 1 ∷ 2 ∷ []) (hex (codes "4701020300000007010101010000000000000005000200"))
    ++ carried 7 Round2 0 (1 ∷ 2 ∷ 3 ∷ []) (hex (codes "47010200000000070203010101000000000000000500020002010100000000000000050002000301010000000000000005000200"))
    ++ carried 7 Round2 1 (0 ∷ 2 ∷ 3 ∷ []) (hex (codes "47010201000000070203000101000000000000000500020002010100000000000000050002000301010000000000000005000200"))
    ++ carried 7 Round2 2 (0 ∷ 1 ∷ 3 ∷ []) (hex (codes "47010202000000070203000101000000000000000500020001010100000000000000050002000301010000000000000005000200"))
    ++ carried 7 Round2 3 (0 ∷ 1 ∷ 2 ∷ []) (hex (codes "47010203000000070203000101000000000000000500020001010100000000000000050002000201010000000000000005000200"))
    ++ carried 7 Vote 0 (1 ∷ 2 ∷ 3 ∷ []) (hex (codes "4701030000000007010000000000000008"))
    ++ carried 7 Vote 1 (0 ∷ 2 ∷ 3 ∷ []) (hex (codes "4701030100000007010000000000000008"))
    ++ carried 7 Vote 2 (0 ∷ 1 ∷ 3 ∷ []) (hex (codes "4701030200000007010000000000000008"))
    ++ carried 7 Vote 3 (0 ∷ 1 ∷ 2 ∷ []) (hex (codes "4701030300000007010000000000000008"))
    ++ carried 7 Sweep 0 (4 ∷ []) (hex (codes "47010400000000070400000005030600000000000000c800000000000000c900000000000000ca00000000000000cb00000000000000cc00000000000000cd00000000000000ce00000000000000cf07000000000000012c000000000000012d000000000000012e000000000000012f00000000000001300000000000000131000000000000013200000000000001330000000000000000080000000000000000000000000000000000000000000000000000000000000000000000000000000000000000000000000000000000000000"))
    ++ carried 7 Sweep 1 (4 ∷ []) (hex (codes "47010401000000070400000005030600000000000000c800000000000000c900000000000000ca00000000000000cb00000000000000cc00000000000000cd00000000000000ce00000000000000cf07000000000000012c000000000000012d000000000000012e000000000000012f00000000000001300000000000000131000000000000013200000000000001330000000000000000080000000000000000000000000000000000000000000000000000000000000000000000000000000000000000000000000000000000000000"))
    ++ carried 7 Sweep 2 (4 ∷ []) (hex (codes "47010402000000070400000005030600000000000000c800000000000000c900000000000000ca00000000000000cb00000000000000cc00000000000000cd00000000000000ce00000000000000cf07000000000000012c000000000000012d000000000000012e000000000000012f00000000000001300000000000000131000000000000013200000000000001330000000000000000080000000000000000000000000000000000000000000000000000000000000000000000000000000000000000000000000000000000000000"))
    ++ carried 7 Sweep 3 (4 ∷ []) (hex (codes "47010403000000070400000005030600000000000000c800000000000000c900000000000000ca00000000000000cb00000000000000cc00000000000000cd00000000000000ce00000000000000cf07000000000000012c000000000000012d000000000000012e000000000000012f00000000000001300000000000000131000000000000013200000000000001330000000000000000080000000000000000000000000000000000000000000000000000000000000000000000000000000000000000000000000000000000000000"))
    ++ carried 7 Final 0 (4 ∷ []) (hex (codes "470105000000000704000000050100000000000000000800000000000000000000000000000000000000000000000000000000000000000000000000000000000000000000000000000000000000001f1000000000000000000000000000000000000000000000000000000000"))
    ++ carried 7 Final 1 (4 ∷ []) (hex (codes "470105010000000704000000050100000000000000000800000000000000000000000000000000000000000000000000000000000000000000000000000000000000000000000000000000000000001f1000000000000000000000000000000000000000000000000000000000"))
    ++ carried 7 Final 2 (4 ∷ []) (hex (codes "470105020000000704000000050100000000000000000800000000000000000000000000000000000000000000000000000000000000000000000000000000000000000000000000000000000000001f1000000000000000000000000000000000000000000000000000000000"))
    ++ carried 7 Final 3 (4 ∷ []) (hex (codes "470105030000000704000000050100000000000000000800000000000000000000000000000000000000000000000000000000000000000000000000000000000000000000000000000000000000001f1000000000000000000000000000000000000000000000000000000000"))
    ++ carried 7 Switch 0 (7 ∷ []) (hex (codes "47010600000000071f"))
    ++ carried 7 Switch 1 (7 ∷ []) (hex (codes "47010601000000071f"))
    ++ carried 7 Switch 2 (7 ∷ []) (hex (codes "47010602000000071f"))
    ++ carried 7 Switch 3 (7 ∷ []) (hex (codes "47010603000000071f"))

abbrev pub entries_8 : Log
entries_8 =
    carried 8 Round1 0 (1 ∷ 2 ∷ 3 ∷ 4 ∷ []) (hex (codes "4701020000000008010101010000000000000005000200"))
    ++ carried 8 Round1 1 (0 ∷ 2 ∷ 3 ∷ 4 ∷ []) (hex (codes "4701020100000008010101010000000000000005000200"))
    ++ carried 8 Round1 2 (0 ∷ 1 ∷ 3 ∷ 4 ∷ []) (hex (codes "4701020200000008010101010000000000000005000200"))
    ++ carried 8 Round1 3 (0 ∷ 1 ∷ 2 ∷ 4 ∷ []) (hex (codes "4701020300000008010101010000000000000005000200"))
    ++ carried 8 Round1 4 (0 ∷ 1 ∷ 2 ∷ 3 ∷ []) (hex (codes "4701020400000008010101010000000000000005000000"))
    ++ carried 8 Round2 0 (1 ∷ 2 ∷ 3 ∷ 4 ∷ []) (hex (codes "470102000000000802040101010000000000000005000200020101000000000000000500020003010100000000000000050002000401010000000000000005000000"))
    ++ carried 8 Round2 1 (0 ∷ 2 ∷ 3 ∷ 4 ∷ []) (hex (codes "470102010000000802040001010000000000000005000200020101000000000000000500020003010100000000000000050002000401010000000000000005000000"))
    ++ carried 8 Round2 2 (0 ∷ 1 ∷ 3 ∷ 4 ∷ []) (hex (codes "470102020000000802040001010000000000000005000200010101000000000000000500020003010100000000000000050002000401010000000000000005000000"))
    ++ carried 8 Round2 3 (0 ∷ 1 ∷ 2 ∷ 4 ∷ []) (hex (codes "470102030000000802040001010000000000000005000200010101000000000000000500020002010100000000000000050002000401010000000000000005000000"))
    ++ carried 8 Round2 4 (0 ∷ 1 ∷ 2 ∷ 3 ∷ []) (hex (codes "470102040000000802040001010000000000000005000200010101000000000000000500020002010100000000000000050002000301010000000000000005000200"))
    ++ carried 8 Vote 0 (1 ∷ 2 ∷ 3 ∷ 4 ∷ []) (hex (codes "4701030000000008010000000000000009"))
    ++ carried 8 Vote 1 (0 ∷ 2 ∷ 3 ∷ 4 ∷ []) (hex (codes "4701030100000008010000000000000009"))
    ++ carried 8 Vote 2 (0 ∷ 1 ∷ 3 ∷ 4 ∷ []) (hex (codes "4701030200000008010000000000000009"))
    ++ carried 8 Vote 3 (0 ∷ 1 ∷ 2 ∷ 4 ∷ []) (hex (codes "4701030300000008010000000000000009"))
    ++ carried 8 Vote 4 (0 ∷ 1 ∷ 2 ∷ 3 ∷ []) (hex (codes "4701030400000008010000000000000009"))
    ++ carried 8 Switch 0 (7 ∷ []) (hex (codes "47010600000000081f"))
    ++ carried 8 Switch 1 (7 ∷ []) (hex (codes "47010601000000081f"))
    ++ carried 8 Switch 2 (7 ∷ []) (hex (codes "47010602000000081f"))
    ++ carried 8 Switch 3 (7 ∷ []) (hex (codes "47010603000000081f"))
    ++ carried 8 Switch 4 (7 ∷ []) (hex (codes "47010604000000081f"))

abbrev pub log : Log
log = entries_0 ++ entries_1 ++ entries_2 ++ entries_3 ++ entries_4 ++ entries_5 ++ entries_6 ++ entries_7 ++ entries_8

-- the latest cycle stands first
abbrev pub histories : Histories
histories =
    ((step.Task ∷ []) ∷ (step.Task ∷ []) ∷ (step.Task ∷ []) ∷ (step.Task ∷ []) ∷ (step.Task ∷ []) ∷ []) ∷
    ((step.Task ∷ step.Sweep ∷ step.Sweep ∷ step.Sweep ∷ []) ∷ (step.Task ∷ step.Sweep ∷ step.Sweep ∷ step.Sweep ∷ []) ∷ (step.Task ∷ step.Sweep ∷ step.Sweep ∷ step.Sweep ∷ []) ∷ (step.Task ∷ step.Sweep ∷ step.Sweep ∷ step.Sweep ∷ []) ∷ ([]) ∷ []) ∷
    ((step.Task ∷ step.Sweep ∷ step.Sweep ∷ step.Sweep ∷ []) ∷ (step.Task ∷ step.Sweep ∷ step.Sweep ∷ step.Sweep ∷ []) ∷ (step.Task ∷ step.Sweep ∷ step.Sweep ∷ step.Sweep ∷ []) ∷ (step.Task ∷ step.Sweep ∷ step.Sweep ∷ step.Sweep ∷ []) ∷ ([]) ∷ []) ∷
    ((step.Task ∷ step.Sweep ∷ step.Sweep ∷ step.Sweep ∷ []) ∷ (step.Task ∷ step.Sweep ∷ step.Sweep ∷ step.Sweep ∷ []) ∷ (step.Task ∷ step.Sweep ∷ step.Sweep ∷ step.Sweep ∷ []) ∷ (step.Task ∷ step.Sweep ∷ step.Sweep ∷ step.Sweep ∷ []) ∷ ([]) ∷ []) ∷
    ((step.Task ∷ []) ∷ (step.Task ∷ []) ∷ (step.Task ∷ []) ∷ (step.Task ∷ []) ∷ ([]) ∷ []) ∷
    ((step.Task ∷ step.Sweep ∷ step.Sweep ∷ step.Sweep ∷ []) ∷ (step.Task ∷ step.Sweep ∷ step.Sweep ∷ step.Sweep ∷ []) ∷ (step.Task ∷ step.Sweep ∷ step.Sweep ∷ step.Sweep ∷ []) ∷ (step.Task ∷ step.Sweep ∷ step.Sweep ∷ step.Sweep ∷ []) ∷ ([]) ∷ []) ∷
    ((step.Task ∷ []) ∷ (step.Task ∷ []) ∷ (step.Task ∷ []) ∷ (step.Task ∷ []) ∷ ([]) ∷ []) ∷
    ((step.Task ∷ []) ∷ (step.Task ∷ []) ∷ (step.Task ∷ []) ∷ (step.Task ∷ []) ∷ ([]) ∷ []) ∷
    ((step.Task ∷ []) ∷ (step.Task ∷ []) ∷ (step.Task ∷ []) ∷ (step.Task ∷ []) ∷ ([]) ∷ []) ∷
    []

abbrev pub text : List ℕ
text =
    codes "guards channels 5 cycles 9\n"
    ++ codes "cycle 0 active 0,1,2,3,4 transfer -\n"
    ++ codes "ch 0 in 5 vote 1 judged 4 alpha 0,0,0,0,65536\n"
    ++ codes "ch 1 in 5 vote 1 judged 4 alpha 0,0,0,0,65536\n"
    ++ codes "ch 2 in 5 vote 1 judged 4 alpha 0,0,0,0,65536\n"
    ++ codes "ch 3 in 5 vote 1 judged 4 alpha 0,0,0,0,65536\n"
    ++ codes "end removed - joined - remaining -\n"
    ++ codes "cycle 1 active 0,1,2,3,4 transfer -\n"
    ++ codes "ch 0 in 5 vote 2 judged 4 alpha 0,0,0,0,131072\n"
    ++ codes "ch 1 in 5 vote 2 judged 4 alpha 0,0,0,0,131072\n"
    ++ codes "ch 2 in 5 vote 2 judged 4 alpha 0,0,0,0,131072\n"
    ++ codes "ch 3 in 5 vote 2 judged 4 alpha 0,0,0,0,131072\n"
    ++ codes "end removed - joined - remaining -\n"
    ++ codes "cycle 2 active 0,1,2,3,4 transfer -\n"
    ++ codes "ch 0 in 5 vote 3 judged 4 alpha 0,0,0,0,196608\n"
    ++ codes "ch 1 in 5 vote 3 judged 4 alpha 0,0,0,0,196608\n"
    ++ codes "ch 2 in 5 vote 3 judged 4 alpha 0,0,0,0,196608\n"
    ++ codes "ch 3 in 5 vote 3 judged 4 alpha 0,0,0,0,196608\n"
    ++ codes "end removed 4 joined - remaining -\n"
    ++ codes "cycle 3 active 0,1,2,3 transfer 4@3\n"
    ++ codes "ch 0 in 5 vote 4 judged - alpha 0,0,0,0,0\n"
    ++ codes "ch 1 in 5 vote 4 judged - alpha 0,0,0,0,0\n"
    ++ codes "ch 2 in 5 vote 4 judged - alpha 0,0,0,0,0\n"
    ++ codes "ch 3 in 5 vote 4 judged - alpha 0,0,0,0,0\n"
    ++ codes "end removed - joined - remaining 6\n"
    ++ codes "cycle 4 active 0,1,2,3 transfer -\n"
    ++ codes "ch 0 in 5 vote 5 judged - alpha 0,0,0,0,0\n"
    ++ codes "ch 1 in 5 vote 5 judged - alpha 0,0,0,0,0\n"
    ++ codes "ch 2 in 5 vote 5 judged - alpha 0,0,0,0,0\n"
    ++ codes "ch 3 in 5 vote 5 judged - alpha 0,0,0,0,0\n"
    ++ codes "end removed - joined - remaining -\n"
    ++ codes "cycle 5 active 0,1,2,3 transfer 4@5\n"
    ++ codes "ch 0 in 5 vote 6 judged - alpha 0,0,0,0,0\n"
    ++ codes "ch 1 in 5 vote 6 judged - alpha 0,0,0,0,0\n"
    ++ codes "ch 2 in 5 vote 6 judged - alpha 0,0,0,0,0\n"
    ++ codes "ch 3 in 5 vote 6 judged - alpha 0,0,0,0,0\n"
    ++ codes "end removed - joined - remaining 6\n"
    ++ codes "cycle 6 active 0,1,2,3 transfer 4@5\n"
    ++ codes "ch 0 in 5 vote 7 judged - alpha 0,0,0,0,0\n"
    ++ codes "ch 1 in 5 vote 7 judged - alpha 0,0,0,0,0\n"
    ++ codes "ch 2 in 5 vote 7 judged - alpha 0,0,0,0,0\n"
    ++ codes "ch 3 in 5 vote 7 judged - alpha 0,0,0,0,0\n"
    ++ codes "end removed - joined - remaining 3\n"
    ++ codes "cycle 7 active 0,1,2,3 transfer 4@5\n"
    ++ codes "ch 0 in 5 vote 8 judged - alpha 0,0,0,0,0\n"
    ++ codes "ch 1 in 5 vote 8 judged - alpha 0,0,0,0,0\n"
    ++ codes "ch 2 in 5 vote 8 judged - alpha 0,0,0,0,0\n"
    ++ codes "ch 3 in 5 vote 8 judged - alpha 0,0,0,0,0\n"
    ++ codes "end removed - joined 4 remaining 1\n"
    ++ codes "cycle 8 active 0,1,2,3,4 transfer -\n"
    ++ codes "ch 0 in 5 vote 9 judged - alpha 0,0,0,0,0\n"
    ++ codes "ch 1 in 5 vote 9 judged - alpha 0,0,0,0,0\n"
    ++ codes "ch 2 in 5 vote 9 judged - alpha 0,0,0,0,0\n"
    ++ codes "ch 3 in 5 vote 9 judged - alpha 0,0,0,0,0\n"
    ++ codes "ch 4 in 5 vote 9 judged - alpha 0,0,0,0,0\n"
    ++ codes "end removed - joined - remaining -\n"
    ++ codes "done 9\n"

abbrev pub run : WorkedRun
run = record { mission = mission; log = log; histories = histories; text = text }

abbrev pub joined_4 : WorkedJoin
joined_4 =
    record {
      channel = 4;
      cycle = 7;
      replica = record { have = Some 5; blocks = (pos 8 ∷ pos 0 ∷ pos 0 ∷ pos 0 ∷ pos 0 ∷ pos 0 ∷ pos 0 ∷ pos 0 ∷ []) ∷ (negsuc 299 ∷ negsuc 298 ∷ negsuc 297 ∷ negsuc 296 ∷ negsuc 295 ∷ negsuc 294 ∷ negsuc 293 ∷ negsuc 292 ∷ []) ∷ (negsuc 199 ∷ negsuc 198 ∷ negsuc 197 ∷ negsuc 196 ∷ negsuc 195 ∷ negsuc 194 ∷ negsuc 193 ∷ negsuc 192 ∷ []) ∷ (negsuc 99 ∷ negsuc 98 ∷ negsuc 97 ∷ negsuc 96 ∷ negsuc 95 ∷ negsuc 94 ∷ negsuc 93 ∷ negsuc 92 ∷ []) ∷ (pos 0 ∷ pos 1 ∷ pos 2 ∷ pos 3 ∷ pos 4 ∷ pos 5 ∷ pos 6 ∷ pos 7 ∷ []) ∷ (pos 100 ∷ pos 101 ∷ pos 102 ∷ pos 103 ∷ pos 104 ∷ pos 105 ∷ pos 106 ∷ pos 107 ∷ []) ∷ (pos 200 ∷ pos 201 ∷ pos 202 ∷ pos 203 ∷ pos 204 ∷ pos 205 ∷ pos 206 ∷ pos 207 ∷ []) ∷ (pos 300 ∷ pos 301 ∷ pos 302 ∷ pos 303 ∷ pos 304 ∷ pos 305 ∷ pos 306 ∷ pos 307 ∷ []) ∷ [] };
      content = record {
        target = 4;
        start = 5;
        copies = record { block = 0; words = (pos 8 ∷ pos 0 ∷ pos 0 ∷ pos 0 ∷ pos 0 ∷ pos 0 ∷ pos 0 ∷ pos 0 ∷ []) } ∷ [];
        control = record {
          law = Multiply;
          active = 0 ∷ 1 ∷ 2 ∷ 3 ∷ 4 ∷ [];
          fresh = 4 ∷ [];
          counts = 0 ∷ 0 ∷ 0 ∷ 0 ∷ 0 ∷ 0 ∷ 0 ∷ [];
        };
      };
      context = (pos 8 ∷ pos 0 ∷ pos 0 ∷ pos 0 ∷ pos 0 ∷ pos 0 ∷ pos 0 ∷ pos 0 ∷ []) ∷ (negsuc 299 ∷ negsuc 298 ∷ negsuc 297 ∷ negsuc 296 ∷ negsuc 295 ∷ negsuc 294 ∷ negsuc 293 ∷ negsuc 292 ∷ []) ∷ (negsuc 199 ∷ negsuc 198 ∷ negsuc 197 ∷ negsuc 196 ∷ negsuc 195 ∷ negsuc 194 ∷ negsuc 193 ∷ negsuc 192 ∷ []) ∷ (negsuc 99 ∷ negsuc 98 ∷ negsuc 97 ∷ negsuc 96 ∷ negsuc 95 ∷ negsuc 94 ∷ negsuc 93 ∷ negsuc 92 ∷ []) ∷ (pos 0 ∷ pos 1 ∷ pos 2 ∷ pos 3 ∷ pos 4 ∷ pos 5 ∷ pos 6 ∷ pos 7 ∷ []) ∷ (pos 100 ∷ pos 101 ∷ pos 102 ∷ pos 103 ∷ pos 104 ∷ pos 105 ∷ pos 106 ∷ pos 107 ∷ []) ∷ (pos 200 ∷ pos 201 ∷ pos 202 ∷ pos 203 ∷ pos 204 ∷ pos 205 ∷ pos 206 ∷ pos 207 ∷ []) ∷ (pos 300 ∷ pos 301 ∷ pos 302 ∷ pos 303 ∷ pos 304 ∷ pos 305 ∷ pos 306 ∷ pos 307 ∷ []) ∷ [];
    }
