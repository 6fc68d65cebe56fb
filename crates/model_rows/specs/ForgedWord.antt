-- Written by tools/worked_runs.py.
-- A word that one source sends differently to one channel is settled alike by all.
use Rattle.std.specs.Prelude.{ℕ, List, [], ◌∷◌, ◌++◌, Some, None, pos, replicate, codes}
use Rattle.guards_model.specs.declared.Slot.TheVariants.{Round1, Round2, Vote, Switch}
use Rattle.guards_model.specs.declared.Op.TheVariants.{Add}
use Rattle.guards_model.specs.declared.Law.TheVariants.{Multiply}
use Rattle.guards_model.specs.declared.Actor.TheVariants as step
use Rattle.guards_model.specs.Contexts.{zeroed}
use Rattle.guards_model.specs.Expressions.{input, block_word, binary}
use Rattle.guards_model.specs.Faults.{bus}
use Rattle.guards_model.specs.BusRules.{forge}
use Rattle.guards_model.specs.Missions.{MissionValue}
use Rattle.guards_model.specs.Network.{Log}
use Rattle.guards_model.specs.Rounds.{Histories}
use Rattle.model_rows.specs.Worked.{hex, carried, forged, WorkedRun}

abbrev pub mission : MissionValue
mission =
    record {
      rules = record {
        channels = 4;
        blocks = 1;
        version = 1;
        law = Multiply;
        keep = 32768;
        decrement = 32768;
        threshold = 131072;
        sweep = 16;
        last = 8;
        returning = 1;
      };
      cycles = 1;
      width = 1;
      return_after = 2;
      initial = zeroed 1;
      table = (record { name = codes "sum"; writes = record { block = 0; set = Some (binary Add (block_word 0 0) (input 0)) ∷ replicate 7 None } ∷ [] } ∷ []) ∷ [];
      outputs = (0, 0) ∷ [];
      sensors = ((pos 1 ∷ []) ∷ (pos 9 ∷ []) ∷ (pos 9 ∷ []) ∷ (pos 7 ∷ []) ∷ []) ∷ [];
      script = bus (record { cycle = 0; slot = Round1; from = 3; to = Some 2; act = forge (hex (codes "4701020300000000010101010000000000000009000000")) }) ∷
          [];
      actuator = None;
    }

abbrev pub entries_0 : Log
entries_0 =
    carried 0 Round1 0 (1 ∷ 2 ∷ 3 ∷ []) (hex (codes "4701020000000000010101010000000000000001000000"))
    ++ carried 0 Round1 1 (0 ∷ 2 ∷ 3 ∷ []) (hex (codes "4701020100000000010101010000000000000009000000"))
    ++ carried 0 Round1 2 (0 ∷ 1 ∷ 3 ∷ []) (hex (codes "4701020200000000010101010000000000000009000000"))
    ++ carried 0 Round1 3 (0 ∷ 1 ∷ []) (hex (codes "4701020300000000010101010000000000000007000000"))
    ++ forged 0 Round1 3 (2 ∷ []) (hex (codes "4701020300000000010101010000000000000007000000")) (hex (codes "4701020300000000010101010000000000000009000000"))
    ++ carried 0 Round2 0 (1 ∷ 2 ∷ 3 ∷ []) (hex (codes "47010200000000000203010101000000000000000900000002010100000000000000090000000301010000000000000007000000"))
    ++ carried 0 Round2 1 (0 ∷ 2 ∷ 3 ∷ []) (hex (codes "47010201000000000203000101000000000000000100000002010100000000000000090000000301010000000000000007000000"))
    ++ carried 0 Round2 2 (0 ∷ 1 ∷ 3 ∷ []) (hex (codes "47010202000000000203000101000000000000000100000001010100000000000000090000000301010000000000000009000000"))
    ++ carried 0 Round2 3 (0 ∷ 1 ∷ 2 ∷ []) (hex (codes "47010203000000000203000101000000000000000100000001010100000000000000090000000201010000000000000009000000"))
    ++ carried 0 Vote 0 (1 ∷ 2 ∷ 3 ∷ []) (hex (codes "4701030000000000010000000000000007"))
    ++ carried 0 Vote 1 (0 ∷ 2 ∷ 3 ∷ []) (hex (codes "4701030100000000010000000000000007"))
    ++ carried 0 Vote 2 (0 ∷ 1 ∷ 3 ∷ []) (hex (codes "4701030200000000010000000000000007"))
    ++ carried 0 Vote 3 (0 ∷ 1 ∷ 2 ∷ []) (hex (codes "4701030300000000010000000000000007"))
    ++ carried 0 Switch 0 (7 ∷ []) (hex (codes "47010600000000000f"))
    ++ carried 0 Switch 1 (7 ∷ []) (hex (codes "47010601000000000f"))
    ++ carried 0 Switch 2 (7 ∷ []) (hex (codes "47010602000000000f"))
    ++ carried 0 Switch 3 (7 ∷ []) (hex (codes "47010603000000000f"))

abbrev pub log : Log
log = entries_0

-- the latest cycle stands first
abbrev pub histories : Histories
histories =
    ((step.Task ∷ []) ∷ (step.Task ∷ []) ∷ (step.Task ∷ []) ∷ (step.Task ∷ []) ∷ []) ∷
    []

abbrev pub text : List ℕ
text =
    codes "guards channels 4 cycles 1\n"
    ++ codes "cycle 0 active 0,1,2,3 transfer -\n"
    ++ codes "ch 0 in 7 vote 7 judged - alpha 0,0,0,0\n"
    ++ codes "ch 1 in 7 vote 7 judged - alpha 0,0,0,0\n"
    ++ codes "ch 2 in 7 vote 7 judged - alpha 0,0,0,0\n"
    ++ codes "ch 3 in 7 vote 7 judged - alpha 0,0,0,0\n"
    ++ codes "end removed - joined - remaining -\n"
    ++ codes "done 1\n"

abbrev pub run : WorkedRun
run = record { mission = mission; log = log; histories = histories; text = text }
