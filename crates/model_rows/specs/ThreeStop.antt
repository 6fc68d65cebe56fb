-- Written by tools/worked_runs.py.
-- Three channels stop where one is disturbed.
use Rattle.std.specs.Prelude.{ℕ, List, [], ◌∷◌, ◌++◌, Some, None, pos, replicate, codes}
use Rattle.guards_model.specs.declared.Slot.TheVariants.{Round1, Vote}
use Rattle.guards_model.specs.declared.Op.TheVariants.{Add}
use Rattle.guards_model.specs.declared.Law.TheVariants.{Multiply}
use Rattle.guards_model.specs.declared.Actor.TheVariants as step
use Rattle.guards_model.specs.Contexts.{zeroed}
use Rattle.guards_model.specs.Expressions.{input, block_word, binary}
use Rattle.guards_model.specs.Faults.{bus}
use Rattle.guards_model.specs.BusRules.{lose}
use Rattle.guards_model.specs.Missions.{MissionValue}
use Rattle.guards_model.specs.Network.{Log}
use Rattle.guards_model.specs.Rounds.{Histories}
use Rattle.model_rows.specs.Worked.{hex, carried, lost, WorkedRun}

abbrev pub mission : MissionValue
mission =
    record {
      rules = record {
        channels = 3;
        blocks = 1;
        version = 1;
        law = Multiply;
        keep = 32768;
        decrement = 32768;
        threshold = 131072;
        sweep = 16;
        last = 8;
        returning = 1;
      };
      cycles = 2;
      width = 1;
      return_after = 2;
      initial = zeroed 1;
      table = (record { name = codes "sum"; writes = record { block = 0; set = Some (binary Add (block_word 0 0) (input 0)) ∷ replicate 7 None } ∷ [] } ∷ []) ∷ [];
      outputs = (0, 0) ∷ [];
      sensors = ((pos 5 ∷ []) ∷ (pos 5 ∷ []) ∷ (pos 5 ∷ []) ∷ []) ∷ [];
      script = bus (record { cycle = 0; slot = Vote; from = 2; to = Some 0; act = lose }) ∷
          [];
      actuator = None;
    }

abbrev pub entries_0 : Log
entries_0 =
    carried 0 Round1 0 (1 ∷ 2 ∷ []) (hex (codes "4701020000000000010101010000000000000005000000"))
    ++ carried 0 Round1 1 (0 ∷ 2 ∷ []) (hex (codes "4701020100000000010101010000000000000005000000"))
    ++ carried 0 Round1 2 (0 ∷ 1 ∷ []) (hex (codes "4701020200000000010101010000000000000005000000"))
    ++ carried 0 Vote 0 (1 ∷ 2 ∷ []) (hex (codes "4701030000000000010000000000000005"))
    ++ carried 0 Vote 1 (0 ∷ 2 ∷ []) (hex (codes "4701030100000000010000000000000005"))
    ++ lost 0 Vote 2 (0 ∷ []) (hex (codes "4701030200000000010000000000000005"))
    ++ carried 0 Vote 2 (1 ∷ []) (hex (codes "4701030200000000010000000000000005"))

abbrev pub log : Log
log = entries_0

-- the latest cycle stands first
abbrev pub histories : Histories
histories =
    ((step.Task ∷ []) ∷ (step.Task ∷ []) ∷ (step.Task ∷ []) ∷ []) ∷
    []

abbrev pub text : List ℕ
text =
    codes "guards channels 3 cycles 2\n"
    ++ codes "stop cycle 0 slot vote disturbed 2 active 0,1,2\n"

abbrev pub run : WorkedRun
run = record { mission = mission; log = log; histories = histories; text = text }
