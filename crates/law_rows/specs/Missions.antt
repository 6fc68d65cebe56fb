-- Missions whose transfers are counted here.
use Rattle.std.specs.Prelude.{ℕ, [], ◌∷◌, map, replicate, Some, None, pos, codes}
use Rattle.guards_model.specs.declared.Slot.TheVariants.{Request}
use Rattle.guards_model.specs.declared.Op.TheVariants.{Add}
use Rattle.guards_model.specs.declared.Law.TheVariants.{Multiply}
use Rattle.guards_model.specs.Contexts.{zeroed}
use Rattle.guards_model.specs.Expressions.{number, block_word, binary}
use Rattle.guards_model.specs.Faults.{crash, restart}
use Rattle.guards_model.specs.Missions.{MissionValue}
use Rattle.guards_model.specs.Tasks.{WriteValue}

-- a write that counts on in the first word of a block
abbrev pub counts_in : ℕ → WriteValue
counts_in b = record { block = b; set = Some (binary Add (block_word b 0) (number (pos 1))) ∷ replicate 7 None }

-- A channel crashes and is restarted, and each cycle writes four blocks where a plan copies three and a final frame has
-- two.
abbrev pub four_writes : MissionValue
four_writes =
    record {
      rules = record {
        channels = 5;
        blocks = 8;
        version = 1;
        law = Multiply;
        keep = 32768;
        decrement = 32768;
        threshold = 6553600;
        sweep = 3;
        last = 2;
        returning = 1;
      };
      cycles = 53;
      width = 1;
      return_after = 2;
      initial = zeroed 8;
      table = (record { name = codes "count"; writes = map counts_in (0 ∷ 1 ∷ 2 ∷ 3 ∷ []) } ∷ []) ∷ [];
      outputs = (0, 0) ∷ [];
      sensors = ((pos 5 ∷ []) ∷ (pos 5 ∷ []) ∷ (pos 5 ∷ []) ∷ (pos 5 ∷ []) ∷ (pos 5 ∷ []) ∷ []) ∷ [];
      script = crash 4 0 Request ∷ restart 4 1 ∷ [];
      actuator = None;
    }

-- Four blocks in two rows, of which one writes three and one two; a plan copies one, and a final frame has two.
abbrev pub late_fit : MissionValue
late_fit =
    record four_writes {
      rules = record four_writes.rules { blocks = 4; sweep = 1 };
      initial = zeroed 4;
      table = (record { name = codes "three"; writes = map counts_in (0 ∷ 1 ∷ 2 ∷ []) } ∷ [])
          ∷ (record { name = codes "two"; writes = map counts_in (0 ∷ 1 ∷ []) } ∷ [])
          ∷ [];
    }
