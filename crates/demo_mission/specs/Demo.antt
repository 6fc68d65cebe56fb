-- The demo mission of a number, made by draws. This project's own.
use Rattle.std.specs.Prelude.{ℕ, zero, suc, ◌+◌, ◌*◌, ◌/◌, ◌%◌, ◌^◌, ℤ, pos, List, [], ◌∷◌, ◌++◌, map, replicate, Option, Some, None, codes, slice_get, unwrap_or}
use Rattle.std.specs.Fmt.{decimal}
use Rattle.guards_model.specs.declared.Slot.TheVariants.{Request, Vote}
use Rattle.guards_model.specs.declared.Op.TheVariants.{Add}
use Rattle.guards_model.specs.declared.Code.TheVariants.{Sat}
use Rattle.guards_model.specs.declared.Law.TheVariants.{Multiply}
use Rattle.guards_model.specs.Slots.{every_slot}
use Rattle.guards_model.specs.Contexts.{zeroed}
use Rattle.guards_model.specs.Expressions.{Expression, number, input, block_word, negative, binary, call}
use Rattle.guards_model.specs.Tasks.{TaskValue, WriteValue}
use Rattle.guards_model.specs.Faults.{FaultValue, crash, restart, bus}
use Rattle.guards_model.specs.BusRules.{lose}
use Rattle.guards_model.specs.Missions.{RulesValue, MissionValue}

-- ---- draws

-- the number that follows a number
unfoldable pub next_number : ℕ → ℕ
next_number x = (x * 6364136223846793005 + 1442695040888963407) % 2 ^ 64

-- what a draw below k gives of the number that followed
unfoldable pub drawn : ℕ → ℕ → ℕ
drawn k x = (x / 2 ^ 33) % k

-- so many draws below k, one after the other, from a number
unfoldable pub draws : ℕ → ℕ → ℕ → List ℕ
draws zero k x = []
draws (suc n) k x = drawn k (next_number x) ∷ draws n k (next_number x)

-- the number after so many draws
unfoldable pub number_after : ℕ → ℕ → ℕ
number_after zero x = x
number_after (suc n) x = number_after n (next_number x)

-- ---- sensors: for each word of a row a base below 1000, and for each of seven channels a draw below 5 on top

-- the words of the channels, and how many draws they take
unfoldable pub sensor_words : ℕ → List ℕ
sensor_words x = map (λ more. drawn 1000 (next_number x) + more) (draws 7 5 (next_number x))

-- the first and the second word of each channel
abbrev pub in_pairs : List ℕ → List ℕ → List (List ℤ)
in_pairs [] seconds = []
in_pairs (first ∷ firsts) [] = []
in_pairs (first ∷ firsts) (second ∷ seconds) = (pos first ∷ pos second ∷ []) ∷ in_pairs firsts seconds

-- so many rows, each of which takes 16 draws
unfoldable pub sensor_rows : ℕ → ℕ → List (List (List ℤ))
sensor_rows zero x = []
sensor_rows (suc n) x = in_pairs (sensor_words x) (sensor_words (number_after 8 x)) ∷ sensor_rows n (number_after 16 x)

-- ---- tasks: four writes each, of a block that is drawn below 128

abbrev pub demo_sets : ℕ → List (Option Expression)
demo_sets block =
    Some (binary Add (block_word block 0) (input 0))
    ∷ Some (call Sat (binary Add (block_word block 1) (input 1)) (negative (number (pos 1000))) (number (pos 1000)))
    ∷ replicate 6 None

abbrev pub demo_write : ℕ → WriteValue
demo_write block = record { block = block; set = demo_sets block }

-- the task of a number
unfoldable pub demo_task : ℕ → ℕ → TaskValue
demo_task n x = record { name = codes "t" ++ decimal n; writes = map demo_write (draws 4 128 x) }

-- so many tasks, numbered from n on
unfoldable pub demo_tasks : ℕ → ℕ → ℕ → List TaskValue
demo_tasks zero n x = []
demo_tasks (suc count) n x = demo_task n x ∷ demo_tasks count (n + 1) (number_after 4 x)

-- ---- faults: a crash and its restart, and later a vote frame that is lost

unfoldable pub demo_script : ℕ → ℕ → ℕ → List FaultValue
demo_script zero k x = []
demo_script (suc count) k x =
    let channel = drawn 7 (number_after 1 x) in
    let slot = unwrap_or (slice_get every_slot (drawn 9 (number_after 2 x))) Request in
    let sender = drawn 7 (number_after 3 x) in
    crash channel (40 * k + 5) slot
    ∷ restart channel (40 * k + 10)
    ∷ bus (record { cycle = 40 * k + 30; slot = Vote; from = sender; to = Some ((sender + 1) % 7); act = lose })
    ∷ demo_script count (k + 1) (number_after 3 x)

-- ---- the mission

abbrev pub demo_rules : RulesValue
demo_rules =
    record {
      channels = 7;
      blocks = 128;
      version = 1;
      law = Multiply;
      keep = 32768;
      decrement = 32768;
      threshold = 196608;
      sweep = 16;
      last = 8;
      returning = 1;
    }

-- the draw of the first write's block, after the 128 draws of the sensors
unfoldable pub first_block : ℕ → ℕ
first_block n = drawn 128 (next_number (number_after 128 n))

unfoldable pub demo_mission : ℕ → MissionValue
demo_mission n =
    record {
      rules = demo_rules;
      cycles = 400;
      width = 2;
      return_after = 3;
      initial = zeroed 128;
      table = map (λ task. task ∷ []) (demo_tasks 4 0 (number_after 128 n));
      outputs = (first_block n, 0) ∷ (first_block n, 1) ∷ [];
      sensors = sensor_rows 8 n;
      script = demo_script 10 0 (number_after 144 n);
      actuator = None;
    }
