-- What was read of each other key is within the ranges of a mission.
use Rattle.std.proofs.Common.{◌≡◌, ℕ, ◌-◌, ◌+◌, ◌≤◌, ℤ, Bool, true, false, ◌&&◌, ◌==◌, List, [], ◌∷◌, ◌++◌, length, map, Option, Some, None, Result, Ok, Err, codes, refl, sym, subst, ap, ◌∙◌, arith}
use Rattle.std.specs.Prelude.{if◌then◌else◌, nat_lt, nat_le, find}
use Rattle.std.specs.List.{list_all, position_or_len}
use Rattle.std.specs.Str.{bytes_eq}
use Rattle.std.specs.Option.{option_and_then}
use Rattle.std.proofs.lemmas.Bool.{lt-ltb, leb-true, eq-eqb, eqb-true}
use Rattle.std.proofs.lemmas.List.{length-append}
use Rattle.toml.specs.Data.{Data, Members, get_member}
use Rattle.guards_model.specs.Words.{is_word}
use Rattle.guards_model.specs.declared.Slot.{Slot}
use Rattle.guards_model.specs.Slots.{every_slot, on_bus, slot_text}
use Rattle.guards_model.specs.BusRules.{lose, forge}
use Rattle.guards_model.specs.Faults.{FaultValue, crash, restart, damage, bus}
use Rattle.guards_model.specs.ScriptFaults.{ScriptFaultValue, script_fault}
use Rattle.guards_model.specs.Contexts.{zeroed}
use Rattle.guards_model.specs.Expressions.{Expression, number, cycle_number, input, block_word, negative, binary, call, pick, fits_sizes, fits_or_none}
use Rattle.guards_model.specs.Tasks.{WriteValue, TaskValue}
use Rattle.guards_model.specs.Missions.{within, is_context, is_table, is_sensors}
use Rattle.guards_model.proofs.BoolTests.{both, and_true}
use Rattle.guards_model.proofs.ListTests.{all-append}
use Rattle.task_table.specs.declared.fault.TableFault.{TableFault}
use Rattle.task_table.specs.TableFaults.{table_fault}
use Rattle.task_table.specs.Tables.{named_tasks, names_tasks}
use Rattle.expr_text.specs.declared.fault.ExprFault.{ExprFault}
use Rattle.expr_text.specs.declared.state.Sizes.{Sizes}
use Rattle.expr_text.specs.Reading.{State, initial, after, byte_kind, finished, run}
use Rattle.expr_text.specs.Parsed.{ended, gone_on, read_from, within_size, parsed}
use Rattle.expr_text.proofs.Scan.{spelled_at_end}
use Rattle.expr_text.proofs.Canonical.{read_in}
use Rattle.expr_text.proofs.NamedInExpressions.{tree_fits}
use Rattle.fault_entries.specs.FaultTexts.{crash_keys, restart_keys, damage_keys, lose_keys, forge_keys, piece_slots, cycle_field, byte_field, sender_field, receiver_field, value_field, piece_field, named_slot, slot_at, slot_field, crash_at, restart_at, damage_at, lose_at, forge_at, fault_of_kind, fault_at, faults_at, kept_script, script_at, script_or_empty, script_field}
use Rattle.fault_entries.specs.Entries.{is_entry, FitsSizes}
use Rattle.fault_entries.proofs.SlotNames.{find_passes}
use Rattle.fault_entries.proofs.Fits.{script_fits}
use Rattle.fault_entries.proofs.FaultAnswers.{none_broken}
use Rattle.document_checks.specs.Checks as checks
use Rattle.document_checks.specs.Checks.{Checked, ◌>>=◌, fails, field, required, text_of, table_of, array_of, only, demand, alone, integers, how_many}
use Rattle.mission_text.specs.declared.blocks.InitBlock.{InitBlock}
use Rattle.mission_text.specs.Blocks.{init_block_at, init_blocks_at, with_blocks, initial_at, initial_or_zero, initial_field, is_init_block, is_block}
use Rattle.mission_text.specs.Expressions.{expression_or, expression_at}
use Rattle.mission_text.specs.Tasks.{expression_or_none, set_expression_at, four_sets_at, expressions_at, write_keys, write_at, name_at, writes_at, task_at, tasks_field, are_sets, is_read_task, has_name}
use Rattle.mission_text.specs.Rows.{place_or_unknown, place_at, row_at, rows_field, table_or, table_field}
use Rattle.mission_text.specs.Outputs.{word_or, output_at, outputs_field}
use Rattle.mission_text.specs.Sensors.{sensor_row_at, sensors_field}
use Rattle.mission_text.proofs.Contexts.{whole_start, zeroed_whole}
use Rattle.mission_text.proofs.TableParts.{table_whole}
use Rattle.mission_laws.specs.Integers.{holds_words, items_hold_words, members_hold_words}
use Rattle.mission_laws.proofs.CheckedWords.{Passes, passes_ok, passes_err, passes_then, passes_if, number_within, member_holds, required_holds, table_holds, array_holds, integer_is_word, sized_holds, each_passes, each_counts, are_words, integers_are, only_count}

-- ---- expressions

module _ (sizes : Sizes) where
  abbrev Ran : List ℕ → State → Expression → Type 0
  Ran bytes s e = (last : State) × (run sizes bytes s ≡ Some last) × (finished last ≡ Some e)

  complete : (at : ℕ) (answer : Option Expression) (e : Expression) → ended at answer ≡ Ok e → answer ≡ Some e
  complete at None e is = absurd cc
  complete at (Some x) e is = cc

  ran_on : (bytes : List ℕ) (at : ℕ) (e : Expression) (next : Option State)
      → ((s : State) → read_from sizes bytes (at + 1) s ≡ Ok e → Ran bytes s e)
      → gone_on at (read_from sizes bytes (at + 1)) next ≡ Ok e
      → (last : State) × (option_and_then (run sizes bytes) next ≡ Some last) × (finished last ≡ Some e)
  ran_on bytes at e None further is = absurd cc
  ran_on bytes at e (Some s) further is = further s is

  ran : (bytes : List ℕ) (at : ℕ) (s : State) (e : Expression) → read_from sizes bytes at s ≡ Ok e → Ran bytes s e
  ran [] at s e is = (s, refl, complete at (finished s) e is)
  ran (byte ∷ bytes) at s e is =
      ran_on bytes at e (after sizes s (byte_kind byte)) (λ next more. ran bytes (at + 1) next e more) is

  small_one : (b : Bool) (x e : Expression) (fault : ExprFault) → (if b then Ok x else Err fault) ≡ Ok e → x ≡ e
  small_one true x e fault is = cc
  small_one false x e fault is = absurd cc

  measured : (r : Result Expression ExprFault) (e : Expression) → within_size r ≡ Ok e → r ≡ Ok e
  measured (Ok x) e is = ap Ok (small_one _ x e _ is)
  measured (Err fault) e is = absurd cc

  short_one : (b : Bool) (r : Result Expression ExprFault) (fault : ExprFault) (e : Expression)
      → (if b then Err fault else r) ≡ Ok e → r ≡ Ok e
  short_one true r fault e is = absurd cc
  short_one false r fault e is = is

  parsed_fits : sizes.blocks ≤ 256 → (text : List ℕ) (e : Expression) → parsed sizes text ≡ Ok e
      → fits_sizes sizes.blocks sizes.width e ≡ true
  unfolding parsed
  parsed_fits few text e is =
      let all = ran text 0 initial e
      (measured (read_from sizes text 0 initial) e
      (short_one (nat_lt 1100 (length text)) (within_size (read_from sizes text 0 initial)) _ e is)) in
      tree_fits sizes few e (read_in sizes few text e (spelled_at_end sizes few text all.0 e all.1 (sym all.2)))

module _ (blocks width : ℕ) (few : blocks ≤ 256) where
  abbrev fits : Expression → Bool
  fits e = fits_sizes blocks width e

  answer_fits : (count : ℕ) (path : List ℕ) (answer : Result Expression ExprFault)
      → ((e : Expression) → answer ≡ Ok e → fits e ≡ true) → Passes fits (expression_or count path answer)
  answer_fits count path (Ok e) h = passes_ok fits e (h e refl)
  answer_fits count path (Err fault) h = passes_err fits _

  expression_fits : (path : List ℕ) (value : Data) → Passes fits (expression_at blocks width path value)
  unfolding expression_at
  expression_fits path value =
      passes_then fits (text_of path value) _ (λ text _.
      answer_fits (length text) path (parsed (record { blocks = blocks; width = width }) text)
      (parsed_fits (record { blocks = blocks; width = width }) few text))

  -- ---- outputs

  abbrev is_output : (ℕ × ℕ) → Bool
  is_output o = nat_lt o.0 blocks && nat_lt o.1 8

  word_is : (path : List ℕ) (e : Expression) → fits e ≡ true → Passes is_output (word_or path e)
  word_is path (block_word i j) h = passes_ok is_output (i, j) h
  word_is path (number z) h = passes_err is_output _
  word_is path cycle_number h = passes_err is_output _
  word_is path (input k) h = passes_err is_output _
  word_is path (negative a) h = passes_err is_output _
  word_is path (binary op a b) h = passes_err is_output _
  word_is path (call code x y z) h = passes_err is_output _
  word_is path (pick x y z) h = passes_err is_output _

  output_is : (path : List ℕ) (value : Data) → Passes is_output (output_at blocks width path value)
  unfolding output_at
  output_is path value = passes_then is_output (expression_at blocks width path value) _
      (λ e given. word_is path e (expression_fits path value e given))

  abbrev pub are_outputs : List (ℕ × ℕ) → Bool
  are_outputs outputs = within 1 8 (length outputs) && list_all (λ o. nat_lt o.0 blocks && nat_lt o.1 8) outputs

  pub outputs_in : (fields : Members) → members_hold_words fields ≡ true
      → Passes are_outputs (outputs_field blocks width fields)
  unfolding outputs_field
  outputs_in fields all =
      passes_then are_outputs (required [] (codes "outputs") fields) _ (λ value given.
      passes_then are_outputs (checks.sized 1 8 (codes "outputs") value) _ (λ items some outputs is.
      let parts = both (within 1 8 (how_many items)) (items_hold_words items)
      (sized_holds 1 8 (codes "outputs") value (required_holds [] (codes "outputs") fields all value given) items
      some) in
      and_true (within 1 8 (length outputs)) (list_all is_output outputs)
      (subst (λ n. within 1 8 n ≡ true)
      (sym (eqb-true (length outputs) (how_many items)
      (each_counts (alone (output_at blocks width)) (codes "outputs") items outputs is))) parts.0)
      (each_passes (alone (output_at blocks width)) is_output (λ done path value _. output_is path value)
      (codes "outputs") [] items parts.1 refl outputs is)))

  -- ---- tasks

  abbrev is_set : Option Expression → Bool
  is_set e = fits_or_none blocks width e

  optional_fits : (path : List ℕ) (given : Option Data) → Passes is_set (expression_or_none blocks width path given)
  optional_fits path None = passes_ok is_set None refl
  optional_fits path (Some value) =
      passes_then is_set (expression_at blocks width path value) _
      (λ e given. passes_ok is_set (Some e) (expression_fits path value e given))

  set_fits : (path key : List ℕ) (fields : Members) → Passes is_set (set_expression_at blocks width path key fields)
  unfolding set_expression_at
  set_fits path key fields = optional_fits (field path key) (get_member key fields)

  abbrev are_four : List (Option Expression) → Bool
  are_four set = length set == 4 && list_all is_set set

  four_fit : (path k0 k1 k2 k3 : List ℕ) (fields : Members)
      → Passes are_four (four_sets_at blocks width path k0 k1 k2 k3 fields)
  unfolding four_sets_at
  four_fit path k0 k1 k2 k3 fields =
      passes_then are_four (set_expression_at blocks width path k0 fields) _ (λ a x.
      passes_then are_four (set_expression_at blocks width path k1 fields) _ (λ b y.
      passes_then are_four (set_expression_at blocks width path k2 fields) _ (λ c z.
      passes_then are_four (set_expression_at blocks width path k3 fields) _ (λ d w.
      passes_ok are_four (a ∷ b ∷ c ∷ d ∷ [])
      (and_true (is_set a) (is_set b && (is_set c && (is_set d && true))) (set_fits path k0 fields a x)
      (and_true (is_set b) (is_set c && (is_set d && true)) (set_fits path k1 fields b y)
      (and_true (is_set c) (is_set d && true) (set_fits path k2 fields c z)
      (and_true (is_set d) true (set_fits path k3 fields d w) refl))))))))

  abbrev are_eight : List (Option Expression) → Bool
  are_eight set = are_sets blocks width set

  joined : (low high : List (Option Expression)) → are_four low ≡ true → are_four high ≡ true
      → are_eight (low ++ high) ≡ true
  joined low high l h =
      let a = both (length low == 4) (list_all is_set low) l in
      let b = both (length high == 4) (list_all is_set high) h in
      and_true (length (low ++ high) == 8) (list_all is_set (low ++ high))
      (eq-eqb (length (low ++ high)) 8
      (length-append low high ∙ omega (arith, eqb-true (length low) 4 a.0, eqb-true (length high) 4 b.0)))
      (all-append is_set low high a.1 b.1)

  sets_fit : (path : List ℕ) (fields : Members) → Passes are_eight (expressions_at blocks width path fields)
  unfolding expressions_at
  sets_fit path fields =
      passes_then are_eight (four_sets_at blocks width path (codes "w0") (codes "w1") (codes "w2") (codes "w3") fields)
      _ (λ low l.
      passes_then are_eight (four_sets_at blocks width path (codes "w4") (codes "w5") (codes "w6") (codes "w7") fields)
      _ (λ high h.
      passes_ok are_eight (low ++ high)
      (joined low high (four_fit path (codes "w0") (codes "w1") (codes "w2") (codes "w3") fields low l)
      (four_fit path (codes "w4") (codes "w5") (codes "w6") (codes "w7") fields high h))))

  abbrev is_read_write : WriteValue → Bool
  is_read_write write = are_sets blocks width write.set

  write_fits : (path : List ℕ) (value : Data) → Passes is_read_write (write_at blocks width path value)
  unfolding write_at
  write_fits path value =
      passes_then is_read_write (table_of path value) _ (λ fields _.
      passes_then is_read_write (only write_keys path fields) _ (λ _ _.
      passes_then is_read_write (checks.number 0 255 path (codes "block") fields) _ (λ block _.
      passes_then is_read_write (expressions_at blocks width path fields) _ (λ set given.
      passes_ok is_read_write (record { block = block; set = set }) (sets_fit path fields set given)))))

  writes_fit : (path : List ℕ) (fields : Members) → members_hold_words fields ≡ true
      → Passes (list_all is_read_write) (writes_at blocks width path fields)
  unfolding writes_at
  writes_fit path fields all =
      passes_then (list_all is_read_write) (required path (codes "writes") fields) _ (λ value given.
      passes_then (list_all is_read_write) (array_of (field path (codes "writes")) value) _ (λ items array.
      each_passes (alone (write_at blocks width)) is_read_write (λ done path value _. write_fits path value)
      (field path (codes "writes")) [] items
      (array_holds (field path (codes "writes")) value (required_holds path (codes "writes") fields all value given)
      items array) refl))

  abbrev pub is_task_read : TaskValue → Bool
  is_task_read task = is_read_task blocks width task

  task_fits : (earlier : List TaskValue) (path : List ℕ) (value : Data) → holds_words value ≡ true
      → Passes is_task_read (task_at blocks width earlier path value)
  unfolding task_at
  task_fits earlier path value h =
      passes_then is_task_read (table_of path value) _ (λ fields given.
      passes_then is_task_read (only (codes "name" ∷ codes "writes" ∷ []) path fields) _ (λ _ _.
      passes_then is_task_read (name_at earlier path fields) _ (λ name _.
      passes_then is_task_read (writes_at blocks width path fields) _ (λ writes read.
      passes_ok is_task_read (record { name = name; writes = writes })
      (writes_fit path fields (table_holds path value h fields given) writes read)))))

  tasks_fit : (fields : Members) → members_hold_words fields ≡ true
      → Passes (list_all is_task_read) (tasks_field blocks width fields)
  unfolding tasks_field
  tasks_fit fields all =
      passes_then (list_all is_task_read) (required [] (codes "task") fields) _ (λ value given.
      passes_then (list_all is_task_read) (array_of (codes "task") value) _ (λ items array.
      each_passes (task_at blocks width) is_task_read task_fits (codes "task") [] items
      (array_holds (codes "task") value (required_holds [] (codes "task") fields all value given) items array) refl))

  -- ---- the table

  module _ (tasks : List TaskValue) where
    abbrev is_place : ℕ → Bool
    is_place place = nat_lt place (length tasks)

    chosen_place : (path : List ℕ) (place : ℕ) (b : Bool) → nat_lt place (length tasks) ≡ b
        → Passes is_place (place_or_unknown path (if b then Some place else None))
    chosen_place path place true h = passes_ok is_place place h
    chosen_place path place false h = passes_err is_place _

    place_is : (path : List ℕ) (value : Data) → Passes is_place (place_at tasks path value)
    unfolding place_at
    place_is path value =
        passes_then is_place (text_of path value) _ (λ name _.
        chosen_place path (position_or_len (has_name name) tasks)
        (nat_lt (position_or_len (has_name name) tasks) (length tasks)) refl)

    row_names : (path : List ℕ) (value : Data) → holds_words value ≡ true
        → Passes (names_tasks (length tasks)) (row_at tasks path value)
    unfolding row_at
    row_names path value h =
        passes_then (names_tasks (length tasks)) (array_of path value) _ (λ items array.
        each_passes (alone (place_at tasks)) is_place (λ done path value _. place_is path value) path [] items
        (array_holds path value h items array) refl)

    rows_name : (fields : Members) → members_hold_words fields ≡ true
        → Passes (list_all (names_tasks (length tasks))) (rows_field tasks fields)
    unfolding rows_field
    rows_name fields all =
        passes_then (list_all (names_tasks (length tasks))) (required [] (codes "table") fields) _ (λ value given.
        passes_then (list_all (names_tasks (length tasks))) (array_of (codes "table") value) _ (λ items array.
        each_passes (alone (row_at tasks)) (names_tasks (length tasks)) (λ done path value h. row_names path value h)
        (codes "table") [] items
        (array_holds (codes "table") value (required_holds [] (codes "table") fields all value given) items array)
        refl))

  abbrev pub is_whole_table : List (List TaskValue) → Bool
  is_whole_table table = is_table blocks width table

  faultless : (rows : List (List TaskValue)) (fault : Option TableFault) → (fault ≡ None → is_whole_table rows ≡ true)
      → Passes is_whole_table (table_or rows fault)
  faultless rows None h = passes_ok is_whole_table rows (h refl)
  faultless rows (Some fault) h = passes_err is_whole_table _

  pub table_in : (fields : Members) → members_hold_words fields ≡ true
      → Passes is_whole_table (table_field blocks width fields)
  unfolding table_field
  table_in fields all =
      passes_then is_whole_table (tasks_field blocks width fields) _ (λ tasks given.
      passes_then is_whole_table (rows_field tasks fields) _ (λ rows named.
      faultless (map (named_tasks tasks) rows) (table_fault blocks tasks rows)
      (table_whole blocks width tasks rows (tasks_fit fields all tasks given) (rows_name tasks fields all rows named))))

-- ---- the context at first

module _ (blocks : ℕ) (some : 1 ≤ blocks) where
  below_all : (block : ℕ) → within 0 (blocks - 1) block ≡ true → nat_lt block blocks ≡ true
  below_all block h = let most = leb-true block (blocks - 1) (both (nat_le 0 block) (nat_le block (blocks - 1)) h).1 in
      lt-ltb block blocks (omega (arith, most, some))

  block_in : (earlier : List InitBlock) (path : List ℕ) (value : Data) → holds_words value ≡ true
      → Passes (is_init_block blocks) (init_block_at blocks earlier path value)
  unfolding init_block_at
  block_in earlier path value h =
      passes_then (is_init_block blocks) (table_of path value) _ (λ fields given.
      passes_then (is_init_block blocks) (only (codes "block" ∷ codes "words" ∷ []) path fields) _ (λ _ _.
      passes_then (is_init_block blocks) (checks.number 0 (blocks - 1) path (codes "block") fields) _ (λ block a.
      passes_then (is_init_block blocks) (demand _ _ (field path (codes "block"))) _ (λ _ _.
      passes_then (is_init_block blocks) (required path (codes "words") fields) _ (λ list b.
      passes_then (is_init_block blocks) (integers 8 (field path (codes "words")) list) _ (λ words c.
      passes_ok (is_init_block blocks) (record { block = block; words = words })
      (and_true (nat_lt block blocks) (is_block words)
      (below_all block (number_within 0 (blocks - 1) path (codes "block") fields block a))
      (integers_are 8 (field path (codes "words")) list
      (required_holds path (codes "words") fields (table_holds path value h fields given) list b) words c))))))))

  blocks_in : (path : List ℕ) (value : Data) → holds_words value ≡ true
      → Passes (list_all (is_init_block blocks)) (init_blocks_at blocks path value)
  unfolding init_blocks_at
  blocks_in path value h =
      passes_then (list_all (is_init_block blocks)) (checks.sized 0 256 path value) _ (λ items given.
      each_passes (init_block_at blocks) (is_init_block blocks) block_in path [] items
      (both (within 0 256 (how_many items)) (items_hold_words items) (sized_holds 0 256 path value h items given)).1
      refl)

  start_in : (path : List ℕ) (value : Data) → holds_words value ≡ true
      → Passes (is_context blocks) (initial_at blocks path value)
  unfolding initial_at
  start_in path value h =
      passes_then (is_context blocks) (init_blocks_at blocks path value) _ (λ named given.
      passes_ok (is_context blocks) (with_blocks named (zeroed blocks))
      (whole_start blocks named (blocks_in path value h named given)))

  optional_start : (path : List ℕ) (given : Option Data)
      → ((value : Data) → given ≡ Some value → holds_words value ≡ true)
      → Passes (is_context blocks) (initial_or_zero blocks path given)
  optional_start path None h = passes_ok (is_context blocks) (zeroed blocks) (zeroed_whole blocks)
  optional_start path (Some value) h = start_in path value (h value refl)

  pub initial_in : (fields : Members) → members_hold_words fields ≡ true
      → Passes (is_context blocks) (initial_field blocks fields)
  unfolding initial_field
  initial_in fields all = optional_start (codes "init") (get_member (codes "init") fields)
      (λ value is. member_holds (codes "init") fields value all is)

-- ---- sensors

module _ (channels width : ℕ) where
  abbrev is_row_read : List (List ℤ) → Bool
  is_row_read row = length row == channels && list_all (are_words width) row

  row_in : (path : List ℕ) (value : Data) → holds_words value ≡ true
      → Passes is_row_read (sensor_row_at channels width path value)
  unfolding sensor_row_at
  row_in path value h =
      passes_then is_row_read (checks.sized channels channels path value) _ (λ items given row is.
      let parts = both (within channels channels (how_many items)) (items_hold_words items)
      (sized_holds channels channels path value h items given) in
      and_true (length row == channels) (list_all (are_words width) row)
      (subst (λ n. (length row == n) ≡ true) (only_count channels (how_many items) parts.0)
      (each_counts (alone (integers width)) path items row is))
      (each_passes (alone (integers width)) (are_words width) (λ done path value h. integers_are width path value h)
      path [] items parts.1 refl row is))

  pub sensors_in : (fields : Members) → members_hold_words fields ≡ true
      → Passes (is_sensors channels width) (sensors_field channels width fields)
  unfolding sensors_field
  sensors_in fields all =
      passes_then (is_sensors channels width) (required [] (codes "sensors") fields) _ (λ value given.
      passes_then (is_sensors channels width) (checks.sized 1 64 (codes "sensors") value) _ (λ items some rows is.
      let parts = both (within 1 64 (how_many items)) (items_hold_words items)
      (sized_holds 1 64 (codes "sensors") value (required_holds [] (codes "sensors") fields all value given) items
      some) in
      and_true (within 1 64 (length rows)) (list_all is_row_read rows)
      (subst (λ n. within 1 64 n ≡ true)
      (sym (eqb-true (length rows) (how_many items)
      (each_counts (alone (sensor_row_at channels width)) (codes "sensors") items rows is))) parts.0)
      (each_passes (alone (sensor_row_at channels width)) is_row_read (λ done path value h. row_in path value h)
      (codes "sensors") [] items parts.1 refl rows is)))

-- ---- faults

named_on_bus : (path : List ℕ) (given : Option Slot) → ((slot : Slot) → given ≡ Some slot → on_bus slot ≡ true)
    → Passes on_bus (named_slot path given)
named_on_bus path None h = passes_err on_bus _
named_on_bus path (Some slot) h = passes_ok on_bus slot (h slot refl)

slot_on_bus : (path : List ℕ) (fields : Members) → Passes on_bus (slot_field every_slot path fields)
unfolding slot_field slot_at
slot_on_bus path fields =
    passes_then on_bus (required path (codes "slot") fields) _ (λ value _.
    passes_then on_bus (text_of (field path (codes "slot")) value) _ (λ text _.
    named_on_bus (field path (codes "slot")) (find (λ slot. bytes_eq text (slot_text slot)) every_slot)
    (find_passes (λ slot. bytes_eq text (slot_text slot)) on_bus every_slot refl)))

crash_in : (path : List ℕ) (fields : Members) → Passes is_entry (crash_at path fields)
unfolding crash_at
crash_in path fields =
    passes_then is_entry (only crash_keys path fields) _ (λ _ _.
    passes_then is_entry (cycle_field path fields) _ (λ cycle _.
    passes_then is_entry (slot_field every_slot path fields) _ (λ slot given.
    passes_then is_entry (byte_field path (codes "channel") fields) _ (λ channel _.
    passes_ok is_entry (crash channel cycle slot) (slot_on_bus path fields slot given)))))

restart_in : (path : List ℕ) (fields : Members) → Passes is_entry (restart_at path fields)
unfolding restart_at
restart_in path fields =
    passes_then is_entry (only restart_keys path fields) _ (λ _ _.
    passes_then is_entry (cycle_field path fields) _ (λ cycle _.
    passes_then is_entry (byte_field path (codes "channel") fields) _ (λ channel _.
    passes_ok is_entry (restart channel cycle) refl)))

value_is_word : (path : List ℕ) (fields : Members) → members_hold_words fields ≡ true
    → Passes is_word (value_field path fields)
unfolding value_field
value_is_word path fields all =
    passes_then is_word (required path (codes "value") fields) _ (λ value given.
    integer_is_word (field path (codes "value")) value (required_holds path (codes "value") fields all value given))

damage_in : (path : List ℕ) (fields : Members) → members_hold_words fields ≡ true
    → Passes is_entry (damage_at path fields)
unfolding damage_at
damage_in path fields all =
    passes_then is_entry (only damage_keys path fields) _ (λ _ _.
    passes_then is_entry (cycle_field path fields) _ (λ cycle _.
    passes_then is_entry (byte_field path (codes "channel") fields) _ (λ channel _.
    passes_then is_entry (byte_field path (codes "block") fields) _ (λ block _.
    passes_then is_entry (byte_field path (codes "word") fields) _ (λ word _.
    passes_then is_entry (value_field path fields) _ (λ value given.
    passes_ok is_entry (damage channel cycle block word value) (value_is_word path fields all value given)))))))

lose_in : (path : List ℕ) (fields : Members) → Passes is_entry (lose_at path fields)
unfolding lose_at
lose_in path fields =
    passes_then is_entry (only lose_keys path fields) _ (λ _ _.
    passes_then is_entry (cycle_field path fields) _ (λ cycle _.
    passes_then is_entry (slot_field piece_slots path fields) _ (λ slot _.
    passes_then is_entry (sender_field path fields) _ (λ from _.
    passes_then is_entry (receiver_field path fields) _ (λ to _.
    passes_ok is_entry (bus (record { cycle = cycle; slot = slot; from = from; to = to; act = lose })) refl)))))

forge_in : (path : List ℕ) (fields : Members) → Passes is_entry (forge_at path fields)
unfolding forge_at
forge_in path fields =
    passes_then is_entry (only forge_keys path fields) _ (λ _ _.
    passes_then is_entry (cycle_field path fields) _ (λ cycle _.
    passes_then is_entry (slot_field piece_slots path fields) _ (λ slot _.
    passes_then is_entry (sender_field path fields) _ (λ from _.
    passes_then is_entry (receiver_field path fields) _ (λ to _.
    passes_then is_entry (piece_field path fields) _ (λ piece _.
    passes_ok is_entry (bus (record { cycle = cycle; slot = slot; from = from; to = to; act = forge piece })) refl))))))

kind_in : (kind path : List ℕ) (fields : Members) → members_hold_words fields ≡ true
    → Passes is_entry (fault_of_kind kind path fields)
kind_in kind path fields all =
    let unknown = fails _ (field path (codes "kind")) in
    let fifth = if bytes_eq kind (codes "forge") then forge_at path fields else unknown in
    let fourth = if bytes_eq kind (codes "lose") then lose_at path fields else fifth in
    let third = if bytes_eq kind (codes "damage") then damage_at path fields else fourth in
    let second = if bytes_eq kind (codes "restart") then restart_at path fields else third in
    passes_if is_entry (bytes_eq kind (codes "crash")) (crash_at path fields) second (λ _. crash_in path fields)
    (passes_if is_entry (bytes_eq kind (codes "restart")) (restart_at path fields) third (λ _. restart_in path fields)
    (passes_if is_entry (bytes_eq kind (codes "damage")) (damage_at path fields) fourth (λ _. damage_in path fields all)
    (passes_if is_entry (bytes_eq kind (codes "lose")) (lose_at path fields) fifth (λ _. lose_in path fields)
    (passes_if is_entry (bytes_eq kind (codes "forge")) (forge_at path fields) unknown (λ _. forge_in path fields)
    (passes_err is_entry _)))))

fault_in : (path : List ℕ) (value : Data) → holds_words value ≡ true → Passes is_entry (fault_at path value)
unfolding fault_at
fault_in path value h =
    passes_then is_entry (table_of path value) _ (λ fields given.
    passes_then is_entry (required path (codes "kind") fields) _ (λ name _.
    passes_then is_entry (text_of (field path (codes "kind")) name) _ (λ kind _.
    kind_in kind path fields (table_holds path value h fields given))))

faults_in : (path : List ℕ) (value : Data) → holds_words value ≡ true
    → Passes (list_all is_entry) (faults_at path value)
unfolding faults_at
faults_in path value h =
    passes_then (list_all is_entry) (array_of path value) _ (λ items array.
    each_passes (alone fault_at) is_entry (λ done path value h. fault_in path value h) path [] items
    (array_holds path value h items array) refl)

-- what holds of the script that is given
abbrev pub Gives : {A : Type 0} → (A → Type 0) → Checked A → Type 0
Gives {A} P checked = (x : A) → checked ≡ Ok x → P x

kept_fits : (channels cycles blocks : ℕ) (path : List ℕ) (faults : List FaultValue) → list_all is_entry faults ≡ true
    → (broken : Option ScriptFaultValue) → script_fault channels cycles blocks faults ≡ broken
    → Gives (FitsSizes channels cycles blocks) (kept_script path faults broken)
kept_fits channels cycles blocks path faults all None none script is =
    let e : faults ≡ script = cc in
    subst (λ s. FitsSizes channels cycles blocks s) e (script_fits channels cycles blocks faults all none)
kept_fits channels cycles blocks path faults all (Some fault) some script is = absurd cc

pub gives_then : {A B : Type 0} (P : B → Type 0) (earlier : Checked A) (later : A → Checked B)
    → ((x : A) → earlier ≡ Ok x → Gives P (later x)) → Gives P (earlier >>= later)
gives_then P (Ok x) later h script is = h x refl script is
gives_then P (Err why) later h script is = absurd cc

script_at_fits : (channels cycles blocks : ℕ) (path : List ℕ) (value : Data) → holds_words value ≡ true
    → Gives (FitsSizes channels cycles blocks) (script_at channels cycles blocks path value)
unfolding script_at
script_at_fits channels cycles blocks path value h =
    gives_then (FitsSizes channels cycles blocks) (faults_at path value) _ (λ faults given.
    kept_fits channels cycles blocks path faults (faults_in path value h faults given)
    (script_fault channels cycles blocks faults) refl)

optional_script : (channels cycles blocks : ℕ) (path : List ℕ) (given : Option Data)
    → ((value : Data) → given ≡ Some value → holds_words value ≡ true)
    → Gives (FitsSizes channels cycles blocks) (script_or_empty channels cycles blocks path given)
optional_script channels cycles blocks path None h script is =
    let e : [] ≡ script = cc in
    subst (λ s. FitsSizes channels cycles blocks s) e
    (script_fits channels cycles blocks [] refl (none_broken channels cycles blocks))
optional_script channels cycles blocks path (Some value) h script is =
    script_at_fits channels cycles blocks path value (h value refl) script is

pub script_in : (channels cycles blocks : ℕ) (fields : Members) → members_hold_words fields ≡ true
    → Gives (FitsSizes channels cycles blocks) (script_field channels cycles blocks fields)
unfolding script_field
script_in channels cycles blocks fields all =
    optional_script channels cycles blocks (codes "fault") (get_member (codes "fault") fields)
    (λ value is. member_holds (codes "fault") fields value all is)
