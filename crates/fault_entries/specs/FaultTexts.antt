-- The key `fault` of a mission: the entries of its fault script, and the rules of the script. This project's own.
use Rattle.std.specs.Prelude.{ℕ, ℤ, ◌^◌, ◌-◌, Bool, true, ◌&&◌, ◌||◌, nat_le, List, [], ◌∷◌, ◌++◌, map, codes, find, slice_get, Option, Some, None, Result, Ok, Err, if◌then◌else◌}
use Rattle.std.specs.List.{list_all}
use Rattle.std.specs.Str.{bytes_eq}
use Rattle.toml.specs.Data.{Data, Members, get_member}
use Rattle.hex.specs.Hex.{decode_of}
use Rattle.hex.specs.declared.error.FromHexError.{FromHexError}
use Rattle.guards_model.specs.declared.Slot.{Slot}
use Rattle.guards_model.specs.declared.Slot.TheVariants.{Output}
use Rattle.guards_model.specs.Slots.{every_slot, slot_text}
use Rattle.guards_model.specs.BusRules.{lose, forge}
use Rattle.guards_model.specs.Faults.{FaultValue, crash, restart, damage, bus}
use Rattle.guards_model.specs.ScriptFaults.{ScriptFaultValue, too_many_entries, wrong_cycle, wrong_channel, wrong_block, wrong_word, wrong_receiver, long_piece, script_fault}
use Rattle.fault_script.specs.Entries.{is_for_bus}
use Rattle.document_checks.specs.declared.why.Cause.TheVariants.{OutOfRange, Unknown}
use Rattle.document_checks.specs.Checks.{Checked, ◌>>=◌, fails, field, element, required, text_of, integer_of, integer_in, table_of, array_of, only, demand, number, each, alone}

-- ---- slots

abbrev pub named_slot : List ℕ → Option Slot → Checked Slot
named_slot path None = fails Unknown path
named_slot path (Some slot) = Ok slot

-- a slot by its name, one of these
unfoldable pub slot_at : List Slot → List ℕ → Data → Checked Slot
slot_at slots path value = do
  text ← text_of path value
  named_slot path (find (λ slot. bytes_eq text (slot_text slot)) slots)

unfoldable pub slot_field : List Slot → List ℕ → Members → Checked Slot
slot_field slots path fields = do
  value ← required path (codes "slot") fields
  slot_at slots (field path (codes "slot")) value

-- A piece is lost or forged in any slot. A channel crashes in a slot of the cycle.
abbrev pub piece_slots : List Slot
piece_slots = every_slot ++ Output ∷ []

-- ---- forged pieces

-- a digit 0 to 9 or a to f
abbrev pub is_lower_digit : ℕ → Bool
is_lower_digit b = (nat_le 48 b && nat_le b 57) || (nat_le 97 b && nat_le b 102)

abbrev pub decoded : List ℕ → Result (List ℕ) FromHexError → Checked (List ℕ)
decoded path (Ok bytes) = Ok bytes
decoded path (Err error) = fails OutOfRange path

-- bytes as digits, two for each
unfoldable pub piece_at : List ℕ → Data → Checked (List ℕ)
piece_at path value = do
  text ← text_of path value
  _ ← demand (list_all is_lower_digit text) OutOfRange path
  decoded path (decode_of text)

unfoldable pub piece_field : List ℕ → Members → Checked (List ℕ)
piece_field path fields = do
  given ← required path (codes "bytes") fields
  piece_at (field path (codes "bytes")) given

-- ---- single fields

unfoldable pub cycle_field : List ℕ → Members → Checked ℕ
cycle_field path fields = number 0 (2 ^ 32 - 1) path (codes "cycle") fields

-- a number of a byte
unfoldable pub byte_field : List ℕ → List ℕ → Members → Checked ℕ
byte_field path key fields = number 0 255 path key fields

-- the sender of a piece, of whatever number a channel may have
unfoldable pub sender_field : List ℕ → Members → Checked ℕ
sender_field path fields = number 0 6 path (codes "from") fields

abbrev pub receiver_or_all : List ℕ → Option Data → Checked (Option ℕ)
receiver_or_all path None = Ok None
receiver_or_all path (Some value) = integer_in 0 255 path value >>= λ to. Ok (Some to)

-- a receiver, or without this key every receiver
unfoldable pub receiver_field : List ℕ → Members → Checked (Option ℕ)
receiver_field path fields = receiver_or_all (field path (codes "to")) (get_member (codes "to") fields)

-- the value of a damaged word
unfoldable pub value_field : List ℕ → Members → Checked ℤ
value_field path fields = do
  given ← required path (codes "value") fields
  integer_of (field path (codes "value")) given

-- ---- entries by their kind

abbrev pub crash_keys : List (List ℕ)
crash_keys = codes "kind" ∷ codes "cycle" ∷ codes "slot" ∷ codes "channel" ∷ []

unfoldable pub crash_at : List ℕ → Members → Checked FaultValue
crash_at path fields = do
  _ ← only crash_keys path fields
  cycle ← cycle_field path fields
  slot ← slot_field every_slot path fields
  channel ← byte_field path (codes "channel") fields
  Ok (crash channel cycle slot)

abbrev pub restart_keys : List (List ℕ)
restart_keys = codes "kind" ∷ codes "cycle" ∷ codes "channel" ∷ []

unfoldable pub restart_at : List ℕ → Members → Checked FaultValue
restart_at path fields = do
  _ ← only restart_keys path fields
  cycle ← cycle_field path fields
  channel ← byte_field path (codes "channel") fields
  Ok (restart channel cycle)

abbrev pub damage_keys : List (List ℕ)
damage_keys = codes "kind" ∷ codes "cycle" ∷ codes "channel" ∷ codes "block" ∷ codes "word" ∷ codes "value" ∷ []

unfoldable pub damage_at : List ℕ → Members → Checked FaultValue
damage_at path fields = do
  _ ← only damage_keys path fields
  cycle ← cycle_field path fields
  channel ← byte_field path (codes "channel") fields
  block ← byte_field path (codes "block") fields
  word ← byte_field path (codes "word") fields
  value ← value_field path fields
  Ok (damage channel cycle block word value)

abbrev pub lose_keys : List (List ℕ)
lose_keys = codes "kind" ∷ codes "cycle" ∷ codes "slot" ∷ codes "from" ∷ codes "to" ∷ []

unfoldable pub lose_at : List ℕ → Members → Checked FaultValue
lose_at path fields = do
  _ ← only lose_keys path fields
  cycle ← cycle_field path fields
  slot ← slot_field piece_slots path fields
  from ← sender_field path fields
  to ← receiver_field path fields
  Ok (bus (record { cycle = cycle; slot = slot; from = from; to = to; act = lose }))

abbrev pub forge_keys : List (List ℕ)
forge_keys = codes "kind" ∷ codes "cycle" ∷ codes "slot" ∷ codes "from" ∷ codes "to" ∷ codes "bytes" ∷ []

unfoldable pub forge_at : List ℕ → Members → Checked FaultValue
forge_at path fields = do
  _ ← only forge_keys path fields
  cycle ← cycle_field path fields
  slot ← slot_field piece_slots path fields
  from ← sender_field path fields
  to ← receiver_field path fields
  piece ← piece_field path fields
  Ok (bus (record { cycle = cycle; slot = slot; from = from; to = to; act = forge piece }))

abbrev pub fault_of_kind : List ℕ → List ℕ → Members → Checked FaultValue
fault_of_kind kind path fields =
    if bytes_eq kind (codes "crash") then crash_at path fields
    else if bytes_eq kind (codes "restart") then restart_at path fields
    else if bytes_eq kind (codes "damage") then damage_at path fields
    else if bytes_eq kind (codes "lose") then lose_at path fields
    else if bytes_eq kind (codes "forge") then forge_at path fields
    else fails Unknown (field path (codes "kind"))

-- an entry: its kind first, and then what this kind has
unfoldable pub fault_at : List ℕ → Data → Checked FaultValue
fault_at path value = do
  fields ← table_of path value
  given ← required path (codes "kind") fields
  kind ← text_of (field path (codes "kind")) given
  fault_of_kind kind path fields

unfoldable pub faults_at : List ℕ → Data → Checked (List FaultValue)
faults_at path value = do
  items ← array_of path value
  each (alone fault_at) path [] items

-- ---- the script's own rules, when all entries were read

-- the field that names the channel of an entry for the bus, or of another one
abbrev pub channel_key : Option Bool → List ℕ
channel_key (Some true) = codes "from"
channel_key _ = codes "channel"

-- The path of what a broken rule is about. The flags say of each entry whether it is for the bus.
abbrev pub script_path : List ℕ → List Bool → ScriptFaultValue → List ℕ
script_path path flags too_many_entries = path
script_path path flags (wrong_cycle at) = field (element path at) (codes "cycle")
script_path path flags (wrong_channel at) = field (element path at) (channel_key (slice_get flags at))
script_path path flags (wrong_block at) = field (element path at) (codes "block")
script_path path flags (wrong_word at) = field (element path at) (codes "word")
script_path path flags (wrong_receiver at) = field (element path at) (codes "to")
script_path path flags (long_piece at) = field (element path at) (codes "bytes")

abbrev pub kept_script : List ℕ → List FaultValue → Option ScriptFaultValue → Checked (List FaultValue)
kept_script path faults None = Ok faults
kept_script path faults (Some fault) = fails OutOfRange (script_path path (map is_for_bus faults) fault)

-- the script at a path, for so many channels, cycles and blocks
unfoldable pub script_at : ℕ → ℕ → ℕ → List ℕ → Data → Checked (List FaultValue)
script_at channels cycles blocks path value = do
  faults ← faults_at path value
  kept_script path faults (script_fault channels cycles blocks faults)

abbrev pub script_or_empty : ℕ → ℕ → ℕ → List ℕ → Option Data → Checked (List FaultValue)
script_or_empty channels cycles blocks path None = Ok []
script_or_empty channels cycles blocks path (Some value) = script_at channels cycles blocks path value

-- the script of a document, empty without the key `fault`
unfoldable pub script_field : ℕ → ℕ → ℕ → Members → Checked (List FaultValue)
script_field channels cycles blocks fields =
    script_or_empty channels cycles blocks (codes "fault") (get_member (codes "fault") fields)
