-- What a line says, read from its letters.
use Rattle.std.specs.Prelude.{ℕ, ◌-◌, ◌==◌, Bool, ◌&&◌, ℤ, List, [], ◌∷◌, length, map, take, Option, Some, None, option_and_then, option_map, find, ◌++◌, if◌then◌else◌, codes}
use Rattle.std.specs.List.{slice_split}
use Rattle.std.specs.Str.{bytes_eq}
use Rattle.std.specs.Str.Parse.{digits_value, signed_digits_value}
use Rattle.guards_model.specs.declared.Actor.{Actor}
use Rattle.guards_model.specs.declared.Actor.TheVariants.{Task, Sweep}
use Rattle.guards_model.specs.declared.Slot.{Slot}
use Rattle.guards_model.specs.declared.Slot.TheVariants.{Output}
use Rattle.guards_model.specs.Slots.{every_slot, slot_text}
use Rattle.guards_model.specs.Channels.{ChannelSet}
use Rattle.guards_model.specs.Transfers.{TransferValue}
use Rattle.guards_model.specs.Texts.{TextValue}
use Rattle.guards_audit.specs.Lines.{ReportLine, head_told, cycle_told, channel_told, steps_told, end_told, out_told, done_told, stop_told, line_spelling, is_form}

-- a text at a letter
abbrev pub pieces_at : ℕ → TextValue → List TextValue
pieces_at letter text = slice_split (λ b. b == letter) text

abbrev pub number_in : TextValue → ℕ
number_in text = digits_value 10 text

abbrev pub word_in : TextValue → ℤ
word_in text = signed_digits_value 10 text

-- whether a text is just `-`
abbrev pub is_dash : TextValue → Bool
is_dash text = bytes_eq text (codes "-")

-- a set: `-`, or numbers at commas
abbrev pub set_in : TextValue → ChannelSet
set_in text = if is_dash text then [] else map number_in (pieces_at 44 text)

abbrev pub words_read : TextValue → List ℤ
words_read text = map word_in (pieces_at 44 text)

abbrev pub numbers_in : TextValue → List ℕ
numbers_in text = map number_in (pieces_at 44 text)

-- a transfer: `-`, or a set and a start at `@`
abbrev pub transfer_at : List TextValue → Option TransferValue
transfer_at (targets ∷ start ∷ []) = Some (record { targets = set_in targets; start = number_in start })
transfer_at _ = None

abbrev pub transfer_read : TextValue → Option TransferValue
transfer_read text = if is_dash text then None else transfer_at (pieces_at 64 text)

abbrev pub remaining_read : TextValue → Option ℕ
remaining_read text = if is_dash text then None else Some (number_in text)

-- a letter of a step: T is a write, any other a copy
abbrev pub step_of : ℕ → Actor
step_of letter = if letter == 84 then Task else Sweep

abbrev pub steps_read : TextValue → List Actor
steps_read text = if is_dash text then [] else map step_of text

-- the slot of this name
abbrev pub slot_in : TextValue → Option Slot
slot_in text = find (λ slot. bytes_eq text (slot_text slot)) (every_slot ++ Output ∷ [])

-- the line of some fields: each form has its own number of them, but for two forms with two that the first tells apart
abbrev pub line_at : List TextValue → Option ReportLine
line_at (first ∷ n ∷ []) =
    if bytes_eq first (codes "out") then Some (out_told (words_read n)) else Some (done_told (number_in n))
line_at (trace ∷ p ∷ letters ∷ []) = Some (steps_told (record { channel = number_in p; steps = steps_read letters }))
line_at (guards ∷ channels ∷ n ∷ cycles ∷ m ∷ []) = Some (head_told (number_in n) (number_in m))
line_at (cycle ∷ c ∷ active ∷ set ∷ transfer ∷ t ∷ []) = Some (cycle_told (number_in c) (set_in set) (transfer_read t))
line_at (end ∷ removed ∷ r ∷ joined ∷ j ∷ remaining ∷ n ∷ []) = Some (end_told (set_in r) (set_in j) (remaining_read n))
line_at (stop ∷ cycle ∷ c ∷ slot ∷ name ∷ disturbed ∷ d ∷ active ∷ a ∷ []) =
    option_map
    (λ s. stop_told (record { cycle = number_in c; slot = s; set = set_in d; active = set_in a })) (slot_in name)
line_at (ch ∷ p ∷ in_ ∷ inputs ∷ vote ∷ votes ∷ judged ∷ set ∷ alpha ∷ counts ∷ []) =
    Some (channel_told (record {
      channel = number_in p;
      inputs = words_read inputs;
      votes = map (λ w. Some w) (words_read votes);
      judged = set_in set;
      counts = numbers_in counts;
    }))
line_at _ = None

-- the line, where it is of its form and the text is its spelling
abbrev pub if_spelled : TextValue → ReportLine → Option ReportLine
if_spelled text line = if is_form line && bytes_eq text (line_spelling line) then Some line else None

-- the line that a text spells
unfoldable pub line_read : TextValue → Option ReportLine
line_read text = option_and_then (if_spelled text) (line_at (pieces_at 32 (take (length text - 1) text)))
