-- Reading a frame from left to right. A reader of a field answers its value and the bytes after it, or none where
-- no value of the field begins the bytes.
use Rattle.std.specs.Prelude.{ℕ, zero, suc, ◌-◌, ◌^◌, ◌/◌, ◌%◌, Bool, nat_lt, nat_le, ◌==◌, ℤ, List, [], ◌∷◌, length, take, drop, Option, Some, None, if◌then◌else◌}
use Rattle.std.specs.List.{list_all}
use Rattle.std.specs.Int.{Width, w16, w32, w64, byte_len, from_be_bytes, cast_signed}
use Rattle.guards_model.specs.Channels.{by_channel, Channel, ChannelSet, set_of_mask}
use Rattle.guards_model.specs.declared.Law.{Law}
use Rattle.guards_model.specs.declared.Law.TheVariants.{Multiply, Subtract}
use Rattle.guards_model.specs.Frames.{SourceValue, ItemValue, CopyValue, ControlWordValue, BodyValue, request_body, exchange_body, vote_body, sweep_body, final_body, switch_body, FrameValue, between, is_channel, is_distinct, path_in_range, items_ascend, numbers_of, each_next, count_cap, names_law}

-- what reads a field of the type A
abbrev pub Reader : Type 0 → Type 0
Reader A = List ℕ → Option (A × List ℕ)

infixl 10 ◌>>=◌
-- the next step, where there is a value
abbrev pub ◌>>=◌ : {A B : Type 0} → Option A → (A → Option B) → Option B
None >>= f = None
(Some x) >>= f = f x

-- ---- ways to read

-- the value as f makes it of what is read
abbrev pub mapped : {A B : Type 0} → (A → B) → Reader A → Reader B
mapped f read bytes = read bytes >>= λ x. Some (f x.0, x.1)

-- only a value that passes the test
abbrev pub checked : {A : Type 0} → (A → Bool) → Reader A → Reader A
checked test read bytes = read bytes >>= λ x. if test x.0 then Some x else None

-- one value and then another
abbrev pub pair : {A B : Type 0} → Reader A → Reader B → Reader (A × B)
pair first second bytes = first bytes >>= λ x. second x.1 >>= λ y. Some ((x.0, y.0), y.1)

-- so many values
unfoldable pub many : {A : Type 0} → Reader A → ℕ → Reader (List A)
many read zero bytes = Some ([], bytes)
many read (suc n) bytes = read bytes >>= λ x. many read n x.1 >>= λ xs. Some (x.0 ∷ xs.0, xs.1)

-- ---- numbers

-- one byte
abbrev pub byte_at : Reader ℕ
byte_at [] = None
byte_at (b ∷ rest) = Some (b, rest)

-- a number of so many bytes, the highest first
abbrev pub number_at : Width → Reader ℕ
number_at w bytes =
    if nat_lt (length bytes) (byte_len w) then None
    else Some (from_be_bytes w (take (byte_len w) bytes), drop (byte_len w) bytes)

-- a byte that passes the test, and then so many values as it tells
unfoldable pub counted_by : {A : Type 0} → (ℕ → Bool) → Reader A → Reader (List A)
counted_by test read bytes = checked test byte_at bytes >>= λ n. many read n.0 n.1

-- nothing behind a byte 0, or the value behind a byte 1
unfoldable pub optional_at : {A : Type 0} → Reader A → Reader (Option A)
optional_at read [] = None
optional_at read (zero ∷ rest) = Some (None, rest)
optional_at read (suc zero ∷ rest) = mapped Some read rest
optional_at read (suc (suc b) ∷ rest) = None

-- a word
unfoldable pub word_at : Reader ℤ
word_at bytes = mapped (cast_signed w64) (number_at w64) bytes

-- ---- fields

-- the codes that the number packs, two bits for each channel
unfoldable pub unpacked_codes : ℕ → List ℕ
unpacked_codes n = by_channel (λ q. (n / 4 ^ q) % 4)

-- a channel
unfoldable pub channel_at : Reader Channel
channel_at bytes = checked is_channel byte_at bytes

-- a set, by its mask
unfoldable pub set_at : Reader ChannelSet
set_at bytes = mapped set_of_mask (checked (λ b. nat_lt b 128) byte_at) bytes

-- a law of decay
unfoldable pub law_at : Reader Law
law_at [] = None
law_at (zero ∷ rest) = None
law_at (suc zero ∷ rest) = Some (Multiply, rest)
law_at (suc (suc zero) ∷ rest) = Some (Subtract, rest)
law_at (suc (suc (suc b)) ∷ rest) = None

-- seven codes from 0 to 2
unfoldable pub codes_at : Reader (List ℕ)
codes_at bytes = checked (list_all (λ code. nat_le code 2))
    (mapped unpacked_codes (checked (λ n. nat_lt n (4 ^ 7)) (number_at w16))) bytes

-- a source word
unfoldable pub source_word_at : Reader SourceValue
source_word_at bytes =
    mapped (λ x. record { words = x.0; accuse = x.1.0; heard = x.1.1 })
    (pair (counted_by (between 1 4) word_at) (pair set_at codes_at)) bytes

-- so many labels
unfoldable pub labels_at : ℕ → Reader (List Channel)
labels_at n bytes = if nat_lt (length bytes) n then None else Some (take n bytes, drop n bytes)

-- the path of an item in a round, whose sender is none of its labels
unfoldable pub path_at : Channel → ℕ → Reader (List Channel)
path_at sender round bytes = checked (path_in_range sender) (labels_at (round - 1)) bytes

-- an item
unfoldable pub item_at : Channel → ℕ → Reader ItemValue
item_at sender round bytes =
    mapped (λ x. record { path = x.0; word = x.1 }) (pair (path_at sender round) (optional_at source_word_at)) bytes

-- the copy of a block
unfoldable pub copy_at : Reader CopyValue
copy_at bytes = mapped (λ x. record { block = x.0; words = x.1 }) (pair byte_at (many word_at 8)) bytes

-- an alpha-count
unfoldable pub count_at : Reader ℕ
count_at bytes = checked (λ n. nat_le n count_cap) (number_at w32) bytes

-- the law of a control word, which version 1 does not spell
unfoldable pub control_law_at : ℕ → Reader Law
control_law_at version bytes = if names_law version then law_at bytes else Some (Multiply, bytes)

-- a control word
unfoldable pub control_at : ℕ → Reader ControlWordValue
control_at version bytes =
    mapped (λ x. record { law = x.0; active = x.1.0; fresh = x.1.1.0; counts = x.1.1.1 })
    (pair (control_law_at version) (pair set_at (pair set_at (many count_at 7)))) bytes

-- ---- bodies and frames

-- the items of an exchange
unfoldable pub items_at : Channel → ℕ → Reader (List ItemValue)
items_at sender round bytes = checked items_ascend (counted_by (λ n. nat_le n 30) (item_at sender round)) bytes

-- the body of a request
unfoldable pub request_at : Reader BodyValue
request_at bytes = mapped request_body (optional_at (number_at w32)) bytes

-- the body of an exchange
unfoldable pub exchange_at : Channel → Reader BodyValue
exchange_at sender bytes =
    checked (between 1 3) byte_at bytes >>= λ round. items_at sender round.0 round.1 >>= λ items.
    Some (exchange_body (record { round = round.0; items = items.0 }), items.1)

-- the body of a vote
unfoldable pub vote_at : Reader BodyValue
vote_at bytes = mapped vote_body (counted_by (between 1 8) word_at) bytes

-- the copies of a sweep frame, whose blocks are all different
unfoldable pub swept_copies_at : Reader (List CopyValue)
swept_copies_at bytes = checked (λ cs. is_distinct (numbers_of cs)) (counted_by (between 1 64) copy_at) bytes

-- the body of a sweep frame
unfoldable pub sweep_at : Reader BodyValue
sweep_at bytes = mapped (λ x. sweep_body (record { target = x.0; start = x.1.0; copies = x.1.1 }))
    (pair channel_at (pair (number_at w32) swept_copies_at)) bytes

-- the copies of a final frame, whose blocks ascend
unfoldable pub final_copies_at : Reader (List CopyValue)
final_copies_at bytes = checked (λ cs. each_next nat_lt (numbers_of cs)) (counted_by (between 0 64) copy_at) bytes

-- the body of a final frame
unfoldable pub final_at : ℕ → Reader BodyValue
final_at version bytes =
    mapped (λ x. final_body (record { target = x.0; start = x.1.0; copies = x.1.1.0; control = x.1.1.1 }))
    (pair channel_at (pair (number_at w32) (pair final_copies_at (control_at version)))) bytes

-- the body of a switch frame
unfoldable pub switch_at : Reader BodyValue
switch_at bytes = mapped switch_body set_at bytes

-- a body by its kind
unfoldable pub body_at : ℕ → ℕ → Channel → Reader BodyValue
body_at version zero sender bytes = None
body_at version (suc zero) sender bytes = request_at bytes
body_at version (suc (suc zero)) sender bytes = exchange_at sender bytes
body_at version (suc (suc (suc zero))) sender bytes = vote_at bytes
body_at version (suc (suc (suc (suc zero)))) sender bytes = sweep_at bytes
body_at version (suc (suc (suc (suc (suc zero))))) sender bytes = final_at version bytes
body_at version (suc (suc (suc (suc (suc (suc zero)))))) sender bytes = switch_at bytes
body_at version (suc (suc (suc (suc (suc (suc (suc k))))))) sender bytes = None

-- a frame at the front of the bytes
unfoldable pub frame_at : Reader FrameValue
frame_at bytes = do
  magic ← checked (λ b. b == 0x47) byte_at bytes
  version ← checked (between 1 2) byte_at magic.1
  kind ← byte_at version.1
  sender ← channel_at kind.1
  cycle ← number_at w32 sender.1
  body ← body_at version.0 kind.0 sender.0 cycle.1
  Some (record { version = version.0; sender = sender.0; cycle = cycle.0; body = body.0 }, body.1)

-- a frame that takes all of the bytes
unfoldable pub frame_in : List ℕ → Option FrameValue
frame_in bytes = do
  f ← frame_at bytes
  if length f.1 == 0 then Some f.0 else None
