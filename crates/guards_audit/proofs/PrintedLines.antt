-- The lines of a text that is made of lines are these: no line has a line end but its last letter.
use Rattle.std.proofs.Common.{◌≡◌, ℕ, zero, suc, ◌/◌, ◌%◌, ◌==◌, Bool, true, false, cond, not, ℤ, pos, negsuc, List, [], ◌∷◌, ◌++◌, map, Option, None, Some, refl, sym, ap, ◌∙◌, arith, append_assoc}
use Rattle.std.specs.Prelude.{codes, flat_map}
use Rattle.std.specs.List.{list_all, onto_first, join_with_byte}
use Rattle.std.specs.Fmt.{digits, digits_onto, digit_glyph, decimal, signed_decimal}
use Rattle.guards_model.specs.declared.Actor.{Actor}
use Rattle.guards_model.specs.declared.Actor.TheVariants as actor
use Rattle.guards_model.specs.Channels.{ChannelSet}
use Rattle.guards_model.specs.Transfers.{TransferValue}
use Rattle.guards_model.specs.Texts.{TextValue, Part, LineValue, TraceValue, RecordValue, StopValue, line_end, list_text, set_text, words_text, vote_text, transfer_text, remaining_text, step_text, steps_text, cycle_line, channel_line, trace_line, end_line, out_line, head_line, done_line, stop_line, last_line, cycle_part, part_text, text_of_parts}
use Rattle.guards_model.specs.declared.Slot.{Slot}
use Rattle.guards_model.specs.declared.Slot.TheVariants as slots
use Rattle.guards_model.specs.Slots.{slot_text}
use Rattle.guards_audit.specs.Lines.{ReportLine, head_told, cycle_told, channel_told, steps_told, end_told, out_told, done_told, stop_told, opened_record, closed_record, line_spelling, lines_in}
use Rattle.guards_model.proofs.BoolTests.{both, and_true}
use Rattle.guards_model.proofs.ListTests.{all-append, all-map, all-flat_map}

-- a letter that ends no line
abbrev pub is_letter : ℕ → Bool
is_letter b = not (b == 10)

abbrev pub is_body : TextValue → Bool
is_body text = list_all is_letter text

-- a line: letters, and then a line end
pub record IsLine (line : TextValue) : Type 0 where
  pub body : TextValue
  pub letters : is_body body ≡ true
  pub whole : line ≡ body ++ line_end

-- ---- the lines of lines

split_letter : (b : ℕ) (rest : TextValue) (last : Bool) → (b == 10) ≡ last → not last ≡ true →
    lines_in (b ∷ rest) ≡ onto_first b (lines_in rest)
split_letter b rest true e h = absurd cc
split_letter b rest false e h = ap (λ t. cond t ((10 ∷ []) ∷ lines_in rest) (onto_first b (lines_in rest))) e

split_body : (body rest : TextValue) → is_body body ≡ true →
    lines_in (body ++ 10 ∷ rest) ≡ (body ++ 10 ∷ []) ∷ lines_in rest
split_body [] rest h = refl
split_body (b ∷ body) rest h =
    let parts = both (is_letter b) (is_body body) h in
    split_letter b (body ++ 10 ∷ rest) (b == 10) refl parts.0 ∙ ap (onto_first b) (split_body body rest parts.1)

pub split_line : (line rest : TextValue) → IsLine line → lines_in (line ++ rest) ≡ line ∷ lines_in rest
split_line line rest h =
    ap (λ l. lines_in (l ++ rest)) h.whole
    ∙ ap lines_in (append_assoc h.body line_end rest)
    ∙ split_body h.body rest h.letters
    ∙ ap (λ l. l ∷ lines_in rest) (sym h.whole)

-- each of some lines is one
abbrev pub AreLines : List TextValue → Type 0
AreLines [] = Unit {0}
AreLines (line ∷ lines) = IsLine line × AreLines lines

pub are_more : (lines more : List TextValue) → AreLines lines → AreLines more → AreLines (lines ++ more)
are_more [] more h k = k
are_more (line ∷ lines) more h k = (h.0, are_more lines more h.1 k)

pub are_mapped : {A : Type 0} (f : A → TextValue) (xs : List A) → ((x : A) → IsLine (f x)) → AreLines (map f xs)
are_mapped f [] h = tt
are_mapped f (x ∷ xs) h = (h x, are_mapped f xs h)

pub lines_of_part : (part : Part) (rest : TextValue) → AreLines part →
    lines_in (part_text part ++ rest) ≡ part ++ lines_in rest
lines_of_part [] rest h = refl
lines_of_part (line ∷ part) rest h =
    ap lines_in (append_assoc line (part_text part) rest)
    ∙ split_line line (part_text part ++ rest) h.0
    ∙ ap (λ ls. line ∷ ls) (lines_of_part part rest h.1)

-- the lines of some parts
abbrev pub all_lines : List Part → List TextValue
all_lines parts = flat_map (λ part. part) parts

abbrev pub AreParts : List Part → Type 0
AreParts [] = Unit {0}
AreParts (part ∷ parts) = AreLines part × AreParts parts

pub are_more_parts : (parts more : List Part) → AreParts parts → AreParts more → AreParts (parts ++ more)
are_more_parts [] more h k = k
are_more_parts (part ∷ parts) more h k = (h.0, are_more_parts parts more h.1 k)

pub lines_of_parts : (parts : List Part) → AreParts parts → lines_in (text_of_parts parts) ≡ all_lines parts
lines_of_parts [] h = refl
lines_of_parts (part ∷ parts) h =
    lines_of_part part (text_of_parts parts) h.0 ∙ ap (λ ls. part ++ ls) (lines_of_parts parts h.1)

-- ---- the letters of pieces

glyph : (d : ℕ) → is_letter (digit_glyph false d) ≡ true
glyph d = grind arith

either_body : (b : Bool) (x y : TextValue) → is_body x ≡ true → is_body y ≡ true → is_body (cond b x y) ≡ true
either_body true x y h k = h
either_body false x y h k = k

body_onto : (k n : ℕ) (acc : TextValue) → is_body acc ≡ true → is_body (digits_onto k 10 false n acc) ≡ true
body_onto zero n acc h = h
body_onto (suc k) n acc h =
    let more : is_body (digit_glyph false (n % 10) ∷ acc) ≡ true =
    and_true (is_letter (digit_glyph false (n % 10))) (is_body acc) (glyph (n % 10)) h in
    either_body (n / 10 == 0) (digit_glyph false (n % 10) ∷ acc)
    (digits_onto k 10 false (n / 10) (digit_glyph false (n % 10) ∷ acc))
    more (body_onto k (n / 10) (digit_glyph false (n % 10) ∷ acc) more)

pub body-decimal : (n : ℕ) → is_body (decimal n) ≡ true
unfolding digits
body-decimal n = body_onto 64 n [] refl

pub body-signed : (z : ℤ) → is_body (signed_decimal z) ≡ true
body-signed (pos n) = body-decimal n
body-signed (negsuc n) = body-decimal (suc n)

pub body-join : (pieces : List TextValue) → list_all is_body pieces ≡ true → is_body (join_with_byte 44 pieces) ≡ true
body-join [] h = refl
body-join (x ∷ []) h = (both (is_body x) true h).0
body-join (x ∷ y ∷ pieces) h =
    let parts = both (is_body x) (list_all is_body (y ∷ pieces)) h in
    all-append is_letter x (44 ∷ join_with_byte 44 (y ∷ pieces)) parts.0 (body-join (y ∷ pieces) parts.1)

pub body-list : (pieces : List TextValue) → list_all is_body pieces ≡ true → is_body (list_text pieces) ≡ true
body-list [] h = refl
body-list (x ∷ pieces) h = body-join (x ∷ pieces) h

pub body-set : (set : ChannelSet) → is_body (set_text set) ≡ true
body-set set = body-list (map decimal set) (all-map is_body decimal set body-decimal)

pub body-words : (words : List ℤ) → is_body (words_text words) ≡ true
body-words words = body-join (map signed_decimal words) (all-map is_body signed_decimal words body-signed)

body-vote : (v : Option ℤ) → is_body (vote_text v) ≡ true
body-vote None = refl
body-vote (Some w) = body-signed w

body-votes : (votes : List (Option ℤ)) → is_body (join_with_byte 44 (map vote_text votes)) ≡ true
body-votes votes = body-join (map vote_text votes) (all-map is_body vote_text votes body-vote)

body-counts : (counts : List ℕ) → is_body (join_with_byte 44 (map decimal counts)) ≡ true
body-counts counts = body-join (map decimal counts) (all-map is_body decimal counts body-decimal)

body-transfer : (t : Option TransferValue) → is_body (transfer_text t) ≡ true
body-transfer None = refl
body-transfer (Some t) =
    all-append is_letter (set_text t.targets ++ codes "@") (decimal t.start)
    (all-append is_letter (set_text t.targets) (codes "@") (body-set t.targets) refl) (body-decimal t.start)

body-remaining : (r : Option ℕ) → is_body (remaining_text r) ≡ true
body-remaining None = refl
body-remaining (Some n) = body-decimal n

body-step : (s : Actor) → is_body (step_text s) ≡ true
body-step actor.Task = refl
body-step actor.Sweep = refl

body-steps : (steps : List Actor) → is_body (steps_text steps) ≡ true
body-steps [] = refl
body-steps (s ∷ steps) = all-flat_map is_letter step_text (s ∷ steps) body-step

-- ---- the lines

more_body : (a b : TextValue) → is_body a ≡ true → is_body b ≡ true → is_body (a ++ b) ≡ true
more_body a b h k = all-append is_letter a b h k

pub head_is_line : (n m : ℕ) → IsLine (head_line n m)
head_is_line n m =
    record {
      body = codes "guards channels " ++ decimal n ++ codes " cycles " ++ decimal m;
      letters = more_body (codes "guards channels " ++ decimal n ++ codes " cycles ") (decimal m)
          (more_body (codes "guards channels " ++ decimal n) (codes " cycles ")
          (more_body (codes "guards channels ") (decimal n) refl (body-decimal n)) refl) (body-decimal m);
      whole = refl;
    }

pub done_is_line : (n : ℕ) → IsLine (done_line n)
done_is_line n = record {
  body = codes "done " ++ decimal n;
  letters = more_body (codes "done ") (decimal n) refl (body-decimal n);
  whole = refl;
}

pub cycle_is_line : (r : RecordValue) → IsLine (cycle_line r)
cycle_is_line r =
    let a : TextValue = codes "cycle " ++ decimal r.cycle in
    let b : TextValue = a ++ codes " active " in
    let c : TextValue = b ++ set_text r.active in
    let d : TextValue = c ++ codes " transfer " in
    record {
      body = d ++ transfer_text r.transfer;
      letters = more_body d (transfer_text r.transfer)
          (more_body c (codes " transfer ")
          (more_body b (set_text r.active)
          (more_body a (codes " active ") (more_body (codes "cycle ") (decimal r.cycle) refl (body-decimal r.cycle))
          refl) (body-set r.active)) refl)
          (body-transfer r.transfer);
      whole = refl;
    }

pub channel_is_line : (l : LineValue) → IsLine (channel_line l)
channel_is_line l =
    let a : TextValue = codes "ch " ++ decimal l.channel in
    let b : TextValue = a ++ codes " in " in
    let c : TextValue = b ++ words_text l.inputs in
    let d : TextValue = c ++ codes " vote " in
    let e : TextValue = d ++ join_with_byte 44 (map vote_text l.votes) in
    let f : TextValue = e ++ codes " judged " in
    let g : TextValue = f ++ set_text l.judged in
    let h : TextValue = g ++ codes " alpha " in
    record {
      body = h ++ join_with_byte 44 (map decimal l.counts);
      letters = more_body h (join_with_byte 44 (map decimal l.counts))
          (more_body g (codes " alpha ")
          (more_body f (set_text l.judged)
          (more_body e (codes " judged ")
          (more_body d (join_with_byte 44 (map vote_text l.votes))
          (more_body c (codes " vote ")
          (more_body b (words_text l.inputs)
          (more_body a (codes " in ") (more_body (codes "ch ") (decimal l.channel) refl (body-decimal l.channel))
          refl) (body-words l.inputs)) refl)
          (body-votes l.votes)) refl)
          (body-set l.judged)) refl)
          (body-counts l.counts);
      whole = refl;
    }

pub trace_is_line : (t : TraceValue) → IsLine (trace_line t)
trace_is_line t =
    let a : TextValue = codes "trace " ++ decimal t.channel in
    let b : TextValue = a ++ codes " " in
    record {
      body = b ++ steps_text t.steps;
      letters = more_body b (steps_text t.steps)
          (more_body a (codes " ") (more_body (codes "trace ") (decimal t.channel) refl (body-decimal t.channel)) refl)
          (body-steps t.steps);
      whole = refl;
    }

pub end_is_line : (r : RecordValue) → IsLine (end_line r)
end_is_line r =
    let a : TextValue = codes "end removed " ++ set_text r.removed in
    let b : TextValue = a ++ codes " joined " in
    let c : TextValue = b ++ set_text r.joined in
    let d : TextValue = c ++ codes " remaining " in
    record {
      body = d ++ remaining_text r.remaining;
      letters = more_body d (remaining_text r.remaining)
          (more_body c (codes " remaining ")
          (more_body b (set_text r.joined)
          (more_body a (codes " joined ")
          (more_body (codes "end removed ") (set_text r.removed) refl (body-set r.removed)) refl)
          (body-set r.joined)) refl)
          (body-remaining r.remaining);
      whole = refl;
    }

pub out_is_line : (words : List ℤ) → IsLine (out_line words)
out_is_line words = record {
  body = codes "out " ++ words_text words;
  letters = more_body (codes "out ") (words_text words) refl (body-words words);
  whole = refl;
}

body-slot : (slot : Slot) → is_body (slot_text slot) ≡ true
body-slot slots.Request = refl
body-slot slots.Round1 = refl
body-slot slots.Round2 = refl
body-slot slots.Round3 = refl
body-slot slots.Tasks = refl
body-slot slots.Vote = refl
body-slot slots.Sweep = refl
body-slot slots.Final = refl
body-slot slots.Switch = refl
body-slot slots.Output = refl

pub stop_is_line : (s : StopValue) → IsLine (stop_line s)
stop_is_line s =
    let a : TextValue = codes "stop cycle " ++ decimal s.cycle in
    let b : TextValue = a ++ codes " slot " in
    let c : TextValue = b ++ slot_text s.slot in
    let d : TextValue = c ++ codes " disturbed " in
    let e : TextValue = d ++ set_text s.set in
    let f : TextValue = e ++ codes " active " in
    record {
      body = f ++ set_text s.active;
      letters = more_body f (set_text s.active)
          (more_body e (codes " active ")
          (more_body d (set_text s.set)
          (more_body c (codes " disturbed ")
          (more_body b (slot_text s.slot)
          (more_body a (codes " slot ")
          (more_body (codes "stop cycle ") (decimal s.cycle) refl (body-decimal s.cycle)) refl) (body-slot s.slot))
          refl)
          (body-set s.set)) refl)
          (body-set s.active);
      whole = refl;
    }

pub last_is_line : (cycles : ℕ) (stop : Option StopValue) → IsLine (last_line cycles stop)
last_is_line cycles None = done_is_line cycles
last_is_line cycles (Some s) = stop_is_line s

pub spelling_is_line : (line : ReportLine) → IsLine (line_spelling line)
spelling_is_line (head_told n m) = head_is_line n m
spelling_is_line (cycle_told c active transfer) = cycle_is_line (opened_record c active transfer)
spelling_is_line (channel_told l) = channel_is_line l
spelling_is_line (steps_told t) = trace_is_line t
spelling_is_line (end_told removed joined remaining) =
    end_is_line (closed_record (opened_record 0 [] None) removed joined remaining)
spelling_is_line (out_told words) = out_is_line words
spelling_is_line (done_told n) = done_is_line n
spelling_is_line (stop_told s) = stop_is_line s

-- a text of spelled lines falls into these
pub lines_spelled : (lines : List ReportLine) → lines_in (flat_map line_spelling lines) ≡ map line_spelling lines
lines_spelled [] = refl
lines_spelled (line ∷ lines) =
    split_line (line_spelling line) (flat_map line_spelling lines) (spelling_is_line line)
    ∙ ap (λ ls. line_spelling line ∷ ls) (lines_spelled lines)

pub traces_are_lines : (trace : Bool) (traces : List TraceValue) → AreLines (cond trace (map trace_line traces) [])
traces_are_lines true traces = are_mapped trace_line traces trace_is_line
traces_are_lines false traces = tt

pub cycle_part_is_lines : (trace : Bool) (r : RecordValue) → AreLines (cycle_part trace r)
cycle_part_is_lines trace r = (
  cycle_is_line r,
  are_more (map channel_line r.lines ++ cond trace (map trace_line r.traces) []) (end_line r ∷ [])
      (are_more (map channel_line r.lines) (cond trace (map trace_line r.traces) [])
      (are_mapped channel_line r.lines channel_is_line) (traces_are_lines trace r.traces))
      (end_is_line r, tt),
)
