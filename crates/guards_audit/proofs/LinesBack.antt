-- A line that is of its form is read from its spelling, and from no other text.
use Rattle.std.proofs.Common.{◌≡◌, ℕ, ◌-◌, ◌==◌, Bool, true, false, cond, not, ◌&&◌, List, [], ◌∷◌, ◌++◌, length, map, Option, None, Some, refl, sym, ap, ◌∙◌, arith, append_assoc}
use Rattle.std.specs.Prelude.{codes, take, option_and_then, option_map, flat_map}
use Rattle.std.specs.List.{list_all, join_with_byte}
use Rattle.std.specs.Str.{bytes_eq}
use Rattle.std.specs.Fmt.{decimal}
use Rattle.std.proofs.lemmas.List.{length-append}
use Rattle.std.proofs.lemmas.Slice.Eq.{bytes_eq-Decides}
use Rattle.guards_model.specs.declared.Actor.{Actor}
use Rattle.guards_model.specs.declared.Actor.TheVariants as actor
use Rattle.guards_model.specs.Channels.{ChannelSet}
use Rattle.guards_model.specs.Frames.{is_channel, is_set}
use Rattle.guards_model.specs.Words.{is_word}
use Rattle.guards_model.specs.Transfers.{TransferValue}
use Rattle.guards_model.specs.Texts.{TextValue, set_text, words_text, vote_text, transfer_text, remaining_text, step_text, steps_text, line_end}
use Rattle.guards_audit.specs.Lines.{ReportLine, head_told, cycle_told, channel_told, steps_told, end_told, out_told, done_told, stop_told, line_spelling, is_form, is_small, some_that, is_cast, if_there, is_transfer}
use Rattle.guards_audit.specs.Reading.{pieces_at, slot_in, line_at, if_spelled, line_read}
use Rattle.guards_model.specs.declared.Slot.{Slot}
use Rattle.guards_model.specs.declared.Slot.TheVariants as slots
use Rattle.guards_model.specs.Slots.{slot_text}
use Rattle.guards_audit.specs.Lines.{lines_in}
use Rattle.guards_audit.proofs.PrintedLines.{lines_spelled}
use Rattle.guards_model.proofs.BoolTests.{both, and_true}
use Rattle.guards_model.proofs.ListTests.{all-append, all-flat_map}
use Rattle.guards_audit.proofs.ReadBack.{lacks, channel_small, split_join, lacks-decimal, plain_lacks_all, plain-set, plain-words, plain-numbers, plain-votes, number_back, set_back, words_back, votes_back, list_back, transfer_back, remaining_back, steps_back}

-- ---- the letters before a line end

take_all : (body rest : TextValue) → take (length body) (body ++ rest) ≡ body
take_all [] rest = refl
take_all (b ∷ body) rest = ap (λ x. b ∷ x) (take_all body rest)

front_is : (body : TextValue) → take (length (body ++ line_end) - 1) (body ++ line_end) ≡ body
front_is body =
    let size : length (body ++ line_end) - 1 ≡ length body = omega (arith, length-append body line_end) in
    ap (λ n. take n (body ++ line_end)) size ∙ take_all body line_end

-- ---- the fields of a line

lacks_transfer : (o : Option TransferValue) → lacks 32 (transfer_text o) ≡ true
lacks_transfer None = refl
lacks_transfer (Some t) =
    all-append (λ b. not (b == 32)) (set_text t.targets ++ codes "@") (decimal t.start)
    (all-append (λ b. not (b == 32)) (set_text t.targets) (codes "@")
    (plain_lacks_all 32 (set_text t.targets) refl (plain-set t.targets)) refl) (lacks-decimal 32 t.start refl)

lacks_remaining : (o : Option ℕ) → lacks 32 (remaining_text o) ≡ true
lacks_remaining None = refl
lacks_remaining (Some n) = lacks-decimal 32 n refl

lacks_step : (s : Actor) → lacks 32 (step_text s) ≡ true
lacks_step actor.Task = refl
lacks_step actor.Sweep = refl

lacks_steps : (steps : List Actor) → lacks 32 (steps_text steps) ≡ true
lacks_steps [] = refl
lacks_steps (s ∷ steps) = all-flat_map (λ b. not (b == 32)) step_text (s ∷ steps) lacks_step

lacks_set : (set : ChannelSet) → lacks 32 (set_text set) ≡ true
lacks_set set = plain_lacks_all 32 (set_text set) refl (plain-set set)

lacks_slot : (slot : Slot) → lacks 32 (slot_text slot) ≡ true
lacks_slot slots.Request = refl
lacks_slot slots.Round1 = refl
lacks_slot slots.Round2 = refl
lacks_slot slots.Round3 = refl
lacks_slot slots.Tasks = refl
lacks_slot slots.Vote = refl
lacks_slot slots.Sweep = refl
lacks_slot slots.Final = refl
lacks_slot slots.Switch = refl
lacks_slot slots.Output = refl

slot_back : (slot : Slot) → slot_in (slot_text slot) ≡ Some slot
slot_back slots.Request = refl
slot_back slots.Round1 = refl
slot_back slots.Round2 = refl
slot_back slots.Round3 = refl
slot_back slots.Tasks = refl
slot_back slots.Vote = refl
slot_back slots.Sweep = refl
slot_back slots.Final = refl
slot_back slots.Switch = refl
slot_back slots.Output = refl

-- a text that is these fields and a line end is read as they say
fields_back : (text field : TextValue) (fields : List TextValue) →
    text ≡ join_with_byte 32 (field ∷ fields) ++ line_end → lacks 32 field ≡ true → list_all (lacks 32) fields ≡ true →
    pieces_at 32 (take (length text - 1) text) ≡ field ∷ fields
fields_back text field fields h k l =
    ap (λ x. pieces_at 32 (take (length x - 1) x)) h ∙ ap (pieces_at 32) (front_is (join_with_byte 32 (field ∷ fields)))
    ∙ split_join 32 field fields k l

same_text : (text : TextValue) → bytes_eq text text ≡ true
same_text text = (bytes_eq-Decides text text).1 refl

read_by : (line : ReportLine) (fields : List TextValue) → is_form line ≡ true →
    pieces_at 32 (take (length (line_spelling line) - 1) (line_spelling line)) ≡ fields → line_at fields ≡ Some line →
    line_read (line_spelling line) ≡ Some line
unfolding line_read
read_by line fields form h k =
    ap (λ fs. option_and_then (if_spelled (line_spelling line)) (line_at fs)) h
    ∙ ap (option_and_then (if_spelled (line_spelling line))) k
    ∙ ap (λ b. cond b (Some line) None)
    (and_true (is_form line) (bytes_eq (line_spelling line) (line_spelling line)) form
    (same_text (line_spelling line)))

pub line_back : (line : ReportLine) → is_form line ≡ true → line_read (line_spelling line) ≡ Some line
line_back (head_told n m) h =
    let parts = both (is_small n) (is_small m) h in
    let fields : List TextValue = codes "channels" ∷ decimal n ∷ codes "cycles" ∷ decimal m ∷ [] in
    let whole : line_spelling (head_told n m) ≡ join_with_byte 32 (codes "guards" ∷ fields) ++ line_end =
    simp append_assoc in
    read_by (head_told n m) (codes "guards" ∷ fields) h
    (fields_back (line_spelling (head_told n m)) (codes "guards") fields whole refl
    (and_true (lacks 32 (decimal n)) _ (lacks-decimal 32 n refl)
    (and_true (lacks 32 (decimal m)) true (lacks-decimal 32 m refl) refl)))
    (let a = number_back n parts.0 in let b = number_back m parts.1 in λ i. Some (head_told (a i) (b i)))
line_back (cycle_told c active transfer) h =
    let parts = both (is_small c) (is_set active && if_there is_transfer transfer) h in
    let more = both (is_set active) (if_there is_transfer transfer) parts.1 in
    let fields : List TextValue =
    decimal c ∷ codes "active" ∷ set_text active ∷ codes "transfer" ∷ transfer_text transfer ∷ [] in
    let whole : line_spelling (cycle_told c active transfer) ≡ join_with_byte 32 (codes "cycle" ∷ fields) ++ line_end =
    simp append_assoc in
    read_by (cycle_told c active transfer) (codes "cycle" ∷ fields) h
    (fields_back (line_spelling (cycle_told c active transfer)) (codes "cycle") fields whole refl
    (and_true (lacks 32 (decimal c)) _ (lacks-decimal 32 c refl)
    (and_true (lacks 32 (set_text active)) _ (lacks_set active)
    (and_true (lacks 32 (transfer_text transfer)) true (lacks_transfer transfer) refl))))
    (let a = number_back c parts.0 in let b = set_back active more.0 in let d = transfer_back transfer more.1 in
    λ i. Some (cycle_told (a i) (b i) (d i)))
line_back (channel_told l) h =
    let parts = both (is_channel l.channel)
    ((some_that is_word l.inputs && some_that is_cast l.votes) && (is_set l.judged && some_that is_small l.counts))
    h in
    let more = both (some_that is_word l.inputs && some_that is_cast l.votes)
    (is_set l.judged && some_that is_small l.counts) parts.1 in
    let words = both (some_that is_word l.inputs) (some_that is_cast l.votes) more.0 in
    let rest = both (is_set l.judged) (some_that is_small l.counts) more.1 in
    let votes : TextValue = join_with_byte 44 (map vote_text l.votes) in
    let counts : TextValue = join_with_byte 44 (map decimal l.counts) in
    let fields : List TextValue =
    decimal l.channel ∷ codes "in" ∷ words_text l.inputs ∷ codes "vote" ∷ votes ∷ codes "judged" ∷ set_text l.judged
    ∷ codes "alpha" ∷ counts ∷ [] in
    let whole : line_spelling (channel_told l) ≡ join_with_byte 32 (codes "ch" ∷ fields) ++ line_end =
    simp append_assoc in
    read_by (channel_told l) (codes "ch" ∷ fields) h
    (fields_back (line_spelling (channel_told l)) (codes "ch") fields whole refl
    (and_true (lacks 32 (decimal l.channel)) _ (lacks-decimal 32 l.channel refl)
    (and_true (lacks 32 (words_text l.inputs)) _ (plain_lacks_all 32 (words_text l.inputs) refl (plain-words l.inputs))
    (and_true (lacks 32 votes) _ (plain_lacks_all 32 votes refl (plain-votes l.votes words.1))
    (and_true (lacks 32 (set_text l.judged)) _ (lacks_set l.judged)
    (and_true (lacks 32 counts) true (plain_lacks_all 32 counts refl (plain-numbers l.counts)) refl))))))
    (let p = number_back l.channel (channel_small l.channel parts.0) in
    let inputs = words_back l.inputs words.0 in
    let cast = votes_back l.votes words.1 in
    let judged = set_back l.judged rest.0 in
    let numbers = list_back l.counts rest.1 in
    λ i. Some (channel_told (record {
      channel = p i;
      inputs = inputs i;
      votes = cast i;
      judged = judged i;
      counts = numbers i;
    })))
line_back (steps_told t) h =
    let fields : List TextValue = decimal t.channel ∷ steps_text t.steps ∷ [] in
    let whole : line_spelling (steps_told t) ≡ join_with_byte 32 (codes "trace" ∷ fields) ++ line_end =
    simp append_assoc in
    let small : is_small t.channel ≡ true = channel_small t.channel h in
    read_by (steps_told t) (codes "trace" ∷ fields) h
    (fields_back (line_spelling (steps_told t)) (codes "trace") fields whole refl
    (and_true (lacks 32 (decimal t.channel)) _ (lacks-decimal 32 t.channel refl)
    (and_true (lacks 32 (steps_text t.steps)) true (lacks_steps t.steps) refl)))
    (let a = number_back t.channel small in let b = steps_back t.steps in
    λ i. Some (steps_told (record { channel = a i; steps = b i })))
line_back (end_told removed joined remaining) h =
    let parts = both (is_set removed) (is_set joined && if_there is_small remaining) h in
    let more = both (is_set joined) (if_there is_small remaining) parts.1 in
    let fields : List TextValue =
    codes "removed" ∷ set_text removed ∷ codes "joined" ∷ set_text joined ∷ codes "remaining"
    ∷ remaining_text remaining ∷ [] in
    let whole : line_spelling (end_told removed joined remaining)
    ≡ join_with_byte 32 (codes "end" ∷ fields) ++ line_end = simp append_assoc in
    read_by (end_told removed joined remaining) (codes "end" ∷ fields) h
    (fields_back (line_spelling (end_told removed joined remaining)) (codes "end") fields whole refl
    (and_true (lacks 32 (set_text removed)) _ (lacks_set removed)
    (and_true (lacks 32 (set_text joined)) _ (lacks_set joined)
    (and_true (lacks 32 (remaining_text remaining)) true (lacks_remaining remaining) refl))))
    (let a = set_back removed parts.0 in let b = set_back joined more.0 in let d = remaining_back remaining more.1 in
    λ i. Some (end_told (a i) (b i) (d i)))
line_back (out_told words) h =
    let whole : line_spelling (out_told words) ≡ join_with_byte 32 (codes "out" ∷ words_text words ∷ []) ++ line_end =
    simp append_assoc in
    read_by (out_told words) (codes "out" ∷ words_text words ∷ []) h
    (fields_back (line_spelling (out_told words)) (codes "out") (words_text words ∷ []) whole refl
    (and_true (lacks 32 (words_text words)) true (plain_lacks_all 32 (words_text words) refl (plain-words words)) refl))
    (ap (λ ws. Some (out_told ws)) (words_back words h))
line_back (stop_told s) h =
    let parts = both (is_small s.cycle) (is_set s.set && is_set s.active) h in
    let more = both (is_set s.set) (is_set s.active) parts.1 in
    let fields : List TextValue =
    codes "cycle" ∷ decimal s.cycle ∷ codes "slot" ∷ slot_text s.slot ∷ codes "disturbed" ∷ set_text s.set
    ∷ codes "active" ∷ set_text s.active ∷ [] in
    let whole : line_spelling (stop_told s) ≡ join_with_byte 32 (codes "stop" ∷ fields) ++ line_end =
    simp append_assoc in
    read_by (stop_told s) (codes "stop" ∷ fields) h
    (fields_back (line_spelling (stop_told s)) (codes "stop") fields whole refl
    (and_true (lacks 32 (decimal s.cycle)) _ (lacks-decimal 32 s.cycle refl)
    (and_true (lacks 32 (slot_text s.slot)) _ (lacks_slot s.slot)
    (and_true (lacks 32 (set_text s.set)) _ (lacks_set s.set)
    (and_true (lacks 32 (set_text s.active)) true (lacks_set s.active) refl)))))
    (let a = number_back s.cycle parts.0 in let b = slot_back s.slot in let c = set_back s.set more.0 in let d =
    set_back s.active more.1 in
    λ i. option_map (λ slot. stop_told (record { cycle = a i; slot = slot; set = c i; active = d i })) (b i))
line_back (done_told n) h =
    let whole : line_spelling (done_told n) ≡ join_with_byte 32 (codes "done" ∷ decimal n ∷ []) ++ line_end =
    simp append_assoc in
    read_by (done_told n) (codes "done" ∷ decimal n ∷ []) h
    (fields_back (line_spelling (done_told n)) (codes "done") (decimal n ∷ []) whole refl
    (and_true (lacks 32 (decimal n)) true (lacks-decimal 32 n refl) refl))
    (ap (λ k. Some (done_told k)) (number_back n h))

-- ---- what is read

read_is : (text : TextValue) (line got : ReportLine) (b : Bool) →
    (is_form line && bytes_eq text (line_spelling line)) ≡ b → cond b (Some line) None ≡ Some got →
    (text ≡ line_spelling got) × (is_form got ≡ true)
read_is text line got true e h =
    let parts = both (is_form line) (bytes_eq text (line_spelling line)) e in
    let same : line ≡ got = the_same line h in
    ((bytes_eq-Decides text (line_spelling line)).0 parts.1 ∙ ap line_spelling same, sym (ap is_form same) ∙ parts.0)
  where
    the_same : (x : ReportLine) → Some x ≡ Some got → x ≡ got
    the_same x h = cc
read_is text line got false e h = absurd (none h)
  where
    none : None ≡ Some got → ⊥
    none k = cc

found_is : (text : TextValue) (o : Option ReportLine) (got : ReportLine) →
    option_and_then (if_spelled text) o ≡ Some got → (text ≡ line_spelling got) × (is_form got ≡ true)
found_is text None got h = absurd (none h)
  where
    none : None ≡ Some got → ⊥
    none k = cc
found_is text (Some line) got h = read_is text line got (is_form line && bytes_eq text (line_spelling line)) refl h

pub line_is : (text : TextValue) (line : ReportLine) → line_read text ≡ Some line →
    (text ≡ line_spelling line) × (is_form line ≡ true)
unfolding line_read
line_is text line h = found_is text (line_at (pieces_at 32 (take (length text - 1) text))) line h

-- ---- no text is two lines

pub one_line : (a b : ReportLine) → is_form a ≡ true → is_form b ≡ true → line_spelling a ≡ line_spelling b → a ≡ b
one_line a b h k same = the_same (sym (line_back a h) ∙ ap line_read same ∙ line_back b k)
  where
    the_same : Some a ≡ Some b → a ≡ b
    the_same e = cc

each_back : (lines : List ReportLine) → list_all is_form lines ≡ true →
    map line_read (map line_spelling lines) ≡ map (λ line. Some line) lines
each_back [] h = refl
each_back (line ∷ lines) h =
    let parts = both (is_form line) (list_all is_form lines) h in
    let one = line_back line parts.0 in
    let more = each_back lines parts.1 in
    λ i. one i ∷ more i

-- a text of lines is read line by line
pub text_back : (lines : List ReportLine) → list_all is_form lines ≡ true →
    map line_read (lines_in (flat_map line_spelling lines)) ≡ map (λ line. Some line) lines
text_back lines h = ap (map line_read) (lines_spelled lines) ∙ each_back lines h
