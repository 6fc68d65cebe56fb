-- The fields of a spelled line.
use Rattle.std.proofs.Common.{◌≡◌, ℕ, zero, suc, get_or, ◌<◌, ◌==◌, Bool, true, false, not, ◌&&◌, ℤ, List, [], ◌∷◌, ◌++◌, length, map, Option, None, Some, Result, Ok, Err, refl, sym, ap, subst, ◌∙◌, arith, append_assoc}
use Rattle.std.specs.Prelude.{codes, option_map, take, nat_lt, IfOk, IsUtf8}
use Rattle.std.specs.List.{list_all, join_with_byte}
use Rattle.std.specs.Str.{bytes_eq}
use Rattle.std.specs.Fmt.{decimal}
use Rattle.std.proofs.lemmas.Bool.{leb-true, le-leb, eqb-true}
use Rattle.std.proofs.lemmas.Str.{IsUtf8-from_ascii}
use Rattle.std.proofs.lemmas.Slice.Eq.{bytes_eq-Decides}
use Rattle.guards_model.specs.declared.Actor.{Actor}
use Rattle.guards_model.specs.declared.Actor.TheVariants as actor
use Rattle.guards_model.specs.declared.Slot.{Slot}
use Rattle.guards_model.specs.declared.Slot.TheVariants as slot
use Rattle.guards_model.specs.Slots.{slot_text}
use Rattle.guards_model.specs.Channels.{ChannelSet}
use Rattle.guards_model.specs.Frames.{is_channel, is_set}
use Rattle.guards_model.specs.Words.{is_word}
use Rattle.guards_model.specs.Transfers.{TransferValue}
use Rattle.guards_model.specs.Texts.{TextValue, LineValue, TraceValue, set_text, words_text, vote_text, transfer_text, remaining_text, step_text, steps_text, line_end}
use Rattle.guards_model.proofs.BoolTests.{both, and_true}
use Rattle.guards_model.proofs.ListTests.{all-append, all-flat_map, weaken}
use Rattle.guards_audit.specs.Lines.{ReportLine, head_told, cycle_told, channel_told, steps_told, end_told, out_told, done_told, stop_told, line_spelling, is_form, is_small, some_that, is_cast, is_empty}
use Rattle.guards_audit.specs.Reading.{line_read}
use Rattle.guards_audit.proofs.LinesBack.{line_back, line_is}
use Rattle.guards_audit.proofs.ReadBack.{is_plain, lacks-decimal, plain_lacks_all, plain-decimal, plain-set, plain-words, plain-numbers, plain-votes}
use Rattle.run_audit.specs.declared.line.Line.{Line}
use Rattle.run_audit.specs.declared.line.Sizes.{Sizes}
use Rattle.run_audit.specs.Pieces.{lacks}
use Rattle.run_audit.specs.Values.{IsReadAs, IsReadFrom, fields, first_word, has_sizes, line_value}

-- ---- fields have no space

pub lacks_set : (set : ChannelSet) → lacks 32 (set_text set) ≡ true
lacks_set set = plain_lacks_all 32 (set_text set) refl (plain-set set)

pub lacks_at_sign : (set : ChannelSet) → lacks 64 (set_text set) ≡ true
lacks_at_sign set = plain_lacks_all 64 (set_text set) refl (plain-set set)

pub lacks_transfer : (o : Option TransferValue) → lacks 32 (transfer_text o) ≡ true
lacks_transfer None = refl
lacks_transfer (Some t) =
    all-append (λ b. not (b == 32)) (set_text t.targets ++ codes "@") (decimal t.start)
    (all-append (λ b. not (b == 32)) (set_text t.targets) (codes "@") (lacks_set t.targets) refl)
    (lacks-decimal 32 t.start refl)

pub lacks_remaining : (o : Option ℕ) → lacks 32 (remaining_text o) ≡ true
lacks_remaining None = refl
lacks_remaining (Some n) = lacks-decimal 32 n refl

lacks_step : (s : Actor) → lacks 32 (step_text s) ≡ true
lacks_step actor.Task = refl
lacks_step actor.Sweep = refl

pub lacks_steps : (steps : List Actor) → lacks 32 (steps_text steps) ≡ true
lacks_steps [] = refl
lacks_steps (s ∷ steps) = all-flat_map (λ b. not (b == 32)) step_text (s ∷ steps) lacks_step

pub lacks_word : (line : ReportLine) → lacks 32 (first_word line) ≡ true
lacks_word (head_told n m) = refl
lacks_word (cycle_told c active transfer) = refl
lacks_word (channel_told l) = refl
lacks_word (steps_told t) = refl
lacks_word (end_told removed joined remaining) = refl
lacks_word (out_told words) = refl
lacks_word (done_told n) = refl
lacks_word (stop_told stop) = refl

-- a line is its fields at spaces, and a line end
pub spelled_fields : (line : ReportLine) →
    line_spelling line ≡ join_with_byte 32 (first_word line ∷ fields line) ++ line_end
spelled_fields (head_told n m) = simp append_assoc
spelled_fields (cycle_told c active transfer) = simp append_assoc
spelled_fields (channel_told l) = simp append_assoc
spelled_fields (steps_told t) = simp append_assoc
spelled_fields (end_told removed joined remaining) = simp append_assoc
spelled_fields (out_told words) = simp append_assoc
spelled_fields (done_told n) = simp append_assoc
spelled_fields (stop_told stop) = simp append_assoc

-- ---- the parts of a channel's line

pub not_none : {A B : Type 0} (o : Option A) (x : A) {y : B} → o ≡ None → o ≡ Some x → None ≡ Some y
not_none o x e h = absurd (empty (sym e ∙ h))
  where
    empty : None ≡ Some x → ⊥
    empty k = cc

-- what the line of a channel is made of, where it is of its form and has these sizes
pub record ChannelParts (s : Sizes) (l : LineValue) : Type 0 where
  pub channel : is_channel l.channel ≡ true
  pub inputs : list_all is_word l.inputs ≡ true
  pub votes : list_all is_cast l.votes ≡ true
  pub judged : is_set l.judged ≡ true
  pub counts : list_all is_small l.counts ≡ true
  pub width : length l.inputs ≡ s.width
  pub outputs : length l.votes ≡ s.outputs
  pub channels : length l.counts ≡ s.channels
  pub lacks_channel : lacks 32 (decimal l.channel) ≡ true
  pub lacks_inputs : lacks 32 (words_text l.inputs) ≡ true
  pub lacks_votes : lacks 32 (join_with_byte 44 (map vote_text l.votes)) ≡ true
  pub lacks_counts : lacks 32 (join_with_byte 44 (map decimal l.counts)) ≡ true

pub channel_parts : (s : Sizes) (l : LineValue) → is_form (channel_told l) ≡ true →
    has_sizes s (channel_told l) ≡ true → ChannelParts s l
channel_parts s l h k =
    let parts = both (is_channel l.channel)
    ((some_that is_word l.inputs && some_that is_cast l.votes) && (is_set l.judged && some_that is_small l.counts))
    h in
    let more = both (some_that is_word l.inputs && some_that is_cast l.votes)
    (is_set l.judged && some_that is_small l.counts) parts.1 in
    let words = both (some_that is_word l.inputs) (some_that is_cast l.votes) more.0 in
    let rest = both (is_set l.judged) (some_that is_small l.counts) more.1 in
    let size = both (length l.inputs == s.width && length l.votes == s.outputs) (length l.counts == s.channels) k in
    let wide = both (length l.inputs == s.width) (length l.votes == s.outputs) size.0 in
    record {
      channel = parts.0;
      inputs = (both (not (is_empty l.inputs)) (list_all is_word l.inputs) words.0).1;
      votes = (both (not (is_empty l.votes)) (list_all is_cast l.votes) words.1).1;
      judged = rest.0;
      counts = (both (not (is_empty l.counts)) (list_all is_small l.counts) rest.1).1;
      width = eqb-true (length l.inputs) s.width wide.0;
      outputs = eqb-true (length l.votes) s.outputs wide.1;
      channels = eqb-true (length l.counts) s.channels size.1;
      lacks_channel = lacks-decimal 32 l.channel refl;
      lacks_inputs = plain_lacks_all 32 (words_text l.inputs) refl (plain-words l.inputs);
      lacks_votes = plain_lacks_all 32 (join_with_byte 44 (map vote_text l.votes)) refl (plain-votes l.votes words.1);
      lacks_counts = plain_lacks_all 32 (join_with_byte 44 (map decimal l.counts)) refl (plain-numbers l.counts);
    }

-- the fields after each
abbrev pub after_judged : LineValue → List TextValue
after_judged l = codes "alpha" ∷ join_with_byte 44 (map decimal l.counts) ∷ []

abbrev pub after_votes : LineValue → List TextValue
after_votes l = codes "judged" ∷ set_text l.judged ∷ after_judged l

abbrev pub after_inputs : LineValue → List TextValue
after_inputs l = codes "vote" ∷ join_with_byte 44 (map vote_text l.votes) ∷ after_votes l

abbrev pub after_channel : LineValue → List TextValue
after_channel l = codes "in" ∷ words_text l.inputs ∷ after_inputs l

pub channel_formed : (s : Sizes) (chan : ℕ) (inputs : List ℤ) (votes : List (Option ℤ)) (judged : ChannelSet)
    (counts : List ℕ) → is_channel chan ≡ true →
    some_that is_word (take s.width inputs) ≡ true → some_that is_cast (take s.outputs votes) ≡ true →
    is_set judged ≡ true → some_that is_small (take s.channels counts) ≡ true →
    is_form (channel_told (record {
      channel = chan;
      inputs = take s.width inputs;
      votes = take s.outputs votes;
      judged = judged;
      counts = take s.channels counts;
    })) ≡ true
channel_formed s chan inputs votes judged counts h i v j k =
    and_true (is_channel chan) _ h
    (and_true (some_that is_word (take s.width inputs) && some_that is_cast (take s.outputs votes))
    (is_set judged && some_that is_small (take s.channels counts))
    (and_true (some_that is_word (take s.width inputs)) (some_that is_cast (take s.outputs votes)) i v)
    (and_true (is_set judged) (some_that is_small (take s.channels counts)) j k))

-- ---- first words

pub apart : (a b : TextValue) → bytes_eq a b ≡ false → a ≡ b → ⊥
apart a b h e = differ (sym ((bytes_eq-Decides a b).1 e) ∙ h)
  where
    differ : true ≡ false → ⊥
    differ k = cc

-- a line is read by its first word
pub by_word : (s : Sizes) (text word rest W : TextValue) (read : Option Line) → word ≡ W →
    ((first : TextValue) (pieces : List TextValue) → lacks 32 first ≡ true → text ≡ join_with_byte 32 (first ∷ pieces) →
    (word ≡ first) × (rest ≡ join_with_byte 32 pieces)) →
    ((line : ReportLine) → first_word line ≡ W → IsReadAs s rest read line) → (line : ReportLine) →
    IsReadFrom s (first_word line ∷ fields line) text line read
by_word s text word rest W read is cut all line form size e =
    let parts = cut (first_word line) (fields line) (lacks_word line) e in
    all line (sym parts.0 ∙ is) form size parts.1

pub head_word : (s : Sizes) (rest : TextValue) (read : Option Line) →
    ((n m : ℕ) → IsReadAs s rest read (head_told n m)) → (line : ReportLine) → first_word line ≡ codes "guards" →
    IsReadAs s rest read line
head_word s rest read h (head_told n m) e = h n m
head_word s rest read h (cycle_told k active transfer) e = absurd (apart (codes "cycle") (codes "guards") refl e)
head_word s rest read h (channel_told l) e = absurd (apart (codes "ch") (codes "guards") refl e)
head_word s rest read h (steps_told t) e = absurd (apart (codes "trace") (codes "guards") refl e)
head_word s rest read h (end_told removed joined left) e = absurd (apart (codes "end") (codes "guards") refl e)
head_word s rest read h (out_told words) e = absurd (apart (codes "out") (codes "guards") refl e)
head_word s rest read h (stop_told stop) e = absurd (apart (codes "stop") (codes "guards") refl e)
head_word s rest read h (done_told n) e = absurd (apart (codes "done") (codes "guards") refl e)

pub cycle_word : (s : Sizes) (rest : TextValue) (read : Option Line) →
    ((k : ℕ) (active : ChannelSet) (transfer : Option TransferValue) →
    IsReadAs s rest read (cycle_told k active transfer)) → (line : ReportLine) → first_word line ≡ codes "cycle" →
    IsReadAs s rest read line
cycle_word s rest read h (head_told n m) e = absurd (apart (codes "guards") (codes "cycle") refl e)
cycle_word s rest read h (cycle_told k active transfer) e = h k active transfer
cycle_word s rest read h (channel_told l) e = absurd (apart (codes "ch") (codes "cycle") refl e)
cycle_word s rest read h (steps_told t) e = absurd (apart (codes "trace") (codes "cycle") refl e)
cycle_word s rest read h (end_told removed joined left) e = absurd (apart (codes "end") (codes "cycle") refl e)
cycle_word s rest read h (out_told words) e = absurd (apart (codes "out") (codes "cycle") refl e)
cycle_word s rest read h (stop_told stop) e = absurd (apart (codes "stop") (codes "cycle") refl e)
cycle_word s rest read h (done_told n) e = absurd (apart (codes "done") (codes "cycle") refl e)

pub channel_word : (s : Sizes) (rest : TextValue) (read : Option Line) →
    ((l : LineValue) → IsReadAs s rest read (channel_told l)) → (line : ReportLine) → first_word line ≡ codes "ch" →
    IsReadAs s rest read line
channel_word s rest read h (head_told n m) e = absurd (apart (codes "guards") (codes "ch") refl e)
channel_word s rest read h (cycle_told k active transfer) e = absurd (apart (codes "cycle") (codes "ch") refl e)
channel_word s rest read h (channel_told l) e = h l
channel_word s rest read h (steps_told t) e = absurd (apart (codes "trace") (codes "ch") refl e)
channel_word s rest read h (end_told removed joined left) e = absurd (apart (codes "end") (codes "ch") refl e)
channel_word s rest read h (out_told words) e = absurd (apart (codes "out") (codes "ch") refl e)
channel_word s rest read h (stop_told stop) e = absurd (apart (codes "stop") (codes "ch") refl e)
channel_word s rest read h (done_told n) e = absurd (apart (codes "done") (codes "ch") refl e)

pub steps_word : (s : Sizes) (rest : TextValue) (read : Option Line) →
    ((t : TraceValue) → IsReadAs s rest read (steps_told t)) → (line : ReportLine) → first_word line ≡ codes "trace" →
    IsReadAs s rest read line
steps_word s rest read h (head_told n m) e = absurd (apart (codes "guards") (codes "trace") refl e)
steps_word s rest read h (cycle_told k active transfer) e = absurd (apart (codes "cycle") (codes "trace") refl e)
steps_word s rest read h (channel_told l) e = absurd (apart (codes "ch") (codes "trace") refl e)
steps_word s rest read h (steps_told t) e = h t
steps_word s rest read h (end_told removed joined left) e = absurd (apart (codes "end") (codes "trace") refl e)
steps_word s rest read h (out_told words) e = absurd (apart (codes "out") (codes "trace") refl e)
steps_word s rest read h (stop_told stop) e = absurd (apart (codes "stop") (codes "trace") refl e)
steps_word s rest read h (done_told n) e = absurd (apart (codes "done") (codes "trace") refl e)

pub end_word : (s : Sizes) (rest : TextValue) (read : Option Line) →
    ((removed joined : ChannelSet) (left : Option ℕ) → IsReadAs s rest read (end_told removed joined left)) →
    (line : ReportLine) → first_word line ≡ codes "end" → IsReadAs s rest read line
end_word s rest read h (head_told n m) e = absurd (apart (codes "guards") (codes "end") refl e)
end_word s rest read h (cycle_told k active transfer) e = absurd (apart (codes "cycle") (codes "end") refl e)
end_word s rest read h (channel_told l) e = absurd (apart (codes "ch") (codes "end") refl e)
end_word s rest read h (steps_told t) e = absurd (apart (codes "trace") (codes "end") refl e)
end_word s rest read h (end_told removed joined left) e = h removed joined left
end_word s rest read h (out_told words) e = absurd (apart (codes "out") (codes "end") refl e)
end_word s rest read h (stop_told stop) e = absurd (apart (codes "stop") (codes "end") refl e)
end_word s rest read h (done_told n) e = absurd (apart (codes "done") (codes "end") refl e)

pub done_word : (s : Sizes) (rest : TextValue) (read : Option Line) → ((n : ℕ) → IsReadAs s rest read (done_told n)) →
    (line : ReportLine) → first_word line ≡ codes "done" → IsReadAs s rest read line
done_word s rest read h (head_told n m) e = absurd (apart (codes "guards") (codes "done") refl e)
done_word s rest read h (cycle_told k active transfer) e = absurd (apart (codes "cycle") (codes "done") refl e)
done_word s rest read h (channel_told l) e = absurd (apart (codes "ch") (codes "done") refl e)
done_word s rest read h (steps_told t) e = absurd (apart (codes "trace") (codes "done") refl e)
done_word s rest read h (end_told removed joined left) e = absurd (apart (codes "end") (codes "done") refl e)
done_word s rest read h (out_told words) e = absurd (apart (codes "out") (codes "done") refl e)
done_word s rest read h (stop_told stop) e = absurd (apart (codes "stop") (codes "done") refl e)
done_word s rest read h (done_told n) e = h n

pub out_word : (s : Sizes) (rest : TextValue) (read : Option Line) →
    ((words : List ℤ) → IsReadAs s rest read (out_told words)) → (line : ReportLine) → first_word line ≡ codes "out" →
    IsReadAs s rest read line
out_word s rest read h (head_told n m) e = absurd (apart (codes "guards") (codes "out") refl e)
out_word s rest read h (cycle_told k active transfer) e = absurd (apart (codes "cycle") (codes "out") refl e)
out_word s rest read h (channel_told l) e = absurd (apart (codes "ch") (codes "out") refl e)
out_word s rest read h (steps_told t) e = absurd (apart (codes "trace") (codes "out") refl e)
out_word s rest read h (end_told removed joined left) e = absurd (apart (codes "end") (codes "out") refl e)
out_word s rest read h (out_told words) e = h words
out_word s rest read h (done_told n) e = absurd (apart (codes "done") (codes "out") refl e)
out_word s rest read h (stop_told stop) e = absurd (apart (codes "stop") (codes "out") refl e)

pub ok_as : {A E : Type 0} (P Q : A → Type 0) (r : Result A E) → IfOk r P → ((x : A) → P x → Q x) → IfOk r Q
ok_as P Q (Ok x) h f = f x h
ok_as P Q (Err e) h f = h

-- ---- what is read of a text

no_front : (xs ys : TextValue) (a b : ℕ) → xs ++ a ∷ [] ≡ ys ++ b ∷ [] → xs ≡ ys
no_front [] [] a b h = refl
no_front [] (y ∷ ys) a b h = absurd (long ys (tail h))
  where
    tail : a ∷ [] ≡ y ∷ (ys ++ b ∷ []) → [] ≡ ys ++ b ∷ []
    tail k = cc

    long : (zs : TextValue) → [] ≡ zs ++ b ∷ [] → ⊥
    long [] k = cc
    long (z ∷ zs) k = cc
no_front (x ∷ xs) [] a b h = absurd (long xs (tail h))
  where
    tail : x ∷ (xs ++ a ∷ []) ≡ b ∷ [] → xs ++ a ∷ [] ≡ []
    tail k = cc

    long : (zs : TextValue) → zs ++ a ∷ [] ≡ [] → ⊥
    long [] k = cc
    long (z ∷ zs) k = cc
no_front (x ∷ xs) (y ∷ ys) a b h = let first = head h in let rest = no_front xs ys a b (tail h) in λ i. first i ∷ rest i
  where
    head : x ∷ (xs ++ a ∷ []) ≡ y ∷ (ys ++ b ∷ []) → x ≡ y
    head k = cc

    tail : x ∷ (xs ++ a ∷ []) ≡ y ∷ (ys ++ b ∷ []) → xs ++ a ∷ [] ≡ ys ++ b ∷ []
    tail k = cc

-- a text that ends its line and is read as a line is the fields of that line
pub body_is : (text body : TextValue) (line : ReportLine) → text ≡ body ++ line_end → line_read text ≡ Some line →
    (body ≡ join_with_byte 32 (first_word line ∷ fields line)) × (is_form line ≡ true)
body_is text body line e h =
    let read = line_is text line h in (
      no_front body (join_with_byte 32 (first_word line ∷ fields line)) 10 10 (sym e ∙ read.0 ∙ spelled_fields line),
      read.1,
    )

-- a text without a line end is no line
pub no_end : (text : TextValue) (line : ReportLine) → ((front : List ℕ) → text ≡ front ++ 10 ∷ [] → ⊥) →
    line_read text ≡ Some line → ⊥
no_end text line h k = h (join_with_byte 32 (first_word line ∷ fields line))
    ((line_is text line k).0 ∙ spelled_fields line)

-- none is read where no line has the sizes
pub none_read : (s : Sizes) (text body : TextValue) (read : Option Line) → text ≡ body ++ line_end → read ≡ None →
    ((line : ReportLine) → IsReadFrom s (first_word line ∷ fields line) body line read) →
    (line : ReportLine) → line_read text ≡ Some line → has_sizes s line ≡ false
none_read s text body read e none all line h =
    by_sizes (has_sizes s line) refl
  where
    fields_are : (body ≡ join_with_byte 32 (first_word line ∷ fields line)) × (is_form line ≡ true)
    fields_are = body_is text body line e h

    empty : None ≡ Some line → ⊥
    empty k = cc

    by_sizes : (b : Bool) → has_sizes s line ≡ b → b ≡ false
    by_sizes false k = refl
    by_sizes true k = absurd (empty (ap (option_map (line_value s)) (sym none) ∙ all line fields_are.1 k fields_are.0))

-- a line that is read and spelled again is the line of the text
pub some_read : (s : Sizes) (text : TextValue) (line : Line) → is_form (line_value s line) ≡ true →
    line_spelling (line_value s line) ≡ text → line_read text ≡ Some (line_value s line)
some_read s text line form e = ap line_read (sym e) ∙ line_back (line_value s line) form

-- and where it is spelled otherwise, the text has no line
pub other_spelling : (s : Sizes) (text body : TextValue) (got : Line) (read : Option Line) → text ≡ body ++ line_end →
    read ≡ Some got →
    ((line : ReportLine) → IsReadFrom s (first_word line ∷ fields line) body line read) →
    (line_spelling (line_value s got) ≡ text → ⊥) →
    (line : ReportLine) → line_read text ≡ Some line → has_sizes s line ≡ false
other_spelling s text body got read e is all differs line h =
    by_sizes (has_sizes s line) refl
  where
    fields_are : (body ≡ join_with_byte 32 (first_word line ∷ fields line)) × (is_form line ≡ true)
    fields_are = body_is text body line e h

    same : Some (line_value s got) ≡ Some line → line_value s got ≡ line
    same k = cc

    by_sizes : (b : Bool) → has_sizes s line ≡ b → b ≡ false
    by_sizes false k = refl
    by_sizes true k =
        absurd (differs (ap line_spelling
        (same (ap (option_map (line_value s)) (sym is) ∙ all line fields_are.1 k fields_are.0))
        ∙ sym (line_is text line h).0))

-- ---- a spelled line is text

ascii : ℕ → Bool
ascii b = nat_lt b 128

plain_ascii : (text : TextValue) → list_all is_plain text ≡ true → list_all ascii text ≡ true
unfolding ascii
plain_ascii text h = weaken is_plain ascii text low h
  where
    low : (b : ℕ) → is_plain b ≡ true → nat_lt b 128 ≡ true
    low b k = le-leb (suc b) 128 (omega (arith, leb-true (suc b) 58 (both (nat_lt 43 b) (nat_lt b 58) k).1))

more_ascii : (a b : TextValue) → list_all ascii a ≡ true → list_all ascii b ≡ true → list_all ascii (a ++ b) ≡ true
more_ascii a b h k = all-append ascii a b h k

ascii_transfer : (o : Option TransferValue) → list_all ascii (transfer_text o) ≡ true
unfolding ascii
ascii_transfer None = refl
ascii_transfer (Some t) =
    more_ascii (set_text t.targets ++ codes "@") (decimal t.start)
    (more_ascii (set_text t.targets) (codes "@") (plain_ascii (set_text t.targets) (plain-set t.targets)) refl)
    (plain_ascii (decimal t.start) (plain-decimal t.start))

ascii_remaining : (o : Option ℕ) → list_all ascii (remaining_text o) ≡ true
unfolding ascii
ascii_remaining None = refl
ascii_remaining (Some n) = plain_ascii (decimal n) (plain-decimal n)

ascii_step : (s : Actor) → list_all ascii (step_text s) ≡ true
unfolding ascii
ascii_step actor.Task = refl
ascii_step actor.Sweep = refl

ascii_steps : (steps : List Actor) → list_all ascii (steps_text steps) ≡ true
unfolding ascii
ascii_steps [] = refl
ascii_steps (s ∷ steps) = all-flat_map ascii step_text (s ∷ steps) ascii_step

ascii_slot : (s : Slot) → list_all ascii (slot_text s) ≡ true
unfolding ascii
ascii_slot slot.Request = refl
ascii_slot slot.Round1 = refl
ascii_slot slot.Round2 = refl
ascii_slot slot.Round3 = refl
ascii_slot slot.Tasks = refl
ascii_slot slot.Vote = refl
ascii_slot slot.Sweep = refl
ascii_slot slot.Final = refl
ascii_slot slot.Switch = refl
ascii_slot slot.Output = refl

ascii_fields : (line : ReportLine) → is_form line ≡ true → list_all (list_all ascii) (fields line) ≡ true
unfolding ascii
ascii_fields (head_told n m) h =
    and_true (list_all ascii (decimal n)) _ (plain_ascii (decimal n) (plain-decimal n))
    (and_true (list_all ascii (decimal m)) true (plain_ascii (decimal m) (plain-decimal m)) refl)
ascii_fields (cycle_told k active transfer) h =
    and_true (list_all ascii (decimal k)) _ (plain_ascii (decimal k) (plain-decimal k))
    (and_true (list_all ascii (set_text active)) _ (plain_ascii (set_text active) (plain-set active))
    (and_true (list_all ascii (transfer_text transfer)) true (ascii_transfer transfer) refl))
ascii_fields (channel_told l) h =
    let parts = both (is_channel l.channel)
    ((some_that is_word l.inputs && some_that is_cast l.votes) && (is_set l.judged && some_that is_small l.counts))
    h in
    let more = both (some_that is_word l.inputs && some_that is_cast l.votes)
    (is_set l.judged && some_that is_small l.counts) parts.1 in
    let words = both (some_that is_word l.inputs) (some_that is_cast l.votes) more.0 in
    let votes : TextValue = join_with_byte 44 (map vote_text l.votes) in
    let counts : TextValue = join_with_byte 44 (map decimal l.counts) in
    and_true (list_all ascii (decimal l.channel)) _ (plain_ascii (decimal l.channel) (plain-decimal l.channel))
    (and_true (list_all ascii (words_text l.inputs)) _ (plain_ascii (words_text l.inputs) (plain-words l.inputs))
    (and_true (list_all ascii votes) _ (plain_ascii votes (plain-votes l.votes words.1))
    (and_true (list_all ascii (set_text l.judged)) _ (plain_ascii (set_text l.judged) (plain-set l.judged))
    (and_true (list_all ascii counts) true (plain_ascii counts (plain-numbers l.counts)) refl))))
ascii_fields (steps_told t) h =
    and_true (list_all ascii (decimal t.channel)) _ (plain_ascii (decimal t.channel) (plain-decimal t.channel))
    (and_true (list_all ascii (steps_text t.steps)) true (ascii_steps t.steps) refl)
ascii_fields (end_told removed joined left) h =
    and_true (list_all ascii (set_text removed)) _ (plain_ascii (set_text removed) (plain-set removed))
    (and_true (list_all ascii (set_text joined)) _ (plain_ascii (set_text joined) (plain-set joined))
    (and_true (list_all ascii (remaining_text left)) true (ascii_remaining left) refl))
ascii_fields (out_told words) h =
    and_true (list_all ascii (words_text words)) true (plain_ascii (words_text words) (plain-words words)) refl
ascii_fields (stop_told stop) h =
    and_true (list_all ascii (decimal stop.cycle)) _ (plain_ascii (decimal stop.cycle) (plain-decimal stop.cycle))
    (and_true (list_all ascii (slot_text stop.slot)) _ (ascii_slot stop.slot)
    (and_true (list_all ascii (set_text stop.set)) _ (plain_ascii (set_text stop.set) (plain-set stop.set))
    (and_true (list_all ascii (set_text stop.active)) true
    (plain_ascii (set_text stop.active) (plain-set stop.active)) refl)))
ascii_fields (done_told n) h =
    and_true (list_all ascii (decimal n)) true (plain_ascii (decimal n) (plain-decimal n)) refl

ascii_word : (line : ReportLine) → list_all ascii (first_word line) ≡ true
unfolding ascii
ascii_word (head_told n m) = refl
ascii_word (cycle_told k active transfer) = refl
ascii_word (channel_told l) = refl
ascii_word (steps_told t) = refl
ascii_word (end_told removed joined left) = refl
ascii_word (out_told words) = refl
ascii_word (done_told n) = refl
ascii_word (stop_told stop) = refl

ascii_join : (first : TextValue) (pieces : List TextValue) → list_all ascii first ≡ true →
    list_all (list_all ascii) pieces ≡ true → list_all ascii (join_with_byte 32 (first ∷ pieces)) ≡ true
unfolding ascii
ascii_join first [] h k = h
ascii_join first (x ∷ pieces) h k =
    let parts = both (list_all ascii x) (list_all (list_all ascii) pieces) k in
    more_ascii first (32 ∷ join_with_byte 32 (x ∷ pieces)) h (ascii_join x pieces parts.0 parts.1)

ascii_at : (text : TextValue) → list_all ascii text ≡ true → (i : ℕ) → get_or text i 0 < 128
unfolding ascii
ascii_at [] h i = omega arith
ascii_at (b ∷ text) h zero = leb-true (suc b) 128 (both (nat_lt b 128) (list_all ascii text) h).0
ascii_at (b ∷ text) h (suc i) = ascii_at text (both (nat_lt b 128) (list_all ascii text) h).1 i

-- what is no text is no line
pub no_text : (text : TextValue) (line : ReportLine) → ¬ (IsUtf8 text) → line_read text ≡ Some line → ⊥
unfolding ascii
no_text text line h k =
    let read = line_is text line k in
    let whole : list_all ascii (join_with_byte 32 (first_word line ∷ fields line) ++ line_end) ≡ true
    = more_ascii (join_with_byte 32 (first_word line ∷ fields line)) line_end
    (ascii_join (first_word line) (fields line) (ascii_word line) (ascii_fields line read.1)) refl in
    h (subst IsUtf8 (sym (read.0 ∙ spelled_fields line))
    (IsUtf8-from_ascii (join_with_byte 32 (first_word line ∷ fields line) ++ line_end)
    (ascii_at (join_with_byte 32 (first_word line ∷ fields line) ++ line_end) whole)))
