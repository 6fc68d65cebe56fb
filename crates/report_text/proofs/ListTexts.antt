-- Texts of lists, item by item, and texts of lists that are empty or not.
use Rattle.std.proofs.Common.{◌≡◌, ◌+◌, ◌<◌, ◌==◌, ◌/◌, ◌%◌, ◌^◌, ℕ, zero, suc, Bool, true, false, if◌then◌else◌, List, [], ◌∷◌, ◌++◌, length, map, filter, flat_map, take, get_or, codes, refl, sym, ap, ◌∙◌, append_assoc, append-nil, arith}
use Rattle.std.proofs.Math.Dec.{eqb-suc-zero}
use Rattle.std.specs.List.{join_with_byte, range_with_len}
use Rattle.std.proofs.lemmas.List.{take_more, map-append, map-id}
use Rattle.std.proofs.lemmas.List.Elements.{filter-append}
use Rattle.std.proofs.lemmas.List.FromFn.{map-range_with_len_more}
use Rattle.std.proofs.lemmas.Grind.{flat_map-append}
use Rattle.guards_model.specs.Channels.{channels_where, set_of_mask}
use Rattle.std.specs.Fmt.{decimal}
use Rattle.std.proofs.lemmas.List.Folds.{flat_map-map}
use Rattle.guards_model.specs.Texts.{list_text, steps_text, step_text, RecordValue, LineValue, TraceValue, cycle_line, channel_line, trace_line, end_line, cycle_part, part_text}
use Rattle.guards_model.specs.Records.{actor_of_step, shown_line, shown}

-- one more piece after others
pub join-more : (x : List ℕ) (xs : List (List ℕ)) (y : List ℕ) →
    join_with_byte 44 (x ∷ (xs ++ y ∷ [])) ≡ join_with_byte 44 (x ∷ xs) ++ (44 ∷ y)
join-more x [] y = refl
join-more x (z ∷ xs) y = ap (λ (l : List ℕ). x ++ (44 ∷ l)) (join-more z xs y)
    ∙ sym (append_assoc x (44 ∷ join_with_byte 44 (z ∷ xs)) (44 ∷ y))

module _ {X : Type 0} (f : X → List ℕ) where
  -- the texts of one item more, joined
  pub joined_next : (xs : List X) (i : ℕ) (x : X) → i < length xs → x ≡ get_or xs i x
      → join_with_byte 44 (map f (take (i + 1) xs))
      ≡ join_with_byte 44 (map f (take i xs)) ++ (if i == 0 then f x else 44 ∷ f x)
  joined_next [] i x below here = absurd (omega arith)
  joined_next (z ∷ xs) zero x below here = ap f (sym here)
  joined_next (z ∷ xs) (suc i) x below here =
      let more : take (suc i + 1) (z ∷ xs) ≡ take (suc i) (z ∷ xs) ++ get_or (z ∷ xs) (suc i) x ∷ [] =
      take_more (z ∷ xs) (suc i) x below in
      let same : take (suc i + 1) (z ∷ xs) ≡ z ∷ (take i xs ++ x ∷ []) =
      more ∙ ap (λ (y : X). z ∷ (take i xs ++ y ∷ [])) (sym here) in
      ap (λ (l : List X). join_with_byte 44 (map f l)) same
      ∙ ap (λ (l : List (List ℕ)). join_with_byte 44 (f z ∷ l)) (map-append f (take i xs) (x ∷ []))
      ∙ join-more (f z) (map f (take i xs)) (f x)
      ∙ ap (λ (b : Bool). join_with_byte 44 (f z ∷ map f (take i xs)) ++ (if b then f x else 44 ∷ f x))
      (sym (eqb-suc-zero i))

  -- the texts of one item more, in a row
  pub flat_map_next : (xs : List X) (i : ℕ) (x : X) → i < length xs → x ≡ get_or xs i x
      → flat_map f (take (i + 1) xs) ≡ flat_map f (take i xs) ++ f x
  flat_map_next xs i x below here =
      ap (λ (l : List X). flat_map f l) (take_more xs i x below ∙ ap (λ (y : X). take i xs ++ y ∷ []) (sym here))
      ∙ flat_map-append f (take i xs) (x ∷ []) ∙ ap (λ (l : List ℕ). flat_map f (take i xs) ++ l) (append-nil (f x))

  pub flat_map_at : (xs : List X) (i : ℕ) (d : X) → i < length xs →
      flat_map f (take (i + 1) xs) ≡ flat_map f (take i xs) ++ f (get_or xs i d)
  flat_map_at xs i d below =
      ap (λ (l : List X). flat_map f l) (take_more xs i d below)
      ∙ flat_map-append f (take i xs) (get_or xs i d ∷ [])
      ∙ ap (λ (l : List ℕ). flat_map f (take i xs) ++ l) (append-nil (f (get_or xs i d)))

-- the channels of a mask below the next channel
pub members_next : (p : ℕ → Bool) (n : ℕ) →
    filter p (range_with_len 0 (n + 1)) ≡ filter p (range_with_len 0 n) ++ (if p n then n ∷ [] else [])
members_next p n =
    let more : range_with_len 0 (n + 1) ≡ range_with_len 0 n ++ n ∷ [] =
    simp map-id at (map-range_with_len_more (λ (x : ℕ). x) 0 n n (omega arith)) in
    ap (λ (l : List ℕ). filter p l) more ∙ filter-append p (range_with_len 0 n) (n ∷ [])

-- the channels of a mask are those of its set
pub members_all : (m : ℕ) → filter (λ q. (m / 2 ^ q) % 2 == 1) (range_with_len 0 7) ≡ set_of_mask m
unfolding channels_where set_of_mask
members_all m = refl

-- tests for an empty list
none_of : {X : Type 0} (xs : List X) → (length xs == 0) ≡ true → xs ≡ []
none_of [] e = refl
none_of (x ∷ xs) e = let h : false ≡ true = sym (eqb-suc-zero (length xs)) ∙ e in absurd cc

pub list_text_none : (xs : List ℕ) → (length xs == 0) ≡ true → list_text (map decimal xs) ≡ codes "-"
list_text_none xs e = ap (λ (l : List ℕ). list_text (map decimal l)) (none_of xs e)

pub list_text_some : (xs : List ℕ) → (length xs == 0) ≡ false →
    list_text (map decimal xs) ≡ join_with_byte 44 (map decimal xs)
list_text_some [] e = let h : true ≡ false = e in absurd cc
list_text_some (x ∷ xs) e = refl

pub steps_text_none : (xs : List ℕ) → (length xs == 0) ≡ true → steps_text (map actor_of_step xs) ≡ codes "-"
steps_text_none xs e = ap (λ (l : List ℕ). steps_text (map actor_of_step l)) (none_of xs e)

pub steps_text_some : (xs : List ℕ) → (length xs == 0) ≡ false →
    steps_text (map actor_of_step xs) ≡ flat_map (λ s. step_text (actor_of_step s)) xs
steps_text_some [] e = let h : true ≡ false = e in absurd cc
steps_text_some (x ∷ xs) e = flat_map-map step_text actor_of_step (x ∷ xs)

-- lines between a first and a last one
lines_between : (a : List ℕ) (xs ys : List (List ℕ)) (b : List ℕ)
    → part_text (a ∷ (xs ++ ys ++ b ∷ [])) ≡ ((a ++ part_text xs) ++ part_text ys) ++ b
lines_between a xs ys b = simp (flat_map-append, append_assoc, append-nil)

lines_if : (trace : Bool) (traces : List TraceValue) →
    part_text (if trace then map trace_line traces else []) ≡ (if trace then flat_map trace_line traces else [])
lines_if true traces = flat_map-map (λ line. line) trace_line traces
lines_if false traces = refl

lines_shown : (channels width outputs : ℕ) (lines : List LineValue)
    → part_text (map channel_line (map (shown_line channels width outputs) lines))
    ≡ flat_map (λ l. channel_line (shown_line channels width outputs l)) lines
lines_shown channels width outputs lines =
    flat_map-map (λ line. line) channel_line (map (shown_line channels width outputs) lines)
    ∙ flat_map-map channel_line (shown_line channels width outputs) lines

-- the whole part of a cycle, by its lines
pub part_is : (trace : Bool) (channels width outputs : ℕ) (r : RecordValue)
    → part_text (cycle_part trace (shown channels width outputs r))
    ≡ ((cycle_line r ++ flat_map (λ l. channel_line (shown_line channels width outputs l)) r.lines)
    ++ (if trace then flat_map trace_line r.traces else [])) ++ end_line r
part_is trace channels width outputs r =
    lines_between (cycle_line r) (map channel_line (map (shown_line channels width outputs) r.lines))
    (if trace then map trace_line r.traces else []) (end_line r)
    ∙ ap (λ (l : List ℕ). ((cycle_line r ++ l) ++ part_text (if trace then map trace_line r.traces else []))
    ++ end_line r) (lines_shown channels width outputs r.lines)
    ∙ ap (λ (l : List ℕ). ((cycle_line r ++ flat_map (λ v. channel_line (shown_line channels width outputs v)) r.lines)
    ++ l) ++ end_line r) (lines_if trace r.traces)

-- the part of a cycle, as it is written line by line
pub part_written : (trace : Bool) (channels width outputs : ℕ) (r : RecordValue) (t0 t1 t2 t3 x y : List ℕ)
    (ls : List LineValue) (ts : List TraceValue)
    → t0 ≡ cycle_line r → x ≡ flat_map (λ l. channel_line (shown_line channels width outputs l)) ls → ls ≡ r.lines →
    t1 ≡ t0 ++ x
    → t2 ≡ t1 ++ (if trace then flat_map trace_line ts else []) → ts ≡ r.traces → y ≡ end_line r → t3 ≡ t2 ++ y
    → t3 ≡ part_text (cycle_part trace (shown channels width outputs r))
part_written trace channels width outputs r t0 t1 t2 t3 x y ls ts first lines same_lines one two same_traces last
    three =
    let shown_now : x ≡ flat_map (λ l. channel_line (shown_line channels width outputs l)) r.lines =
    lines ∙ ap (λ (v : List LineValue). flat_map (λ l. channel_line (shown_line channels width outputs l)) v)
    same_lines in
    let traced_now : t2 ≡ t1 ++ (if trace then flat_map trace_line r.traces else []) =
    two ∙ ap (λ (v : List TraceValue). t1 ++ (if trace then flat_map trace_line v else [])) same_traces in
    let all : t3 ≡ ((cycle_line r ++ flat_map (λ l. channel_line (shown_line channels width outputs l)) r.lines)
    ++ (if trace then flat_map trace_line r.traces else [])) ++ end_line r =
    rw (three, traced_now, one, first, shown_now, last) refl in
    all ∙ sym (part_is trace channels width outputs r)

-- four lines, and five
pub four_written : (a b c d t0 t1 t2 t3 x y z : List ℕ) → t0 ≡ a → x ≡ b → t1 ≡ t0 ++ x → y ≡ c → t2 ≡ t1 ++ y → z ≡ d →
    t3 ≡ t2 ++ z
    → t3 ≡ part_text (a ∷ b ∷ c ∷ d ∷ [])
four_written a b c d t0 t1 t2 t3 x y z first second one third two fourth three =
    let all : t3 ≡ ((a ++ b) ++ c) ++ d = rw (three, two, one, first, second, third, fourth) refl in
    all ∙ simp (append_assoc, append-nil)

pub five_written : (a b c d e t0 t1 t2 t3 t4 x y z u : List ℕ) → t0 ≡ a → x ≡ b → t1 ≡ t0 ++ x → y ≡ c → t2 ≡ t1 ++ y →
    z ≡ d → t3 ≡ t2 ++ z → u ≡ e → t4 ≡ t3 ++ u
    → t4 ≡ part_text (a ∷ b ∷ c ∷ d ∷ e ∷ [])
five_written a b c d e t0 t1 t2 t3 t4 x y z u first second one third two fourth three fifth four =
    let all : t4 ≡ (((a ++ b) ++ c) ++ d) ++ e = rw (four, three, two, one, first, second, third, fourth, fifth) refl in
    all ∙ simp (append_assoc, append-nil)
