-- What is read back from the spans of a lane, and from those of several.
use Rattle.std.proofs.Common.{◌≡◌, ℕ, zero, suc, ◌+◌, ◌<◌, ◌≤◌, Bool, true, false, cond, ◌&&◌, ◌||◌, List, [], ◌∷◌, ◌++◌, map, flat_map, get_or, Option, refl, sym, ap, ◌∙◌, arith}
use Rattle.std.specs.Prelude.{nat_le, nat_lt}
use Rattle.std.specs.List.{list_any}
use Rattle.std.proofs.lemmas.Bool.{le-leb, leb-true}
use Rattle.guards_model.proofs.BoolTests.{and_true, clear, differ, no_first, second_false}
use Rattle.picture_marks.specs.declared.facts.CycleFacts.{CycleFacts}
use Rattle.picture_marks.specs.declared.facts.Limits.{Limits}
use Rattle.picture_marks.specs.declared.shown.Lane.{Lane}
use Rattle.picture_marks.specs.declared.shown.Shown.{Shown}
use Rattle.picture_marks.specs.declared.shown.Shown.TheVariants as shown
use Rattle.picture_marks.specs.declared.shown.Mark.{Mark}
use Rattle.picture_marks.specs.Shown.{lane_shown_in, same, same_lane, is_drawn}
use Rattle.picture_marks.specs.Marks.{marks_drawn, longer_span, next_mark, spans_on, first_mark, spans_of, marks_in}
use Rattle.picture_marks.specs.ReadBack.{covers, shown_at, AreMaximal}
use Rattle.picture_marks.proofs.Same.{same_is, undrawn, own_lane, same_lane_is}

-- ---- whether a mark is of a cycle

reaches : (m : Mark) (c : ℕ) → m.first ≤ c → c < m.past → (nat_le m.first c && nat_lt c m.past) ≡ true
reaches m c h k = and_true (nat_le m.first c) (nat_lt c m.past) (le-leb m.first c h) (le-leb (suc c) m.past k)

begins_after : (m : Mark) (c : ℕ) → c < m.first → (nat_le m.first c && nat_lt c m.past) ≡ false
begins_after m c h =
    ap (λ b. b && nat_lt c m.past) (clear (nat_le m.first c) (λ t. absurd (omega (arith, leb-true m.first c t, h))))

is_over : (m : Mark) (c : ℕ) → m.past ≤ c → (nat_le m.first c && nat_lt c m.past) ≡ false
is_over m c h =
    second_false (nat_le m.first c) (nat_lt c m.past)
    (clear (nat_lt c m.past) (λ t. absurd (omega (arith, leb-true (suc c) m.past t, h))))

not_there : (l : Lane) (c : ℕ) (m : Mark) → (nat_le m.first c && nat_lt c m.past) ≡ false → covers l c m ≡ false
not_there l c m h = second_false (same_lane m.lane l) (nat_le m.first c && nat_lt c m.past) h

-- ---- the first of some drawn marks

past_it : (l : Lane) (c : ℕ) (m : Mark) (ms : List Mark) → covers l c m ≡ false →
    shown_at (marks_drawn (m ∷ ms)) l c ≡ shown_at (marks_drawn ms) l c
past_it l c m ms gone = by_test (is_drawn m.shown)
  where
    by_test : (b : Bool) → shown_at (cond b (m ∷ marks_drawn ms) (marks_drawn ms)) l c ≡ shown_at (marks_drawn ms) l c
    by_test true = ap (λ t. cond t m.shown (shown_at (marks_drawn ms) l c)) gone
    by_test false = refl

here : (l : Lane) (c : ℕ) (m : Mark) (ms : List Mark) → covers l c m ≡ true →
    shown_at (marks_drawn ms) l c ≡ shown.Nothing → shown_at (marks_drawn (m ∷ ms)) l c ≡ m.shown
here l c m ms there none = by_test (is_drawn m.shown) refl
  where
    by_test : (b : Bool) → is_drawn m.shown ≡ b → shown_at (cond b (m ∷ marks_drawn ms) (marks_drawn ms)) l c ≡ m.shown
    by_test true k = ap (λ t. cond t m.shown (shown_at (marks_drawn ms) l c)) there
    by_test false k = none ∙ sym (undrawn m.shown k)

-- ---- the spans from a mark on

abbrev Reads : Lane → ℕ → Mark → Shown → List Shown → Shown → Bool → Type 0
Reads l c m w ws v b =
    shown_at (marks_drawn (cond b (spans_on (longer_span m) ws) (m ∷ spans_on (next_mark m w) ws))) l c ≡ v

-- no cycle before it is shown
early : (l : Lane) (m : Mark) (ws : List Shown) (c : ℕ) → c < m.first → m.first ≤ m.past →
    shown_at (marks_drawn (spans_on m ws)) l c ≡ shown.Nothing
early l m [] c h k = past_it l c m [] (not_there l c m (begins_after m c h))
early l m (w ∷ ws) c h k =
    by_test (same m.shown w) (early l (longer_span m) ws c h (omega (arith, k)))
    (early l (next_mark m w) ws c (omega (arith, h, k)) (omega arith))
  where
    by_test : (b : Bool) → shown_at (marks_drawn (spans_on (longer_span m) ws)) l c ≡ shown.Nothing →
        shown_at (marks_drawn (spans_on (next_mark m w) ws)) l c ≡ shown.Nothing → Reads l c m w ws shown.Nothing b
    by_test true longest next = longest
    by_test false longest next =
        past_it l c m (spans_on (next_mark m w) ws) (not_there l c m (begins_after m c h)) ∙ next

-- its own cycles show what it shows
amid : (l : Lane) (m : Mark) (ws : List Shown) (c : ℕ) → same_lane m.lane l ≡ true → m.first ≤ c → c < m.past →
    shown_at (marks_drawn (spans_on m ws)) l c ≡ m.shown
amid l m [] c own h k = here l c m [] (and_true (same_lane m.lane l) _ own (reaches m c h k)) refl
amid l m (w ∷ ws) c own h k =
    by_test (same m.shown w) (amid l (longer_span m) ws c own h (omega (arith, k)))
    (early l (next_mark m w) ws c (omega (arith, k)) (omega arith))
  where
    by_test : (b : Bool) → shown_at (marks_drawn (spans_on (longer_span m) ws)) l c ≡ m.shown →
        shown_at (marks_drawn (spans_on (next_mark m w) ws)) l c ≡ shown.Nothing → Reads l c m w ws m.shown b
    by_test true longest next = longest
    by_test false longest next =
        here l c m (spans_on (next_mark m w) ws) (and_true (same_lane m.lane l) _ own (reaches m c h k)) next

-- the cycles after it show what they say
later : (l : Lane) (m : Mark) (ws : List Shown) (k c : ℕ) → same_lane m.lane l ≡ true → c ≡ m.past + k →
    m.first ≤ m.past → shown_at (marks_drawn (spans_on m ws)) l c ≡ get_or ws k shown.Nothing
later l m [] k c own at ordered = past_it l c m [] (not_there l c m (is_over m c (omega (arith, at))))
later l m (w ∷ ws) zero c own at ordered =
    by_test (same m.shown w) refl
    (amid l (longer_span m) ws c own (omega (arith, at, ordered)) (omega (arith, at)))
    (amid l (next_mark m w) ws c own (omega (arith, at)) (omega (arith, at)))
  where
    by_test : (b : Bool) → same m.shown w ≡ b → shown_at (marks_drawn (spans_on (longer_span m) ws)) l c ≡ m.shown →
        shown_at (marks_drawn (spans_on (next_mark m w) ws)) l c ≡ w → Reads l c m w ws w b
    by_test true e longest next = longest ∙ same_is m.shown w e
    by_test false e longest next =
        past_it l c m (spans_on (next_mark m w) ws) (not_there l c m (is_over m c (omega (arith, at)))) ∙ next
later l m (w ∷ ws) (suc k) c own at ordered =
    by_test (same m.shown w) (later l (longer_span m) ws k c own (omega (arith, at)) (omega (arith, ordered)))
    (later l (next_mark m w) ws k c own (omega (arith, at)) (omega arith))
  where
    by_test : (b : Bool) → shown_at (marks_drawn (spans_on (longer_span m) ws)) l c ≡ get_or ws k shown.Nothing →
        shown_at (marks_drawn (spans_on (next_mark m w) ws)) l c ≡ get_or ws k shown.Nothing →
        Reads l c m w ws (get_or ws k shown.Nothing) b
    by_test true longest next = longest
    by_test false longest next =
        past_it l c m (spans_on (next_mark m w) ws) (not_there l c m (is_over m c (omega (arith, at)))) ∙ next

values_read : (l : Lane) (vs : List Shown) (c : ℕ) →
    shown_at (marks_drawn (spans_of l vs)) l c ≡ get_or vs c shown.Nothing
values_read l [] c = refl
values_read l (v ∷ vs) zero = amid l (first_mark l v) vs 0 (own_lane l) (omega arith) (omega arith)
values_read l (v ∷ vs) (suc c) = later l (first_mark l v) vs c (suc c) (own_lane l) (omega arith) (omega arith)

-- ---- spans of another lane

others : (l : Lane) (m : Mark) (ws : List Shown) (c : ℕ) → same_lane m.lane l ≡ false →
    list_any (covers l c) (marks_drawn (spans_on m ws)) ≡ false
others l m ws c other = by_list ws m other
  where
    absent : (m : Mark) (ms : List Mark) → same_lane m.lane l ≡ false → list_any (covers l c) (marks_drawn ms) ≡ false →
        list_any (covers l c) (marks_drawn (m ∷ ms)) ≡ false
    absent m ms strange rest = by_test (is_drawn m.shown)
      where
        by_test : (b : Bool) → list_any (covers l c) (cond b (m ∷ marks_drawn ms) (marks_drawn ms)) ≡ false
        by_test true =
            ap (λ t. (t && (nat_le m.first c && nat_lt c m.past)) || list_any (covers l c) (marks_drawn ms)) strange
            ∙ rest
        by_test false = rest

    by_list : (ws : List Shown) (m : Mark) → same_lane m.lane l ≡ false →
        list_any (covers l c) (marks_drawn (spans_on m ws)) ≡ false
    by_list [] m strange = absent m [] strange refl
    by_list (w ∷ ws) m strange =
        by_test (same m.shown w) (by_list ws (longer_span m) strange) (by_list ws (next_mark m w) strange)
      where
        by_test : (b : Bool) → list_any (covers l c) (marks_drawn (spans_on (longer_span m) ws)) ≡ false →
            list_any (covers l c) (marks_drawn (spans_on (next_mark m w) ws)) ≡ false →
            list_any (covers l c) (marks_drawn (cond b (spans_on (longer_span m) ws) (m ∷ spans_on (next_mark m w) ws)))
            ≡ false
        by_test true longest next = longest
        by_test false longest next = absent m (spans_on (next_mark m w) ws) strange next

others_of : (l other : Lane) (vs : List Shown) (c : ℕ) → same_lane other l ≡ false →
    list_any (covers l c) (marks_drawn (spans_of other vs)) ≡ false
others_of l other [] c h = refl
others_of l other (v ∷ vs) c h = others l (first_mark other v) vs c h

-- ---- one more cycle

pub goes_on : (m : Mark) (v : Shown) (vs : List Shown) → same m.shown v ≡ true →
    marks_drawn (spans_on m (v ∷ vs)) ≡ marks_drawn (spans_on (longer_span m) vs)
goes_on m v vs h = ap (λ b. marks_drawn (cond b (spans_on (longer_span m) vs) (m ∷ spans_on (next_mark m v) vs))) h

abbrev pub drawn_one : Mark → List Mark
drawn_one m = cond (is_drawn m.shown) (m ∷ []) []

pub one_drawn : (m : Mark) (ms : List Mark) → marks_drawn (m ∷ ms) ≡ drawn_one m ++ marks_drawn ms
one_drawn m ms = by_test (is_drawn m.shown)
  where
    by_test : (b : Bool) → cond b (m ∷ marks_drawn ms) (marks_drawn ms) ≡ cond b (m ∷ []) [] ++ marks_drawn ms
    by_test true = refl
    by_test false = refl

pub ends_here : (m : Mark) (v : Shown) (vs : List Shown) → same m.shown v ≡ false →
    marks_drawn (spans_on m (v ∷ vs)) ≡ drawn_one m ++ marks_drawn (spans_on (next_mark m v) vs)
ends_here m v vs h =
    ap (λ b. marks_drawn (cond b (spans_on (longer_span m) vs) (m ∷ spans_on (next_mark m v) vs))) h
    ∙ one_drawn m (spans_on (next_mark m v) vs)

pub last_here : (m : Mark) → marks_drawn (spans_on m []) ≡ drawn_one m
last_here m = refl

-- ---- marks before other marks

none_here : (ms ns : List Mark) (l : Lane) (c : ℕ) → list_any (covers l c) ms ≡ false →
    shown_at (ms ++ ns) l c ≡ shown_at ns l c
none_here [] ns l c h = refl
none_here (m ∷ ms) ns l c h =
    let both_no = no_first (covers l c m) (list_any (covers l c) ms) h in
    ap (λ t. cond t m.shown (shown_at (ms ++ ns) l c)) both_no.0 ∙ none_here ms ns l c both_no.1

none_at : (ms : List Mark) (l : Lane) (c : ℕ) → list_any (covers l c) ms ≡ false → shown_at ms l c ≡ shown.Nothing
none_at [] l c h = refl
none_at (m ∷ ms) l c h =
    let both_no = no_first (covers l c m) (list_any (covers l c) ms) h in
    ap (λ t. cond t m.shown (shown_at ms l c)) both_no.0 ∙ none_at ms l c both_no.1

some_here : (ms ns : List Mark) (l : Lane) (c : ℕ) → list_any (covers l c) ms ≡ true →
    shown_at (ms ++ ns) l c ≡ shown_at ms l c
some_here [] ns l c h = differ (sym h)
some_here (m ∷ ms) ns l c h = by_test (covers l c m) h (some_here ms ns l c)
  where
    by_test : (b : Bool) → (b || list_any (covers l c) ms) ≡ true →
        (list_any (covers l c) ms ≡ true → shown_at (ms ++ ns) l c ≡ shown_at ms l c) →
        cond b m.shown (shown_at (ms ++ ns) l c) ≡ cond b m.shown (shown_at ms l c)
    by_test true k rest = refl
    by_test false k rest = rest k

-- ---- all lanes

nothing_twice : (b : Bool) → cond b shown.Nothing shown.Nothing ≡ shown.Nothing
nothing_twice true = refl
nothing_twice false = refl

module _ (limits : Option Limits) (told : List CycleFacts) (l : Lane) (c : ℕ) where
  abbrev value : Shown
  value = get_or (map (lane_shown_in limits l) told) c shown.Nothing

  own_read : (lane : Lane) (rest : List Mark) (known : Bool) → lane ≡ l →
      shown_at rest l c ≡ cond known value shown.Nothing → shown_at (marks_in limits lane told ++ rest) l c ≡ value
  own_read lane rest known is after = by_test (list_any (covers l c) (marks_in limits lane told)) refl
    where
      own : shown_at (marks_in limits lane told) l c ≡ value
      own = ap (λ x. shown_at (marks_in limits x told) l c) is ∙ values_read l (map (lane_shown_in limits l) told) c

      by_test : (b : Bool) → list_any (covers l c) (marks_in limits lane told) ≡ b →
          shown_at (marks_in limits lane told ++ rest) l c ≡ value
      by_test true h = some_here (marks_in limits lane told) rest l c h ∙ own
      by_test false h =
          let empty : value ≡ shown.Nothing = sym own ∙ none_at (marks_in limits lane told) l c h in
          none_here (marks_in limits lane told) rest l c h ∙ after ∙ ap (λ v. cond known v shown.Nothing) empty
          ∙ nothing_twice known ∙ sym empty

  pub all_read : (lanes : List Lane) →
      shown_at (flat_map (λ lane. marks_in limits lane told) lanes) l c
      ≡ cond (list_any (λ lane. same_lane lane l) lanes) value shown.Nothing
  all_read [] = refl
  all_read (lane ∷ lanes) = by_test (same_lane lane l) refl (all_read lanes)
    where
      by_test : (b : Bool) → same_lane lane l ≡ b →
          shown_at (flat_map (λ lane. marks_in limits lane told) lanes) l c
          ≡ cond (list_any (λ lane. same_lane lane l) lanes) value shown.Nothing →
          shown_at (marks_in limits lane told ++ flat_map (λ lane. marks_in limits lane told) lanes) l c
          ≡ cond (b || list_any (λ lane. same_lane lane l) lanes) value shown.Nothing
      by_test true h rest =
          own_read lane (flat_map (λ lane. marks_in limits lane told) lanes) _ (same_lane_is lane l h) rest
      by_test false h rest =
          none_here (marks_in limits lane told) (flat_map (λ lane. marks_in limits lane told) lanes) l c
          (others_of l lane (map (lane_shown_in limits lane) told) c h) ∙ rest

-- ---- neighbours

abbrev StartsOther : Mark → List Mark → Type 0
StartsOther m [] = Unit {0}
StartsOther m (n ∷ ns) = same m.shown n.shown ≡ false

starts : (m n : Mark) (ws : List Shown) → same m.shown n.shown ≡ false → StartsOther m (spans_on n ws)
starts m n [] h = h
starts m n (w ∷ ws) h = by_test (same n.shown w) (starts m (longer_span n) ws h)
  where
    by_test : (b : Bool) → StartsOther m (spans_on (longer_span n) ws) →
        StartsOther m (cond b (spans_on (longer_span n) ws) (n ∷ spans_on (next_mark n w) ws))
    by_test true k = k
    by_test false k = h

chained : (m : Mark) (ms : List Mark) → m.first < m.past → StartsOther m ms → AreMaximal m.past ms →
    AreMaximal m.first (m ∷ ms)
chained m [] h other rest = (refl, h)
chained m (n ∷ ns) h other rest = (refl, h, other, rest)

maximal : (m : Mark) (ws : List Shown) → m.first < m.past → AreMaximal m.first (spans_on m ws)
maximal m [] h = (refl, h)
maximal m (w ∷ ws) h =
    by_test (same m.shown w) refl (maximal (longer_span m) ws (omega (arith, h)))
    (maximal (next_mark m w) ws (omega arith))
  where
    by_test : (b : Bool) → same m.shown w ≡ b → AreMaximal m.first (spans_on (longer_span m) ws) →
        AreMaximal m.past (spans_on (next_mark m w) ws) →
        AreMaximal m.first (cond b (spans_on (longer_span m) ws) (m ∷ spans_on (next_mark m w) ws))
    by_test true e longest next = longest
    by_test false e longest next =
        chained m (spans_on (next_mark m w) ws) h (starts m (next_mark m w) ws e) next

pub all_maximal : (l : Lane) (vs : List Shown) → AreMaximal 0 (spans_of l vs)
all_maximal l [] = tt
all_maximal l (v ∷ vs) = maximal (first_mark l v) vs (omega arith)
