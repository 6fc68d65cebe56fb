-- The members of a set of seven truth values, as the ascending list.
use Rattle.std.proofs.Common.{◌≡◌, ℕ, zero, suc, ◌+◌, ◌<◌, ◌≤◌, ◌==◌, Bool, true, false, cond, ◌||◌, List, [], ◌∷◌, ◌++◌, length, take, get_or, refl, sym, ap, ◌∙◌, arith, add-one, eq-eqb, ◌≢◌, below_more, get_or-set_other, get_or-set_same, length-append, append-nil, length-set}
use Rattle.std.specs.Prelude.{count_by, nat_lt, slice_set}
use Rattle.std.specs.List.{list_all}
use Rattle.std.proofs.lemmas.Bool.{leb-true, le-leb, eqb-true}
use Rattle.guards_model.specs.Channels.{has}
use Rattle.guards_model.specs.Frames.{is_set, is_channel, ascends}
use Rattle.guards_model.proofs.BoolTests.{and_true}
use Rattle.oral_messages.proofs.RankLaws.{one_if, count-cons}
use Rattle.std.proofs.lemmas.List.{take_more_set}
use Rattle.std.proofs.Math.Seq.{take-length}
use Rattle.oral_messages.specs.Sets.{members_from, members, AreTables}

differ : {A : Type 0} → true ≡ false → A
differ k = absurd cc

if_less : (a b : ℕ) (e : Bool) → nat_lt a b ≡ e → a < b → nat_lt a b ≡ true
if_less a b true h lt = h
if_less a b false h lt = le-leb (suc a) b lt

if_not_less : (a b : ℕ) (e : Bool) → nat_lt a b ≡ e → b ≤ a → nat_lt a b ≡ false
if_not_less a b true h le = absurd (omega (arith, leb-true (suc a) b h, le))
if_not_less a b false h le = h

none_under : (t s : ℕ) (flags : List Bool) → t ≤ s → count_by (λ x. nat_lt x t) (members_from s flags) ≡ 0
unfolding one_if
none_under t s [] h = refl
none_under t s (false ∷ flags) h = none_under t (s + 1) flags (omega (arith, h))
none_under t s (true ∷ flags) h =
    count-cons (λ x. nat_lt x t) s (members_from (s + 1) flags)
    ∙ ap (λ b. one_if b + count_by (λ x. nat_lt x t) (members_from (s + 1) flags)) (if_not_less s t (nat_lt s t) refl h)
    ∙ none (count_by (λ x. nat_lt x t) (members_from (s + 1) flags)) (none_under t (s + 1) flags (omega (arith, h)))
  where
    none : (n : ℕ) → n ≡ 0 → one_if false + n ≡ 0
    none n e = omega (arith, e)

-- the members below a label are those among the truth values before it
pub counted_under : (t s q : ℕ) (flags : List Bool) → t ≡ s + q →
    count_by (λ x. nat_lt x t) (members_from s flags) ≡ length (members_from s (take q flags))
unfolding one_if
counted_under t s zero flags e = none_under t s flags (omega (arith, e))
counted_under t s (suc q) [] e = refl
counted_under t s (suc q) (false ∷ flags) e = counted_under t (s + 1) q flags (omega (arith, e))
counted_under t s (suc q) (true ∷ flags) e =
    count-cons (λ x. nat_lt x t) s (members_from (s + 1) flags)
    ∙ ap (λ b. one_if b + count_by (λ x. nat_lt x t) (members_from (s + 1) flags))
    (if_less s t (nat_lt s t) refl (omega (arith, e)))
    ∙ one (count_by (λ x. nat_lt x t) (members_from (s + 1) flags)) (length (members_from (s + 1) (take q flags)))
    (counted_under t (s + 1) q flags (omega (arith, e)))
  where
    one : (n m : ℕ) → n ≡ m → one_if true + n ≡ suc m
    one n m e = omega (arith, e)

-- one more truth value
pub from_more : (s i : ℕ) (flags : List Bool) → i < length flags →
    members_from s (take (suc i) flags) ≡ members_from s (take i flags) ++ cond (get_or flags i false) ((s + i) ∷ []) []
from_more s i [] h = absurd (omega (arith, h))
from_more s zero (true ∷ flags) h = ap (λ n. n ∷ []) (omega arith)
from_more s zero (false ∷ flags) h = refl
from_more s (suc i) (true ∷ flags) h =
    ap (λ ys. s ∷ ys) (from_more (s + 1) i flags (omega (arith, h))
    ∙ ap (λ n. members_from (s + 1) (take i flags) ++ cond (get_or flags i false) (n ∷ []) []) (omega arith))
from_more s (suc i) (false ∷ flags) h =
    from_more (s + 1) i flags (omega (arith, h))
    ∙ ap (λ n. members_from (s + 1) (take i flags) ++ cond (get_or flags i false) (n ∷ []) []) (omega arith)

all_channels : (s : ℕ) (flags : List Bool) → s + length flags ≤ 7 → list_all is_channel (members_from s flags) ≡ true
all_channels s [] h = refl
all_channels s (true ∷ flags) h =
    and_true (is_channel s) (list_all is_channel (members_from (s + 1) flags))
    (if_less s 7 (nat_lt s 7) refl (omega (arith, h))) (all_channels (s + 1) flags (omega (arith, h)))
all_channels s (false ∷ flags) h = all_channels (s + 1) flags (omega (arith, h))

all_above : (t s : ℕ) (flags : List Bool) → t < s → list_all (λ y. nat_lt t y) (members_from s flags) ≡ true
all_above t s [] h = refl
all_above t s (true ∷ flags) h =
    and_true (nat_lt t s) (list_all (λ y. nat_lt t y) (members_from (s + 1) flags)) (if_less t s (nat_lt t s) refl h)
    (all_above t (s + 1) flags (omega (arith, h)))
all_above t s (false ∷ flags) h = all_above t (s + 1) flags (omega (arith, h))

ascending : (s : ℕ) (flags : List Bool) → ascends (members_from s flags) ≡ true
ascending s [] = refl
ascending s (true ∷ flags) =
    and_true (list_all (λ y. nat_lt s y) (members_from (s + 1) flags)) (ascends (members_from (s + 1) flags))
    (all_above s (s + 1) flags (omega arith)) (ascending (s + 1) flags)
ascending s (false ∷ flags) = ascending (s + 1) flags

pub members_are_set : (flags : List Bool) → length flags ≡ 7 → is_set (members_from 0 flags) ≡ true
unfolding is_set
members_are_set flags h =
    and_true (list_all is_channel (members_from 0 flags)) (ascends (members_from 0 flags))
    (all_channels 0 flags (omega (arith, h))) (ascending 0 flags)

not_equal : (a b : ℕ) (e : Bool) → (a == b) ≡ e → (a ≡ b → ⊥) → (a == b) ≡ false
not_equal a b true h ne = absurd (ne (eqb-true a b h))
not_equal a b false h ne = h

none_before : (t s : ℕ) (flags : List Bool) → t < s → has (members_from s flags) t ≡ false
none_before t s [] h = refl
none_before t s (true ∷ flags) h =
    ap (λ b. b || has (members_from (s + 1) flags) t) (not_equal s t (s == t) refl (λ e. omega (arith, h, e)))
    ∙ none_before t (s + 1) flags (omega (arith, h))
none_before t s (false ∷ flags) h = none_before t (s + 1) flags (omega (arith, h))

pub has_flag : (t s q : ℕ) (flags : List Bool) → t ≡ s + q → has (members_from s flags) t ≡ get_or flags q false
has_flag t s q [] e = refl
has_flag t s zero (true ∷ flags) e = ap (λ b. b || has (members_from (s + 1) flags) t) (eq-eqb s t (omega (arith, e)))
has_flag t s zero (false ∷ flags) e = none_before t (s + 1) flags (omega (arith, e))
has_flag t s (suc q) (true ∷ flags) e =
    ap (λ b. b || has (members_from (s + 1) flags) t) (not_equal s t (s == t) refl (λ h. omega (arith, h, e)))
    ∙ has_flag t (s + 1) q flags (omega (arith, e))
has_flag t s (suc q) (false ∷ flags) e = has_flag t (s + 1) q flags (omega (arith, e))

-- ---- the walk over the channels that makes the tables

-- what is listed before a label
pub record AreListed (label : ℕ) (flags : List Bool) (count : ℕ) (labels below : List ℕ) : Type 0 where
  pub few : count ≤ label
  pub long_labels : length labels ≡ 7
  pub long_below : length below ≡ 7
  pub counted : count ≡ length (members_from 0 (take label flags))
  pub listed : take count labels ≡ members_from 0 (take label flags)
  pub ranked : (q : ℕ) → q < label → get_or below q 0 ≡ length (members_from 0 (take q flags))

rank_more : (label : ℕ) (flags : List Bool) (count : ℕ) (labels below : List ℕ) → label < 7 →
    AreListed label flags count labels below →
    (q : ℕ) → q < label + 1 → get_or (slice_set below label count) q 0 ≡ length (members_from 0 (take q flags))
rank_more label flags count labels below small listed =
    below_more (λ q. get_or (slice_set below label count) q 0 ≡ length (members_from 0 (take q flags))) label
    (λ q h. let ne : q ≢ label = omega arith in rw get_or-set_other (listed.ranked q h))
    (let long = listed.long_below in let lt : label < length below = omega arith in rw get_or-set_same listed.counted)

pub listed_more : (label : ℕ) (flags : List Bool) (count : ℕ) (labels below : List ℕ) → length flags ≡ 7 → label < 7 →
    get_or flags label false ≡ true → AreListed label flags count labels below →
    AreListed (label + 1) flags (count + 1) (slice_set labels count label) (slice_set below label count)
listed_more label flags count labels below seven small member listed =
    let more : members_from 0 (take (label + 1) flags) ≡ members_from 0 (take label flags) ++ label ∷ [] =
    ap (λ n. members_from 0 (take n flags)) (add-one label) ∙ from_more 0 label flags (omega arith)
    ∙ ap (λ b. members_from 0 (take label flags) ++ cond b ((0 + label) ∷ []) []) member
    ∙ ap (λ n. members_from 0 (take label flags) ++ n ∷ []) (omega arith) in
    let few = listed.few in
    let long_labels = listed.long_labels in
    record {
      few = omega arith;
      long_labels = length-set labels count label ∙ listed.long_labels;
      long_below = length-set below label count ∙ listed.long_below;
      counted = omega (
        arith,
        listed.counted,
        ap length more,
        length-append (members_from 0 (take label flags)) (label ∷ []),
      );
      listed = take_more_set labels count label (omega arith) ∙ ap (λ ys. ys ++ label ∷ []) listed.listed ∙ sym more;
      ranked = rank_more label flags count labels below small listed;
    }

pub listed_same : (label : ℕ) (flags : List Bool) (count : ℕ) (labels below : List ℕ) → length flags ≡ 7 → label < 7 →
    get_or flags label false ≡ false → AreListed label flags count labels below →
    AreListed (label + 1) flags count labels (slice_set below label count)
listed_same label flags count labels below seven small member listed =
    let more : members_from 0 (take (label + 1) flags) ≡ members_from 0 (take label flags) =
    ap (λ n. members_from 0 (take n flags)) (add-one label) ∙ from_more 0 label flags (omega arith)
    ∙ ap (λ b. members_from 0 (take label flags) ++ cond b ((0 + label) ∷ []) []) member
    ∙ append-nil (members_from 0 (take label flags)) in
    let few = listed.few in
    record {
      few = omega arith;
      long_labels = listed.long_labels;
      long_below = length-set below label count ∙ listed.long_below;
      counted = listed.counted ∙ sym (ap length more);
      listed = listed.listed ∙ sym more;
      ranked = rank_more label flags count labels below small listed;
    }

pub listed_all : (label : ℕ) (flags : List Bool) (count : ℕ) (labels below : List ℕ) → length flags ≡ 7 → label ≡ 7 →
    AreListed label flags count labels below → AreTables flags count labels below
unfolding members
listed_all label flags count labels below seven last listed =
    let whole : take label flags ≡ flags = ap (λ n. take n flags) (last ∙ sym seven) ∙ take-length flags in
    record {
      seven = seven;
      counted = listed.counted ∙ ap (λ fs. length (members_from 0 fs)) whole;
      listed = listed.listed ∙ ap (λ fs. members_from 0 fs) whole;
      ranked = λ q h. listed.ranked q (omega arith) ∙ sym (counted_under q 0 q flags (omega arith));
    }
