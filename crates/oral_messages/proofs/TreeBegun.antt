-- What a tree holds before anything was received: the own word for its own path, and nothing else.
use Rattle.std.proofs.Common.{◌≡◌, ℕ, suc, ◌+◌, ◌-◌, ◌*◌, ◌<◌, ◌≤◌, ◌==◌, Bool, true, false, cond, not, ◌||◌, List, [], ◌∷◌, ◌++◌, length, Option, Some, None, refl, sym, ap, ◌∙◌, arith, eq-eqb}
use Rattle.std.specs.Prelude.{map, reverse, slice_set, replicate}
use Rattle.std.specs.List.{list_all}
use Rattle.std.proofs.lemmas.Bool.{eqb-true}
use Rattle.std.proofs.lemmas.List.{replicate-append-replicate}
use Rattle.guards_model.specs.Channels.{Channel, ChannelSet, has}
use Rattle.guards_model.specs.Frames.{SourceValue, is_set, is_distinct}
use Rattle.guards_model.specs.OralMessages.{PathValue, held_value, word_for, paths}
use Rattle.oral_messages.specs.Ranks.{is_path, rank}
use Rattle.guards_model.proofs.BoolTests.{both}
use Rattle.oral_messages.specs.Trees.{TreeValue, nothing, Holds, tree_level}
use Rattle.oral_messages.proofs.RankLaws.{path_at}
use Rattle.oral_messages.proofs.Levels.{source_path}
use Rattle.oral_messages.proofs.Formulas.{AreSized, sizes}
use Rattle.oral_messages.proofs.OneItemMore.{same_all, set_one, listed_path, rank_at}

pub replicate_more : {A : Type 0} (n : ℕ) (a : A) → replicate n a ++ a ∷ [] ≡ replicate (n + 1) a
replicate_more n a = replicate-append-replicate n 1 a

all_none : (ys : List PathValue) →
    map (λ y. let none : Option SourceValue = None in none) ys ≡ replicate (length ys) None
all_none [] = refl
all_none (y ∷ ys) = ap (λ xs. None ∷ xs) (all_none ys)

not_true : (b : Bool) → not b ≡ true → b ≡ false
not_true true h = absurd cc
not_true false h = refl

first_no : (a b : Bool) → (a || b) ≡ false → a ≡ false
first_no true b h = absurd cc
first_no false b h = refl

module _ (active : ChannelSet) (width : ℕ) (me : Channel) (own : SourceValue) where
  abbrev S : PathValue → Option SourceValue
  S y = held_value active width me own nothing y

  other_end : (j : Channel) (x : PathValue) (b : Bool) → (j == me) ≡ b → b ≡ false →
      cond b (S x) (word_for width (reverse x) []) ≡ None
  other_end j x true e h = absurd cc
  other_end j x false e h = refl

  by_end : (j : Channel) (x : PathValue) (b : Bool) → (j == me) ≡ b → is_path active (j ∷ x) ≡ true →
      (j ∷ x ≡ me ∷ [] → ⊥) → cond b (S x) (word_for width (reverse x) []) ≡ None
  unfolding is_distinct
  by_end j x false e path ne = refl
  by_end j [] true e path ne = absurd (ne (ap (λ k. k ∷ []) (eqb-true j me e)))
  by_end j (i ∷ x) true e path ne =
      other_end i x (i == me) refl (ap (λ k. i == k) (sym (eqb-true j me e)) ∙ first_no (i == j) (has x j) fresh)
    where
      fresh : ((i == j) || has x j) ≡ false
      fresh = not_true ((i == j) || has x j)
          (both (not ((i == j) || has x j)) (is_distinct (i ∷ x))
          (both (is_distinct (j ∷ i ∷ x)) (list_all (has active) (j ∷ i ∷ x)) path).0).0

  none_yet : (y : PathValue) → is_path active y ≡ true → (0 < length y) → (y ≡ me ∷ [] → ⊥) → S y ≡ None
  none_yet [] path some ne = absurd (omega (arith, some))
  none_yet (j ∷ x) path some ne = by_end j x (j == me) refl path ne

  own_yet : S (me ∷ []) ≡ Some own
  own_yet = ap (λ b. cond b (Some own) (word_for width [] [])) (eq-eqb me me refl)

  pub first_yet : is_set active ≡ true → has active me ≡ true →
      map S (paths active 1) ≡ slice_set (replicate (length active) None) (rank active (me ∷ [])) (Some own)
  first_yet set mine =
      let sized : AreSized active = sizes active set in
      set_one (λ y. None) S (paths active 1) (rank active (me ∷ [])) (me ∷ []) (Some own)
      (path_at active (me ∷ []) set (source_path active me mine) (omega arith)) own_yet
      (λ q y at ne.
      let fit = listed_path active 0 q y set (omega arith) at in
      none_yet y fit.0 (omega (arith, fit.1))
      (λ e. ne (sym (rank_at active 0 q y set (omega arith) at) ∙ ap (rank active) e)))
      ∙ ap (λ xs. slice_set xs (rank active (me ∷ [])) (Some own))
      (all_none (paths active 1) ∙ ap (λ n. replicate n None) sized.first)

  pub later_yet : (k : ℕ) → is_set active ≡ true → 1 ≤ k → k ≤ 2 →
      map S (paths active (suc k)) ≡ replicate (length (paths active (suc k))) None
  later_yet k set low small =
      same_all (λ y. None) S (paths active (suc k))
      (λ q y at.
      let fit = listed_path active k q y set small at in
      none_yet y fit.0 (omega (arith, fit.1)) (λ e. let l : length y ≡ 1 = ap length e in omega (arith, fit.1, l, low)))
      ∙ all_none (paths active (suc k))

pub begins : (t : TreeValue) (ones twos threes : ℕ) → is_set t.members ≡ true → has t.members t.me ≡ true →
    ones ≡ length t.members → (4 ≤ length t.members → twos ≡ length t.members * (length t.members - 1)) →
    (7 ≤ length t.members → threes ≡ 210) →
    t.first ≡ slice_set (replicate ones None) (rank t.members (t.me ∷ [])) (Some t.own) →
    (4 ≤ length t.members → t.second ≡ replicate twos None) → (7 ≤ length t.members → t.third ≡ replicate threes None) →
    Holds t nothing
unfolding tree_level
begins t ones twos threes set mine one two three first second third =
    let sized : AreSized t.members = sizes t.members set in
    record {
      first = first ∙ ap (λ n. slice_set (replicate n None) (rank t.members (t.me ∷ [])) (Some t.own)) one
          ∙ sym (first_yet t.members t.width t.me t.own set mine);
      second = λ many. second many ∙ ap (λ n. replicate n None) (two many ∙ sym sized.second)
          ∙ sym (later_yet t.members t.width t.me t.own 1 set (omega arith) (omega arith));
      third = λ many.
          let seven : length t.members ≡ 7 = let few = sized.seven in omega arith in
          third many ∙ ap (λ n. replicate n None)
          (three many ∙ sym (sized.third ∙ ap (λ n. n * (n - 1) * (n - 2)) seven))
          ∙ sym (later_yet t.members t.width t.me t.own 2 set (omega arith) (omega arith));
    }
