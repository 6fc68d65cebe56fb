-- Flags, one list of assignments after the other.
use Rattle.std.proofs.Common.{◌≡◌, ◌∙◌, ℕ, suc, ◌+◌, ◌<◌, ◌==◌, Bool, true, false, ◌&&◌, ◌||◌, List, [], ◌∷◌, ◌++◌, length, take, get_or, refl, sym, ap, subst, append_assoc, append-nil, arith}
use Rattle.std.specs.Prelude.{flat_map, nat_lt, replicate}
use Rattle.std.specs.List.{list_all, list_any}
use Rattle.std.proofs.Math.Bool.{or_assoc}
use Rattle.std.proofs.lemmas.List.{take_more, get_or-replicate}
use Rattle.std.proofs.lemmas.List.Folds.{list_any-append}
use Rattle.std.proofs.lemmas.Grind.{flat_map-append}
use Rattle.guards_model.proofs.BoolTests.{both}
use Rattle.guards_model.proofs.ListTests.{all-append}
use Rattle.context_blocks.specs.BlockSets.{flag_at}
use Rattle.table_flow.specs.declared.flow.Flow.{Flow}
use Rattle.table_flow.specs.Flow.{Assignment, FlowsInto, lists_from, names_word, names_input}

pub or_false : (a : Bool) → (a || false) ≡ a
or_false true = refl
or_false false = refl

-- three parts, one after the other
pub or_three : (o x y z : Bool) → (((o || x) || y) || z) ≡ (o || ((x || y) || z))
or_three true x y z = refl
or_three false x y z = refl

pub flows_none : (kept : ℕ → Bool) (old : Flow) → FlowsInto kept [] old old
flows_none kept old =
    record {
      words = λ w _. sym (or_false (flag_at old.words w));
      inputs = λ k _. sym (or_false (flag_at old.inputs k));
      written = λ w _. sym (or_false (flag_at old.written w));
      low = refl;
    }

both_lists : (p : Assignment → Bool) (xs ys : List Assignment) (old mid new : Bool) → mid ≡ (old || list_any p xs) →
    new ≡ (mid || list_any p ys) →
    new ≡ (old || list_any p (xs ++ ys))
both_lists p xs ys old mid new first second =
    second ∙ ap (λ f. f || list_any p ys) first ∙ or_assoc old (list_any p xs) (list_any p ys)
    ∙ ap (λ t. old || t) (sym (list_any-append p xs ys))

pub flows_both : (kept : ℕ → Bool) (xs ys : List Assignment) (old mid new : Flow) → FlowsInto kept xs old mid →
    FlowsInto kept ys mid new →
    FlowsInto kept (xs ++ ys) old new
flows_both kept xs ys old mid new first second =
    record {
      words = λ w low. both_lists (λ a. kept a.word && names_word a.value w) xs ys (flag_at old.words w)
          (flag_at mid.words w) (flag_at new.words w) (first.words w low) (second.words w low);
      inputs = λ k low. both_lists (λ a. kept a.word && names_input a.value k) xs ys (flag_at old.inputs k)
          (flag_at mid.inputs k) (flag_at new.inputs k) (first.inputs k low) (second.inputs k low);
      written = λ w low. both_lists (λ a. kept a.word && a.word == w) xs ys (flag_at old.written w)
          (flag_at mid.written w) (flag_at new.written w) (first.written w low) (second.written w low);
      low = all-append (λ a. nat_lt a.word 2048) xs ys first.low second.low;
    }

module _ {A : Type 0} (kept : ℕ → Bool) (xs : List A) (at : ℕ) (d : A) (old mid new : Flow) where
  -- one more element of a list
  pub flows_more : (f : A → List Assignment) → at < length xs → FlowsInto kept (flat_map f (take at xs)) old mid →
      FlowsInto kept (f (get_or xs at d)) mid new → FlowsInto kept (flat_map f (take (at + 1) xs)) old new
  flows_more f low first second =
      subst (λ (list : List Assignment). FlowsInto kept list old new) (sym whole)
      (flows_both kept (flat_map f (take at xs)) (f (get_or xs at d)) old mid new first second)
    where
      whole : flat_map f (take (at + 1) xs) ≡ flat_map f (take at xs) ++ f (get_or xs at d)
      whole =
          ap (flat_map f) (take_more xs at d low)
          ∙ flat_map-append f (take at xs) (get_or xs at d ∷ [])
          ∙ ap (λ (t : List Assignment). flat_map f (take at xs) ++ t) (append-nil (f (get_or xs at d)))

pub lists_from-append : {A B : Type 0} (f : ℕ → A → List B) (k : ℕ) (xs ys : List A) →
    lists_from f k (xs ++ ys) ≡ lists_from f k xs ++ lists_from f (k + length xs) ys
lists_from-append {A} {B} f k [] ys = ap (λ n. lists_from f n ys) same
  where
    same : k ≡ k + 0
    same = omega arith
lists_from-append {A} {B} f k (x ∷ xs) ys =
    ap (λ (rest : List B). f k x ++ rest)
    (lists_from-append f (k + 1) xs ys ∙ ap (λ n. lists_from f (k + 1) xs ++ lists_from f n ys) moved)
    ∙ sym (append_assoc (f k x) (lists_from f (k + 1) xs) (lists_from f (k + length (x ∷ xs)) ys))
  where
    moved : k + 1 + length xs ≡ k + suc (length xs)
    moved = omega arith

-- one more element by its place
pub flows_place : {A : Type 0} (kept : ℕ → Bool) (xs : List A) (at : ℕ) (d : A) (old mid new : Flow)
    (f : ℕ → A → List Assignment) → at < length xs →
    length (take at xs) ≡ at → FlowsInto kept (lists_from f 0 (take at xs)) old mid →
    FlowsInto kept (f at (get_or xs at d)) mid new →
    FlowsInto kept (lists_from f 0 (take (at + 1) xs)) old new
flows_place kept xs at d old mid new f low short first second =
    subst (λ (list : List Assignment). FlowsInto kept list old new) (sym whole)
    (flows_both kept (lists_from f 0 (take at xs)) (f at (get_or xs at d)) old mid new first second)
  where
    place : 0 + length (take at xs) ≡ at
    place = omega (arith, short)

    whole : lists_from f 0 (take (at + 1) xs) ≡ lists_from f 0 (take at xs) ++ f at (get_or xs at d)
    whole =
        ap (lists_from f 0) (take_more xs at d low)
        ∙ lists_from-append f 0 (take at xs) (get_or xs at d ∷ [])
        ∙ ap (λ n. lists_from f 0 (take at xs) ++ (f n (get_or xs at d) ++ [])) place
        ∙ ap (λ (t : List Assignment). lists_from f 0 (take at xs) ++ t) (append-nil (f at (get_or xs at d)))

-- tests that agree on the elements that pass a guard
pub any_guarded : {A : Type 0} (guard p q : A → Bool) (xs : List A) → list_all guard xs ≡ true →
    ((x : A) → guard x ≡ true → p x ≡ q x) → list_any p xs ≡ list_any q xs
any_guarded guard p q [] all same = refl
any_guarded guard p q (x ∷ xs) all same =
    let parts = both (guard x) (list_all guard xs) all in
    ap (λ t. t || list_any p xs) (same x parts.0) ∙ ap (λ t. q x || t) (any_guarded guard p q xs parts.1 same)

-- every flag is set
pub every_flag : (n b : ℕ) → b < n → flag_at (replicate n true) b ≡ true
every_flag n b low = get_or-replicate n b true false low
