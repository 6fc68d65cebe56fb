-- The walk over the blocks of a context that gives each place its value.
use Rattle.std.proofs.Common.{◌≡◌, ℕ, zero, suc, ◌+◌, ◌-◌, ◌<◌, ◌≤◌, [], ◌∷◌, ◌++◌, length, drop, get_or, Option, Some, None, refl, sym, ap, ◌∙◌, arith, drop-cons, append-nil, length-append}
use Rattle.std.specs.Prelude.{map, slice_set, option_map, replicate, unwrap_or}
use Rattle.std.specs.List.{range_with_len}
use Rattle.std.proofs.lemmas.List.{append_assoc, length-drop}
use Rattle.std.proofs.lemmas.List.FromFn.{length-map-range_with_len, map-range_with_len_more}
use Rattle.std.proofs.lemmas.Option.{unwrap_or-slice_get}
use Rattle.std.proofs.Math.Seq.{set-append_seam}
use Rattle.guards_model.specs.Contexts.{BlockValue, ContextValue, zero_block, block_at}
use Rattle.guards_model.specs.Channels.{numbers_below}

-- the first n places have their values, and the others what they had
pub record IsFilled (f : ℕ → BlockValue) (old now : ContextValue) (n : ℕ) : Type 0 where
  pub is : now ≡ map f (range_with_len 0 n) ++ drop n old
  pub within : n ≤ length old

pub filled_none : (f : ℕ → BlockValue) (old now : ContextValue) → now ≡ old → IsFilled f old now 0
filled_none f old now e = record { is = e; within = omega arith }

front : (f : ℕ → BlockValue) (n : ℕ) → ContextValue
front f n = map f (range_with_len 0 n)

longer : (f : ℕ → BlockValue) (n : ℕ) (rest : ContextValue) → front f n ++ f n ∷ rest ≡ front f (n + 1) ++ rest
unfolding front
longer f n rest = sym (append_assoc (map f (range_with_len 0 n)) (f n ∷ []) rest)
    ∙ ap (λ xs. xs ++ rest) (sym (map-range_with_len_more f 0 n n (omega arith)))

opened : (old : ContextValue) (n : ℕ) → n < length old → drop n old ≡ get_or old n zero_block ∷ drop (n + 1) old
opened old n lt = drop-cons old n zero_block lt
    ∙ ap (λ k. get_or old n zero_block ∷ drop k old) (let one : suc n ≡ n + 1 = omega arith in one)

pub filled_length : (f : ℕ → BlockValue) (old now : ContextValue) (n : ℕ) → IsFilled f old now n →
    length now ≡ length old
filled_length f old now n h =
    let front_is : length (map f (range_with_len 0 n)) ≡ n = length-map-range_with_len f 0 n in
    let rest_is : length (drop n old) ≡ length old - n = length-drop n old in
    let within = h.within in
    ap length h.is ∙ length-append (map f (range_with_len 0 n)) (drop n old) ∙ omega (arith, front_is, rest_is, within)

pub filled_more : (f : ℕ → BlockValue) (old now new : ContextValue) (n : ℕ) (v : BlockValue) → n < length old →
    IsFilled f old now n → v ≡ f n → new ≡ slice_set now n v → IsFilled f old new (n + 1)
unfolding front
filled_more f old now new n v lt h e set =
    record {
      is = set ∙ ap (λ xs. slice_set xs n v) (h.is ∙ ap (λ xs. front f n ++ xs) (opened old n lt))
          ∙ ap (λ k. slice_set (front f n ++ get_or old n zero_block ∷ drop (n + 1) old) k v)
          (sym (length-map-range_with_len f 0 n))
          ∙ set-append_seam (front f n) (get_or old n zero_block) (drop (n + 1) old) v
          ∙ ap (λ x. front f n ++ x ∷ drop (n + 1) old) e
          ∙ longer f n (drop (n + 1) old);
      within = omega (arith, lt);
    }

pub filled_same : (f : ℕ → BlockValue) (old now new : ContextValue) (n : ℕ) → n < length old → IsFilled f old now n →
    f n ≡ block_at old n → new ≡ now → IsFilled f old new (n + 1)
unfolding front
filled_same f old now new n lt h e same =
    record {
      is = same ∙ h.is ∙ ap (λ xs. front f n ++ xs) (opened old n lt)
          ∙ ap (λ x. front f n ++ x ∷ drop (n + 1) old) (sym (unwrap_or-slice_get old n zero_block) ∙ sym e)
          ∙ longer f n (drop (n + 1) old);
      within = omega (arith, lt);
    }

drop_all : (n : ℕ) (xs : ContextValue) → n ≡ length xs → drop n xs ≡ []
drop_all zero [] e = refl
drop_all (suc n) [] e = refl
drop_all zero (x ∷ xs) e = absurd (omega (arith, e))
drop_all (suc n) (x ∷ xs) e = drop_all n xs (omega (arith, e))

pub filled_all : (f : ℕ → BlockValue) (old now : ContextValue) (n : ℕ) → n ≡ length old → IsFilled f old now n →
    now ≡ map f (numbers_below (length old))
filled_all f old now n all h =
    h.is ∙ ap (λ xs. map f (range_with_len 0 n) ++ xs) (drop_all n old all) ∙ append-nil (map f (range_with_len 0 n))
    ∙ ap (λ k. map f (range_with_len 0 k)) all

all_zero : (a n : ℕ) → map (λ k. zero_block) (range_with_len a n) ≡ replicate n zero_block
all_zero a zero = refl
all_zero a (suc n) = ap (λ xs. zero_block ∷ xs) (all_zero (a + 1) n)

pub cleared_all : (old now : ContextValue) (n : ℕ) → n ≡ length old → IsFilled (λ k. zero_block) old now n →
    now ≡ replicate (length old) zero_block
cleared_all old now n all h = filled_all (λ k. zero_block) old now n all h ∙ all_zero 0 (length old)

pub no_words : {A : Type 0} (f : A → BlockValue) (o : Option A) (d : BlockValue) → ((x : A) → o ≡ Some x → ⊥) →
    unwrap_or (option_map f o) d ≡ d
no_words f None d none = refl
no_words f (Some x) d none = absurd (none x refl)
