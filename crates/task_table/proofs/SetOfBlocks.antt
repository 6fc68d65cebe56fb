-- The set of the blocks that some writes name.
use Rattle.std.proofs.Common.{◌≡◌, ℕ, suc, ◌+◌, ◌<◌, ◌==◌, Bool, true, false, ◌&&◌, ◌||◌, List, [], ◌∷◌, ◌++◌, length, take, get_or, refl, sym, ap, ◌∙◌, arith, eq-eqb}
use Rattle.std.specs.Prelude.{map, nat_lt}
use Rattle.std.specs.List.{list_all, list_any}
use Rattle.std.proofs.lemmas.List.{take_more, map-append}
use Rattle.std.proofs.lemmas.List.Folds.{list_any-append}
use Rattle.std.proofs.lemmas.Bool.{eqb-true, le-leb}
use Rattle.guards_model.specs.Channels.{has}
use Rattle.guards_model.specs.Tasks.{WriteValue}
use Rattle.guards_model.proofs.BoolTests.{and_true}
use Rattle.guards_model.proofs.ListTests.{all-append}
use Rattle.context_blocks.specs.BlockSets.{blocks_where}
use Rattle.context_blocks.proofs.FlagSets.{where_alike, where_has}
use Rattle.task_table.proofs.RowWrites.{blocks_in}

or_false : (a : Bool) → (a || false) ≡ a
or_false true = refl
or_false false = refl

has-append : (xs ys : List ℕ) (b : ℕ) → has (xs ++ ys) b ≡ (has xs b || has ys b)
has-append xs ys b = list_any-append (λ x. x == b) xs ys

-- no number is added
pub none_added : (test : ℕ → Bool) → blocks_where test ≡ blocks_where (λ b. test b || has [] b)
none_added test = where_alike 256 test (λ b. test b || has [] b) (λ b _. sym (or_false (test b)))

-- the numbers of a list are added to no number
pub added_to_none : (xs : List ℕ) → blocks_where (λ b. has [] b || has xs b) ≡ blocks_where (has xs)
added_to_none xs = where_alike 256 (λ b. has [] b || has xs b) (has xs) (λ b _. refl)

-- two lists of numbers are added
pub both_added : (xs ys : List ℕ) → blocks_where (λ b. has xs b || has ys b) ≡ blocks_where (has (xs ++ ys))
both_added xs ys = where_alike 256 (λ b. has xs b || has ys b) (has (xs ++ ys)) (λ b _. sym (has-append xs ys b))

eq_comm : (a b : ℕ) (r : Bool) → (a == b) ≡ r → (b == a) ≡ r
eq_comm a b true h = eq-eqb b a (sym (eqb-true a b h))
eq_comm a b false h = grind (arith, h)

turned : (w b : ℕ) (t x : Bool) → ((b == w) || (t || x)) ≡ (t || (x || ((w == b) || false)))
turned w b t x = ap (λ e. e || (t || x)) (eq_comm w b (w == b) refl) ∙ order (w == b) t x
  where
    order : (e t x : Bool) → (e || (t || x)) ≡ (t || (x || (e || false)))
    order true true x = refl
    order true false true = refl
    order true false false = refl
    order false true x = refl
    order false false true = refl
    order false false false = refl

-- one more number is added
pub one_added : (test : ℕ → Bool) (xs : List ℕ) (w : ℕ) (set : List ℕ) → set ≡ blocks_where (λ b. test b || has xs b) →
    blocks_where (λ b. b == w || has set b) ≡ blocks_where (λ b. test b || has (xs ++ w ∷ []) b)
one_added test xs w set is =
    where_alike 256 (λ b. b == w || has set b) (λ b. test b || has (xs ++ w ∷ []) b)
    (λ b low. ap (λ h. (b == w) || h) (ap (λ s. has s b) is ∙ where_has 256 (λ b. test b || has xs b) b low)
    ∙ turned w b (test b) (has xs b) ∙ ap (λ h. test b || h) (sym (has-append xs (w ∷ []) b)))

-- the blocks of one more write
pub blocks_more : (writes : List WriteValue) (at : ℕ) (write : WriteValue) → at < length writes →
    write ≡ get_or writes at write → blocks_in (take (at + 1) writes) ≡ blocks_in (take at writes) ++ write.block ∷ []
blocks_more writes at write low is =
    ap blocks_in (take_more writes at write low)
    ∙ map-append (λ (w : WriteValue). w.block) (take at writes) (get_or writes at write ∷ [])
    ∙ ap (λ (w : WriteValue). blocks_in (take at writes) ++ w.block ∷ []) (sym is)

pub low_more : (xs : List ℕ) (w : ℕ) → list_all (λ b. nat_lt b 256) xs ≡ true → w < 256 →
    list_all (λ b. nat_lt b 256) (xs ++ w ∷ []) ≡ true
low_more xs w all low = all-append (λ b. nat_lt b 256) xs (w ∷ []) all
    (and_true (nat_lt w 256) true (le-leb (suc w) 256 (omega (arith, low))) refl)
