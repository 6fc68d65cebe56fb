-- The assignments of a whole table.
use Rattle.std.proofs.Common.{◌≡◌, ◌<◌, ◌∙◌, ℕ, suc, ◌+◌, ◌&&◌, ◌||◌, Bool, true, false, List, ap, arith}
use Rattle.std.specs.Prelude.{nat_lt, replicate}
use Rattle.std.specs.List.{list_all, list_any}
use Rattle.std.proofs.lemmas.Bool.{ltb-true}
use Rattle.context_blocks.specs.BlockSets.{flag_at}
use Rattle.table_flow.specs.Flow.{Assignment, depends_within, feeds, names_word}
use Rattle.table_flow.proofs.Flows.{any_guarded, every_flag}

-- where every word is kept, each assignment counts
pub of_all : (p : Assignment → Bool) (list : List Assignment) →
    list_all (λ (a : Assignment). nat_lt a.word 2048) list ≡ true →
    list_any (λ (a : Assignment). flag_at (replicate 2048 true) a.word && p a) list ≡ list_any p list
of_all p list low =
    any_guarded (λ (a : Assignment). nat_lt a.word 2048)
    (λ (a : Assignment). flag_at (replicate 2048 true) a.word && p a) p list low
    (λ a h. ap (λ t. t && p a) (every_flag 2048 a.word (below a.word h)))
  where
    below : (n : ℕ) → nat_lt n 2048 ≡ true → n < 2048
    below n h = ltb-true n 2048 h

-- what is fed by sets that are alike on the words of the assignments
pub feeds_alike : (kept passes : ℕ → Bool) (list : List Assignment) (w words : ℕ) →
    list_all (λ (a : Assignment). nat_lt a.word words) list ≡ true →
    ((v : ℕ) → v < words → kept v ≡ passes v) → feeds list kept w ≡ feeds list passes w
feeds_alike kept passes list w words low same =
    any_guarded (λ (a : Assignment). nat_lt a.word words) (λ (a : Assignment). kept a.word && names_word a.value w)
    (λ (a : Assignment). passes a.word && names_word a.value w) list low
    (λ a h. ap (λ t. t && names_word a.value w) (same a.word (ltb-true a.word words h)))

-- one step more
pub one_further : (list : List Assignment) (outputs : List (ℕ × ℕ)) (n w : ℕ) →
    (depends_within list outputs n w || feeds list (depends_within list outputs n) w)
    ≡ depends_within list outputs (n + 1) w
one_further list outputs n w = ap (λ m. depends_within list outputs m w) next
  where
    next : suc n ≡ n + 1
    next = omega arith

pub from_nothing : (old x y : Bool) → old ≡ false → x ≡ y → (old || x) ≡ y
from_nothing old x y none same = ap (λ f. f || x) none ∙ same
