-- The words of a list by their places.
use Rattle.std.proofs.Common.{◌≡◌, ℕ, zero, suc, ℤ, pos, List, [], ◌∷◌, Some, refl, sym, ap, ◌∙◌}
use Rattle.std.specs.Prelude.{slice_get, slice_index_or, unwrap_or}
use Rattle.guards_model.specs.Contexts.{ContextValue, BlockValue, word_of, context_word, zero_block}

pub word_is : (words : List ℤ) (k : ℕ) → slice_index_or words k (pos 0) ≡ word_of words k
word_is [] k = refl
word_is (w ∷ words) zero = refl
word_is (w ∷ words) (suc k) = word_is words k

pub word_in_block : (ctx : ContextValue) (i j : ℕ) (words : BlockValue) → slice_get ctx i ≡ Some words →
    slice_index_or words j (pos 0) ≡ context_word ctx i j
word_in_block ctx i j words is = word_is words j ∙ ap (λ block. word_of (unwrap_or block zero_block) j) (sym is)
