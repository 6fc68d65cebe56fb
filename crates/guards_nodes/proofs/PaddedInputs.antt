-- Zeros past the inputs change no write and no copy.
use Rattle.std.proofs.Common.{◌≡◌, ℕ, zero, suc, List, [], ◌∷◌, ◌++◌, length, Option, None, Some, ℤ, refl, ap, ◌∙◌}
use Rattle.std.specs.Prelude.{pos, replicate, slice_get, slice_set}
use Rattle.guards_model.specs.Contexts.{BlockValue, ContextValue, block_at, word_of}
use Rattle.guards_model.specs.Expressions.{Expression, number, cycle_number, input, block_word, negative, binary, call, pick, value_of}
use Rattle.guards_model.specs.Tasks.{WriteValue, replaced, written_if, apply, whole}
use Rattle.guards_model.specs.Rounds.{copies_at, copies_of_replay, writes_before}
use Rattle.guards_model.specs.declared.Actor.{Actor}

zeros : (n k : ℕ) → word_of (replicate n (pos 0)) k ≡ pos 0
zeros zero k = refl
zeros (suc n) zero = refl
zeros (suc n) (suc k) = zeros n k

pub word_same : (inputs : List ℤ) (n k : ℕ) → word_of (inputs ++ replicate n (pos 0)) k ≡ word_of inputs k
word_same [] n k = zeros n k
word_same (w ∷ inputs) n zero = refl
word_same (w ∷ inputs) n (suc k) = word_same inputs n k

module _ (inputs : List ℤ) (n : ℕ) where
  abbrev padded : List ℤ
  padded = inputs ++ replicate n (pos 0)

  pub value_same : (e : Expression) (ctx : ContextValue) (c : ℕ) → value_of e ctx padded c ≡ value_of e ctx inputs c
  value_same (number z) ctx c = refl
  value_same cycle_number ctx c = refl
  value_same (input k) ctx c = word_same inputs n k
  value_same (block_word i j) ctx c = refl
  value_same (negative a) ctx c = rw (value_same a ctx c) refl
  value_same (binary op a b) ctx c = rw (value_same a ctx c, value_same b ctx c) refl
  value_same (call code x y z) ctx c = rw (value_same x ctx c, value_same y ctx c, value_same z ctx c) refl
  value_same (pick x y z) ctx c = rw (value_same x ctx c, value_same y ctx c, value_same z ctx c) refl

  replaced_same : (set : List (Option Expression)) (old : BlockValue) (ctx : ContextValue) (c : ℕ) →
      replaced set old ctx padded c ≡ replaced set old ctx inputs c
  replaced_same [] old ctx c = refl
  replaced_same (e ∷ set) [] ctx c = refl
  replaced_same (None ∷ set) (w ∷ old) ctx c = ap (λ ws. w ∷ ws) (replaced_same set old ctx c)
  replaced_same (Some e ∷ set) (w ∷ old) ctx c = rw (value_same e ctx c, replaced_same set old ctx c) refl

  written_same : (w : Option WriteValue) (ctx : ContextValue) (c : ℕ) →
      written_if w ctx padded c ≡ written_if w ctx inputs c
  written_same None ctx c = refl
  written_same (Some w) ctx c = ap (slice_set ctx w.block) (replaced_same w.set (block_at ctx w.block) ctx c)

  pub apply_same : (row : List WriteValue) (ctx : ContextValue) (c k : ℕ) →
      apply row ctx c padded k ≡ apply row ctx c inputs k
  apply_same row ctx c zero = refl
  apply_same row ctx c (suc k) =
      written_same (slice_get row k) (apply row ctx c padded k) c
      ∙ ap (λ after. written_if (slice_get row k) after inputs c) (apply_same row ctx c k)

  -- the context after a row
  pub whole_same : (row : List WriteValue) (ctx : ContextValue) (c : ℕ) →
      whole row ctx c padded ≡ whole row ctx c inputs
  whole_same row ctx c = apply_same row ctx c (length row)

  copies_same : (ctx : ContextValue) (row : List WriteValue) (c : ℕ) (whole_plan plan places : List ℕ) →
      copies_at (record { context = ctx; row = row; cycle = c; inputs = padded; plan = whole_plan }) plan places
      ≡ copies_at (record { context = ctx; row = row; cycle = c; inputs = inputs; plan = whole_plan }) plan places
  copies_same ctx row c whole_plan [] places = refl
  copies_same ctx row c whole_plan (b ∷ plan) [] = refl
  copies_same ctx row c whole_plan (b ∷ plan) (k ∷ places) =
      rw (apply_same row ctx c k, copies_same ctx row c whole_plan plan places) refl

  -- the copies that a history takes
  pub replay_same : (ctx : ContextValue) (row : List WriteValue) (c : ℕ) (plan : List ℕ) (history : List Actor) →
      copies_of_replay (record { context = ctx; row = row; cycle = c; inputs = padded; plan = plan }) history
      ≡ copies_of_replay (record { context = ctx; row = row; cycle = c; inputs = inputs; plan = plan }) history
  replay_same ctx row c plan history = copies_same ctx row c plan plan (writes_before history)
