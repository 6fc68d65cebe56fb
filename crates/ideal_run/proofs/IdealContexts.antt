-- The context of the ideal machine, and the words that its tasks read.
use Rattle.std.proofs.Common.{◌≡◌, ◌+◌, ℕ, zero, suc, ℤ, add-one, List, length, Option, Some, None, refl, ◌∙◌}
use Rattle.std.specs.Prelude.{slice_get}
use Rattle.std.proofs.lemmas.List.{length-set}
use Rattle.guards_model.specs.Contexts.{ContextValue}
use Rattle.guards_model.specs.Missions.{MissionValue, cycle_writes}
use Rattle.guards_model.specs.Tasks.{WriteValue, written_if, apply, whole}
use Rattle.guards_runs.specs.IdealMachine.{ideal, ideal_inputs}

written_length : (w : Option WriteValue) (ctx : ContextValue) (inputs : List ℤ) (c : ℕ) →
    length (written_if w ctx inputs c) ≡ length ctx
written_length None ctx inputs c = refl
written_length (Some w) ctx inputs c = length-set ctx w.block _

-- a context keeps its number of blocks
pub apply_length : (row : List WriteValue) (ctx : ContextValue) (c : ℕ) (inputs : List ℤ) (k : ℕ) →
    length (apply row ctx c inputs k) ≡ length ctx
apply_length row ctx c inputs zero = refl
apply_length row ctx c inputs (suc k) =
    written_length (slice_get row k) (apply row ctx c inputs k) inputs c ∙ apply_length row ctx c inputs k

pub ideal_length : (M : MissionValue) (c : ℕ) → length (ideal M c) ≡ length M.initial
ideal_length M zero = refl
ideal_length M (suc c) = apply_length (cycle_writes M c) (ideal M c) c (ideal_inputs M c) (length (cycle_writes M c))
    ∙ ideal_length M c

pub ideal_next : (M : MissionValue) (c : ℕ) →
    ideal M (c + 1) ≡ whole (cycle_writes M c) (ideal M c) c (ideal_inputs M c)
ideal_next M c = rw add-one refl
