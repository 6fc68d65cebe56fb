-- A context keeps its number of blocks.
use Rattle.std.proofs.Common.{◌≡◌, ℕ, zero, suc, ℤ, List, [], ◌∷◌, length, Option, Some, None, refl, ◌∙◌, Bool, true, false, cond}
use Rattle.std.specs.Prelude.{slice_get}
use Rattle.std.proofs.lemmas.List.{length-set}
use Rattle.guards_model.specs.Contexts.{ContextValue}
use Rattle.guards_model.specs.Missions.{MissionValue, cycle_writes}
use Rattle.guards_model.specs.Tasks.{WriteValue, written_if, apply, whole}
use Rattle.guards_model.specs.Texts.{RecordValue}
use Rattle.guards_audit.specs.Lines.{is_empty}
use Rattle.guards_audit.specs.Told.{Told, next_cycle_number, first_line, context_told}
use Rattle.told_cycles.specs.Standing.{context_amid}

written_length : (w : Option WriteValue) (ctx : ContextValue) (inputs : List ℤ) (c : ℕ) →
    length (written_if w ctx inputs c) ≡ length ctx
written_length None ctx inputs c = refl
written_length (Some w) ctx inputs c = length-set ctx w.block _

pub apply_length : (row : List WriteValue) (ctx : ContextValue) (c : ℕ) (inputs : List ℤ) (k : ℕ) →
    length (apply row ctx c inputs k) ≡ length ctx
apply_length row ctx c inputs zero = refl
apply_length row ctx c inputs (suc k) =
    written_length (slice_get row k) (apply row ctx c inputs k) inputs c ∙ apply_length row ctx c inputs k

told_length : (M : MissionValue) (told : Told) → length (context_told M told) ≡ length M.initial
told_length M [] = refl
told_length M (r ∷ told) =
    apply_length (cycle_writes M (next_cycle_number told)) (context_told M told) (next_cycle_number told)
    (first_line r).inputs (length (cycle_writes M (next_cycle_number told))) ∙ told_length M told

amid_by : (M : MissionValue) (told : Told) (r : RecordValue) (none : Bool) →
    length (cond none (context_told M told)
    (whole (cycle_writes M (next_cycle_number told)) (context_told M told) (next_cycle_number told)
    (first_line r).inputs)) ≡ length M.initial
amid_by M told r true = told_length M told
amid_by M told r false =
    apply_length (cycle_writes M (next_cycle_number told)) (context_told M told) (next_cycle_number told)
    (first_line r).inputs (length (cycle_writes M (next_cycle_number told))) ∙ told_length M told

pub amid_length : (M : MissionValue) (told : Told) (r : RecordValue) → length (context_amid M told r) ≡ length M.initial
amid_length M told r = amid_by M told r (is_empty r.lines)
