-- Contexts that are alike on the words on which the outputs depend, and what becomes of them. This project's own.
use Rattle.std.specs.Prelude.{◌≡◌, ℕ, zero, suc, ◌+◌, ◌<◌, ℤ, Bool, true, List}
use Rattle.guards_model.specs.Contexts.{ContextValue, context_word}
use Rattle.guards_model.specs.Missions.{MissionValue, is_context, cycle_writes}
use Rattle.guards_model.specs.Tasks.{whole}
use Rattle.table_flow.specs.Flow.{is_depended_on, word_number}

-- the words on which the mission's outputs depend
abbrev pub depended : MissionValue → ℕ → Bool
depended M = is_depended_on M.rules.blocks M.table M.outputs

-- two contexts of a mission that have the same words in the places that pass
pub record AreAlike (M : MissionValue) (a b : ContextValue) : Type 0 where
  pub left : is_context M.rules.blocks a ≡ true
  pub right : is_context M.rules.blocks b ≡ true
  pub words : (block word : ℕ) → word < 8 → depended M (word_number block word) ≡ true → context_word a block word
      ≡ context_word b block word

-- the context after n cycles from cycle c on, where these inputs are agreed on
abbrev pub worked_context : MissionValue → (ℕ → List ℤ) → ℕ → ContextValue → ℕ → ContextValue
worked_context M inputs c ctx zero = ctx
worked_context M inputs c ctx (suc n) =
    whole (cycle_writes M (c + n)) (worked_context M inputs c ctx n) (c + n) (inputs (c + n))
