-- What was read of the key of an actuator is within its ranges.
use Rattle.std.proofs.Common.{◌≡◌, ℕ, pos, Bool, true, ◌&&◌, ◌==◌, List, [], ◌∷◌, length, replicate, Option, Some, None, codes, refl, subst}
use Rattle.std.specs.Prelude.{int_le}
use Rattle.std.specs.List.{list_all}
use Rattle.toml.specs.Data.{Data, Members, get_member}
use Rattle.guards_model.specs.Words.{is_word}
use Rattle.guards_model.specs.Missions.{ActuatorValue, within, is_actuator}
use Rattle.guards_model.proofs.BoolTests.{both, and_true}
use Rattle.document_checks.specs.Checks as checks
use Rattle.document_checks.specs.Checks.{field, required, integer_of, table_of, only, demand, alone, how_many}
use Rattle.mission_text.specs.Actuators.{step_at, steps_at, words_or_zeros, actuator_at, actuator_or_none, actuator_field, is_step, are_steps, are_starts}
use Rattle.mission_text.proofs.ActuatorWords.{zeros_start}
use Rattle.mission_laws.specs.Integers.{holds_words, items_hold_words, members_hold_words}
use Rattle.mission_laws.proofs.CheckedWords.{Passes, passes_ok, passes_then, demanded, member_holds, required_holds, table_holds, integer_is_word, sized_holds, each_passes, each_counts, integers_are, only_count}

step_in : (path : List ℕ) (value : Data) → holds_words value ≡ true → Passes is_step (step_at path value)
unfolding step_at
step_in path value h =
    passes_then is_step (integer_of path value) _ (λ step given.
    passes_then is_step (demand (int_le (pos 0) step) _ path) _ (λ met holds.
    passes_ok is_step step (and_true (is_word step) (int_le (pos 0) step) (integer_is_word path value h step given)
    (demanded (int_le (pos 0) step) _ path met holds))))

module _ (outputs : ℕ) where
  steps_in : (path : List ℕ) (value : Data) → holds_words value ≡ true →
      Passes (are_steps outputs) (steps_at outputs path value)
  unfolding steps_at
  steps_in path value h =
      passes_then (are_steps outputs) (checks.sized outputs outputs path value) _ (λ items given steps is.
      let parts = both (within outputs outputs (how_many items)) (items_hold_words items)
      (sized_holds outputs outputs path value h items given) in
      and_true (length steps == outputs) (list_all is_step steps)
      (subst (λ n. (length steps == n) ≡ true) (only_count outputs (how_many items) parts.0)
      (each_counts (alone step_at) path items steps is))
      (each_passes (alone step_at) is_step (λ done path value h. step_in path value h) path [] items parts.1 refl steps
      is))

  start_in : (path : List ℕ) (given : Option Data) → ((value : Data) → given ≡ Some value → holds_words value ≡ true)
      → Passes (are_starts outputs) (words_or_zeros outputs path given)
  start_in path None h =
      passes_ok (are_starts outputs) (replicate outputs (pos 0)) (zeros_start outputs (replicate outputs (pos 0)) refl)
  start_in path (Some value) h = integers_are outputs path value (h value refl)

  abbrev drives : ActuatorValue → Bool
  drives a = are_steps outputs a.steps && are_starts outputs a.start

  one_in : (path : List ℕ) (value : Data) → holds_words value ≡ true → Passes drives (actuator_at outputs path value)
  unfolding actuator_at
  one_in path value h =
      passes_then drives (table_of path value) _ (λ fields given.
      let all = table_holds path value h fields given in
      passes_then drives (only (codes "step" ∷ codes "start" ∷ []) path fields) _ (λ _ _.
      passes_then drives (required path (codes "step") fields) _ (λ list a.
      passes_then drives (steps_at outputs (field path (codes "step")) list) _ (λ steps b.
      passes_then drives (words_or_zeros outputs (field path (codes "start")) (get_member (codes "start") fields)) _
      (λ start c.
      passes_ok drives (record { steps = steps; start = start })
      (and_true (are_steps outputs steps) (are_starts outputs start)
      (steps_in (field path (codes "step")) list (required_holds path (codes "step") fields all list a) steps b)
      (start_in (field path (codes "start")) (get_member (codes "start") fields)
      (λ v is. member_holds (codes "start") fields v all is) start c)))))))

  abbrev pub is_one : Option ActuatorValue → Bool
  is_one a = is_actuator outputs a

  optional_in : (path : List ℕ) (given : Option Data) → ((value : Data) → given ≡ Some value → holds_words value ≡ true)
      → Passes is_one (actuator_or_none outputs path given)
  optional_in path None h = passes_ok is_one None refl
  optional_in path (Some value) h =
      passes_then is_one (actuator_at outputs path value) _
      (λ a given. passes_ok is_one (Some a) (one_in path value (h value refl) a given))

  pub actuator_in : (fields : Members) → members_hold_words fields ≡ true →
      Passes is_one (actuator_field outputs fields)
  unfolding actuator_field
  actuator_in fields all = optional_in (codes "actuator") (get_member (codes "actuator") fields)
      (λ value is. member_holds (codes "actuator") fields value all is)
