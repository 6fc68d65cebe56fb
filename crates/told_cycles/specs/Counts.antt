-- The count of a channel after a judgement.
use Rattle.std.specs.Prelude.{ℕ, Bool, if◌then◌else◌}
use Rattle.guards_model.specs.declared.Law.{Law}
use Rattle.guards_model.specs.Diagnosis.{count_step}

-- 0 where the channel is passive, and a step from 0 where it is fresh
abbrev pub after : Law → ℕ → ℕ → Bool → Bool → Bool → ℕ → ℕ
after law keep decrement there fresh errant before =
    if there then count_step law keep decrement errant (if fresh then 0 else before) else 0
