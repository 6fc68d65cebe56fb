-- The step of a count by the law that a decay names.
use Rattle.std.specs.Prelude.{ℕ, Bool}
use Rattle.guards_model.specs.declared.Law.TheVariants as law
use Rattle.guards_model.specs.Diagnosis.{count_step}
use Rattle.alpha_count.specs.declared.Decay.{Decay}
use Rattle.alpha_count.specs.declared.Decay.TheVariants.{Multiply, Subtract}

-- what a decay keeps of 65536 parts; a decay by subtraction keeps no part
abbrev pub keep_of : Decay → ℕ
keep_of (Multiply keep) = keep
keep_of (Subtract decrement) = 0

-- the count after a judgement, errant or not
abbrev pub stepped : Decay → Bool → ℕ → ℕ
stepped (Multiply keep) errant count = count_step law.Multiply keep 0 errant count
stepped (Subtract decrement) errant count = count_step law.Subtract 0 decrement errant count
