-- Pieces of a text.
use Rattle.std.specs.Prelude.{ℕ, ◌+◌, ◌==◌, Bool, not}
use Rattle.std.specs.List.{list_all, list_any}
use Rattle.guards_model.specs.Texts.{TextValue}

-- without the letter
abbrev pub lacks : ℕ → TextValue → Bool
lacks letter text = list_all (λ b. not (b == letter)) text

-- with the digit of a channel
abbrev pub has_digit : TextValue → ℕ → Bool
has_digit text q = list_any (λ b. b == 48 + q) text
