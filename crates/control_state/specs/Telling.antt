-- What the agreed words tell.
use Rattle.std.specs.Prelude.{ℕ, Bool, false, Option, None, Some}
use Rattle.guards_model.specs.Channels.{ChannelSet, has}
use Rattle.guards_model.specs.Frames.{SourceValue}
use Rattle.guards_model.specs.Diagnosis.{Agreed, enough_tell}

-- a word that is not there tells nothing
abbrev pub tells_if : (SourceValue → Bool) → Option SourceValue → Bool
tells_if tells None = false
tells_if tells (Some word) = tells word

-- more agreed words accuse a channel than disturbed channels are tolerated
unfoldable pub is_accused : ChannelSet → Agreed → ℕ → Bool
is_accused active agreed q = enough_tell active agreed (λ w. has w.accuse q)
