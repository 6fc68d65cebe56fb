-- Whether a frame counts as received. This project's own.
use Rattle.std.specs.Prelude.{ℕ, Bool, ◌&&◌, ◌==◌}
use Rattle.guards_model.specs.declared.Slot.{Slot}
use Rattle.guards_model.specs.Channels.{Channel}
use Rattle.guards_model.specs.Missions.{FormatValue}
use Rattle.guards_model.specs.Frames.{FrameValue}
use Rattle.guards_model.specs.Network.{suits}

-- where this holds, `counting` gives the frame's body, and elsewhere none
abbrev pub counts : FormatValue → ℕ → Slot → Channel → ℕ → FrameValue → Bool
counts format c slot from to f =
    (f.version == format.version && (f.sender == from && f.cycle == c)) && suits format slot to f.body
