-- What the actuator takes is what counts as a vote frame.
use Rattle.std.proofs.Common.{◌≡◌, ℕ, ◌==◌, Bool, true, false, ◌&&◌, length, Option, Some, None, List, ℤ, refl}
use Rattle.std.specs.Prelude.{option_and_then, if◌then◌else◌}
use Rattle.guards_model.specs.declared.Slot.TheVariants.{Vote}
use Rattle.guards_model.specs.Channels.{Channel}
use Rattle.guards_model.specs.Missions.{FormatValue}
use Rattle.guards_model.specs.Frames.{FrameValue, BodyValue, request_body, exchange_body, vote_body, sweep_body, final_body, switch_body}
use Rattle.guards_model.specs.Network.{suits, counting, ballot_of, actuator}
use Rattle.guards_model.specs.Actuators.{of_count, ballot_counting}

by_body : (format : FormatValue) (a : Bool) (body : BodyValue) →
    (if a then option_and_then (of_count format.outputs) (ballot_of (Some body)) else None)
    ≡ ballot_of (if a && suits format Vote actuator body then Some body else None)
by_body format false body = refl
by_body format true (vote_body words) = by (length words == format.outputs)
  where
    by : (b : Bool) → (if b then Some words else None) ≡ ballot_of (if b then Some (vote_body words) else None)
    by true = refl
    by false = refl
by_body format true (request_body have) = refl
by_body format true (exchange_body x) = by (0 == x.round)
  where
    by : (b : Bool) → None ≡ ballot_of (if b then Some (exchange_body x) else None)
    by true = refl
    by false = refl
by_body format true (sweep_body s) = refl
by_body format true (final_body f) = refl
by_body format true (switch_body active) = refl

pub vote_counts : (format : FormatValue) (c : ℕ) (q : Channel) (f : FrameValue) →
    ballot_counting format.version format.outputs c q f ≡ ballot_of (counting format c Vote q actuator f)
vote_counts format c q f = by_body format (f.version == format.version && (f.sender == q && f.cycle == c)) f.body
