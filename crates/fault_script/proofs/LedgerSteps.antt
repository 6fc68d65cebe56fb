-- A step of the ledger: the mode of each channel, and the marks of those that are up.
use Rattle.std.proofs.Common.{◌≡◌, ℕ, ◌<◌, Bool, ◌&&◌, List, ap, ◌∙◌}
use Rattle.std.specs.Prelude.{◌||◌}
use Rattle.guards_model.specs.Channels.{Channel, ChannelSet, has, by_channel, channels_where, place_or}
use Rattle.guards_model.specs.Modes.{ModeValue, down, is_up}
use Rattle.guards_model.specs.Ledgers.{LedgerValue, with_modes}
use Rattle.guards_model.proofs.Tables.{at-by_channel}
use Rattle.guards_base.proofs.EachChannel.{sets_alike}

-- the ledger after a step: each mode changed, and the marks of the channels that are up
pub stepped : (wait : ℕ) (old after : List ModeValue) (damaged marks gets : ChannelSet) (mode : Channel → ModeValue)
    (marked : Channel → Bool)
    → after ≡ by_channel mode → ((q : Channel) → q < 7 → has gets q ≡ marked q)
    → marks ≡ channels_where (λ q. is_up (place_or after q down) && (has gets q || has damaged q))
    → ◌≡◌ {A = LedgerValue} (record { return_after = wait; modes = after; damaged = marks })
    (with_modes (record { return_after = wait; modes = old; damaged = damaged }) mode marked)
stepped wait old after damaged marks gets mode marked made got are =
    let value : List ModeValue → ChannelSet →
    LedgerValue = λ table set. record { return_after = wait; modes = table; damaged = set } in
    let at : (q : Channel) → q < 7 →
    (is_up (place_or after q down) && (has gets q || has damaged q))
    ≡ (is_up (mode q) && (marked q || has damaged q)) =
    λ q low.
    ap (λ m. is_up m && (has gets q || has damaged q))
    (ap (λ table. place_or table q down) made ∙ at-by_channel mode q down low)
    ∙ ap (λ b. is_up (mode q) && (b || has damaged q)) (got q low) in
    let marks_are : marks ≡ channels_where (λ q. is_up (mode q) && (marked q || has damaged q)) =
    are ∙ sets_alike (λ q. is_up (place_or after q down) && (has gets q || has damaged q))
    (λ q. is_up (mode q) && (marked q || has damaged q)) at in
    ap (λ table. value table marks) made ∙ ap (value (by_channel mode)) marks_are
