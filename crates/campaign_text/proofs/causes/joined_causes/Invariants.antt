use Rattle.std.proofs.Common.{◌≡◌, map, take, string_bytes}
use Rattle.std.specs.List.{join_with_byte}
use Rattle.guards_model.specs.Channels.{place_or}
use Rattle.campaign_text.specs.Rows.{cause_text}
use Rattle.campaign_text.proofs.causes.joined_causes.Given as goal

abbrev pub invariant-loop-place : goal.invariant-loop-place
invariant-loop-place l = string_bytes l.text ≡ join_with_byte 43 (map (λ q. cause_text l.script (place_or l.firsts q 0) l.cycle q) (take l.place l.channels))
