-- The lists of a body in range are short.
use Rattle.std.proofs.Common.{◌≡◌, ℕ, ◌^◌, ◌<◌, true, ◌&&◌, List, length, arith}
use Rattle.std.specs.Prelude.{nat_le}
use Rattle.std.specs.List.{list_all}
use Rattle.std.proofs.lemmas.Bool.{leb-true}
use Rattle.guards_model.specs.Frames.{BodyValue, CopyValue, request_body, exchange_body, vote_body, sweep_body, final_body, switch_body, body_in_range, between, item_in_range, copies_in_range, is_channel, fits_u32}
use Rattle.guards_model.proofs.Codecs.{both}
use Rattle.icn_frames.specs.Writes.{IsShort}

few : (copies : List CopyValue) (low : ℕ) → copies_in_range low 64 copies ≡ true → length copies < 2 ^ 8
few copies low h =
    let n : nat_le (length copies) 64 ≡ true =
    (both (nat_le low (length copies)) _ (both (between low 64 (length copies)) _ h).0).1 in
    omega (arith, leb-true (length copies) 64 n)

pub body_is_short : (version sender : ℕ) (b : BodyValue) → body_in_range version sender b ≡ true → IsShort b
body_is_short version sender (request_body have) h = tt
body_is_short version sender (exchange_body x) h =
    let parts = both (between 1 3 x.round) _ h in
    let items = both (nat_le (length x.items) 30) _
    (both (nat_le (length x.items) 30 && list_all (item_in_range sender x.round) x.items) _ parts.1).0 in
    omega (arith, leb-true (length x.items) 30 items.0)
body_is_short version sender (vote_body words) h = tt
body_is_short version sender (sweep_body s) h =
    few s.copies 1 (both (copies_in_range 1 64 s.copies) _
    (both (fits_u32 s.start) _ (both (is_channel s.target) _ h).1).1).0
body_is_short version sender (final_body f) h =
    few f.copies 0 (both (copies_in_range 0 64 f.copies) _
    (both (copies_in_range 0 64 f.copies && _) _
    (both (fits_u32 f.start) _ (both (is_channel f.target) _ h).1).1).0).0
body_is_short version sender (switch_body active) h = tt
