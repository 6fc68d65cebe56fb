-- What is written without loss.
use Rattle.std.specs.Prelude.{⊤, ◌<◌, ◌^◌, length}
use Rattle.guards_model.specs.Frames.{BodyValue, request_body, exchange_body, vote_body, sweep_body, final_body, switch_body}

-- each list of the body has a length of one byte
abbrev pub IsShort : BodyValue → Type 0
IsShort (request_body have) = ⊤
IsShort (exchange_body x) = length x.items < 2 ^ 8
IsShort (vote_body words) = ⊤
IsShort (sweep_body s) = length s.copies < 2 ^ 8
IsShort (final_body f) = length f.copies < 2 ^ 8
IsShort (switch_body active) = ⊤
