-- What the body of a frame means.
use Rattle.icn_frames.specs.declared.frame.Body.{Body}
use Rattle.icn_frames.specs.declared.frame.Body.TheVariants as body
use Rattle.guards_model.specs.Frames.{BodyValue, request_body, exchange_body, vote_body, sweep_body, final_body, switch_body}

abbrev pub view_body : Body → BodyValue
view_body (body.Request have) = request_body have
view_body (body.Exchange exchange) = exchange_body exchange
view_body (body.Vote words) = vote_body words
view_body (body.Sweep sweep) = sweep_body sweep
view_body (body.Final last) = final_body last
view_body (body.Switch active) = switch_body active
