use Rattle.campaign_call.specs.Requests.{request_of}
use Rattle.campaign_call.proofs.Ends.{campaign_completes}
use Rattle.campaign_call.proofs.top.campaign.Goals as goal

pub returns-clause-completes : goal.returns-clause-completes
returns-clause-completes g c =
    let src = g.S.Source.seen c.args.src.now in
    let src' = g.S.Source.seen c.carry_out.new.src in
    let out = g.K.Sink.seen c.args.out.now in
    let out' = g.K.Sink.seen c.carry_out.new.out in
    campaign_completes (request_of c.args.words.now.items) src src' out out' c.carry_out.result c.carry_out.ensures
