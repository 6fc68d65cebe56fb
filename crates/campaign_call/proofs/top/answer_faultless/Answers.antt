use Rattle.std.proofs.Common.{subst, sym}
use Rattle.campaign_call.specs.Documents.{run_document}
use Rattle.campaign_call.specs.Outcomes.{Does}
use Rattle.campaign_call.specs.declared.request.Request.{Request}
use Rattle.campaign_call.proofs.top.answer_faultless.Goals as goal

pub returns-in-Mission : goal.returns-in-Mission
returns-in-Mission g c =
    let bytes = c.args.bytes.now in
    let M = c.args.mission.now in
    let out = g.K.Sink.seen c.args.out.now in
    let out' = g.K.Sink.seen c.put_document.new.out in
    let told = c.status_of_write.ensures (run_document bytes M c.in-Mission.rates c.in-Mission.state) out out'
    c.put_document.ensures in
    subst (λ (r : Request). Does r bytes M out out' c.status_of_write.result) (sym c.in-Mission.is) told
