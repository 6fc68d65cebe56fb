use Rattle.std.proofs.Common.{◌∙◌, ap, length, arith}
use Rattle.guards_model.specs.Missions.{RulesValue}
use Rattle.campaign_draws.proofs.DrawnMissions.{sizes_fit}
use Rattle.campaign_draws.proofs.mission.sizes_of.Goals as goal

pub invariant_of-result : goal.invariant_of-result
invariant_of-result c =
    let size = c.prove_sizes.ensures in
    let fit = sizes_fit c.args.mission.now c.prove_mission.ensures in
    let seen = c.rules.view_is ∙ c.rules-rules.ensures in
    let channels = ap (λ (r : RulesValue). r.channels) seen in
    let blocks = ap (λ (r : RulesValue). r.blocks) seen in
    let version = ap (λ (r : RulesValue). r.version) seen in
    let outputs = ap length c.outputs.ensures in (
      omega (arith, channels, size.many),
      omega (arith, channels, size.seven),
      omega (arith, c.cycles.ensures, fit.cycles),
      omega (arith, blocks, fit.some),
      omega (arith, blocks, fit.blocks),
      omega (arith, outputs, size.some),
      omega (arith, outputs, size.few),
      omega (arith, version, fit.least),
      omega (arith, version, fit.most),
    )
