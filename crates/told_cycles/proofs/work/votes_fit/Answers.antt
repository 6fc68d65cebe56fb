use Rattle.std.proofs.Common.{◌≡◌, Some, length, map, take, ap, sym, ◌∙◌, arith}
use Rattle.guards_model.specs.Missions.{output_words}
use Rattle.guards_audit.specs.Tests.{same_votes}
use Rattle.told_cycles.proofs.MovedLemmas.{wanted_long}
use Rattle.told_cycles.proofs.work.votes_fit.Goals as goal

pub cast-votes-requires : goal.cast-votes-requires
cast-votes-requires c =
    let M = c.args.mission.now in
    let long : length c.in_use.result.now ≡ length M.outputs =
    wanted_long M c.args.context.now c.in_use.result.now (c.in_use.ensures ∙ c.output_words.ensures) in
    omega (arith, c.prove_sizes.ensures.few)

pub returns : goal.returns
returns c =
    let M = c.args.mission.now in
    let words = output_words M c.args.context.now in
    let is : c.in_use.result.now ≡ words = c.in_use.ensures ∙ c.output_words.ensures in
    let long = wanted_long M c.args.context.now c.in_use.result.now is in
    let n : length c.outputs-outputs.result.now ≡ length M.outputs = ap length c.outputs-outputs.ensures in
    let cast : take (length M.outputs) c.cast-votes.result ≡ map (λ w. Some w) words =
    ap (λ k. take k c.cast-votes.result) (sym long) ∙ c.cast-votes.ensures ∙ ap (map (λ w. Some w)) is in
    c.are_same_votes.ensures
    ∙ (λ i. same_votes (take (n i) (c.line.view_is i).votes) (take (n i) c.cast-votes.result))
    ∙ ap (same_votes (take (length M.outputs) c.args.line.now.votes)) cast
