use Rattle.std.proofs.Common.{◌≡◌, ◌-◌, ◌++◌, false, None, replicate, pos, ap, subst, ◌∙◌}
use Rattle.guards_model.specs.Channels.{has, numbers_below, place_or}
use Rattle.guards_model.specs.Missions.{RulesValue}
use Rattle.guards_model.specs.Voting.{inputs_of}
use Rattle.guards_runs.specs.IdealMachine.{ideal_inputs, sensed}
use Rattle.ideal_run.proofs.Sensing.{passive_none}
use Rattle.ideal_run.proofs.machine.inputs_of.Goals as goal

pub returns : goal.returns
unfolding ideal_inputs
returns c =
    let M = c.args.mission.now in
    let members = c.below-active.ensures
    ∙ ap (λ (r : RulesValue). numbers_below r.channels) (c.behind-mission.view_is ∙ c.rules.ensures) in
    c.consolidate.ensures.inputs
    (λ q low absent. ap (λ ws. place_or ws q None) c.sensed-words.ensures
    ∙ passive_none M c.args.cycle q low (subst (λ s. has s q ≡ false) members absent))
    ∙ ap (λ ws. inputs_of c.width-width.result ws ++ replicate (4 - c.width-width.result) (pos 0))
    c.sensed-words.ensures
    ∙ ap (λ n. inputs_of n (sensed M c.args.cycle) ++ replicate (4 - n) (pos 0)) c.width-width.ensures
