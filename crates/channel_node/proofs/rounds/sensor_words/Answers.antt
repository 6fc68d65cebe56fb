use Rattle.std.proofs.Common.{sym, subst, ap, ◌∙◌, take, ℤ, List}
use Rattle.guards_base.specs.Padding.{IsPadded}
use Rattle.channel_node.proofs.Sensors.{ArePadded, padded_sensor}
use Rattle.channel_node.proofs.rounds.sensor_words.Goals as goal

pub returns-clause-padded : goal.returns-clause-padded
returns-clause-padded c =
    let p : ArePadded c.args.mission.now c.args.me c.args.cycle
    = padded_sensor c.args.mission.now c.args.me c.args.cycle c.prove_mission.ensures c.requires
    c.prove_sizes.ensures.wide c.prove_sizes.ensures.narrow in
    subst (λ (ws : List ℤ). IsPadded 4 c.args.mission.now.width ws) (sym c.sensor.ensures) p.padded_are

pub returns-clause-used : goal.returns-clause-used
returns-clause-used c =
    let p : ArePadded c.args.mission.now c.args.me c.args.cycle
    = padded_sensor c.args.mission.now c.args.me c.args.cycle c.prove_mission.ensures c.requires
    c.prove_sizes.ensures.wide c.prove_sizes.ensures.narrow in
    ap (take c.args.mission.now.width) c.sensor.ensures ∙ p.used
