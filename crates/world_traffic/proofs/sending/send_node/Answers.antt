use Rattle.std.proofs.Common.{List, sym, ap, subst, ◌∙◌}
use Rattle.std.specs.Prelude.{OnOk, OnErr}
use Rattle.slot_traffic.specs.Receiving.{receiver_numbers}
use Rattle.guards_world.specs.SlotSends.{SendValue, SendsSlot, SendsFirstOfSlot, has_targets}
use Rattle.world_traffic.proofs.Growing.{sends_none}
use Rattle.world_traffic.proofs.NodeSends.{sends_alike, all_targets, none_outside}
use Rattle.world_traffic.proofs.sending.send_node.Goals as goal

pub returns-else-has_targets-clause-sent : goal.returns-else-has_targets-clause-sent
returns-else-has_targets-clause-sent g c = λ received stands.
    let node = c.args.node.now in
    let before = c.args.traffic.now in
    subst (λ (l : List SendValue).
    OnOk c.send_owed.result (SendsSlot g.B.Bus.may (g.B.Bus.seen c.args.bus.now).script
    (g.B.Bus.seen c.args.bus.now).log (g.B.Bus.seen c.send_owed.new.bus).log l before c.send_owed.new.traffic))
    (sends_alike c.args.mission.now before.cycle before.slot (received node.channel) node (receiver_numbers c.args.to)
    c.channel.result
    (ap has_targets (sym c.slot.ensures) ∙ sym c.has_targets.ensures ∙ c.if-has_targets.false))
    (c.send_owed.ensures.sent received stands)

pub returns-else-has_targets-clause-some : goal.returns-else-has_targets-clause-some
returns-else-has_targets-clause-some g c = λ received stands.
    let node = c.args.node.now in
    let before = c.args.traffic.now in
    subst (λ (l : List SendValue).
    OnErr c.send_owed.result (SendsFirstOfSlot g.B.Bus.may (g.B.Bus.seen c.args.bus.now).script
    (g.B.Bus.seen c.args.bus.now).log (g.B.Bus.seen c.send_owed.new.bus).log l before c.send_owed.new.traffic))
    (sends_alike c.args.mission.now before.cycle before.slot (received node.channel) node (receiver_numbers c.args.to)
    c.channel.result
    (ap has_targets (sym c.slot.ensures) ∙ sym c.has_targets.ensures ∙ c.if-has_targets.false))
    (c.send_owed.ensures.some received stands)

pub returns-in-Channels-clause-sent : goal.returns-in-Channels-clause-sent
returns-in-Channels-clause-sent g c = λ received stands.
    let node = c.args.node.now in
    let before = c.args.traffic.now in
    rw (c.in-Channels.is) (subst
    (λ (l : List SendValue). OnOk c.send_targets.result (SendsSlot g.B.Bus.may (g.B.Bus.seen c.args.bus.now).script
    (g.B.Bus.seen c.args.bus.now).log (g.B.Bus.seen c.send_targets.new.bus).log l before c.send_targets.new.traffic))
    (all_targets c.args.mission.now before.cycle before.slot (received node.channel) node c.in-Channels.targets
    c.every_channel.result c.flags.ensures.members c.every_channel.ensures)
    (c.send_targets.ensures.sent received stands))

pub returns-in-Channels-clause-some : goal.returns-in-Channels-clause-some
returns-in-Channels-clause-some g c = λ received stands.
    let node = c.args.node.now in
    let before = c.args.traffic.now in
    rw (c.in-Channels.is) (subst
    (λ (l : List SendValue). OnErr c.send_targets.result
    (SendsFirstOfSlot g.B.Bus.may (g.B.Bus.seen c.args.bus.now).script
    (g.B.Bus.seen c.args.bus.now).log (g.B.Bus.seen c.send_targets.new.bus).log l before c.send_targets.new.traffic))
    (all_targets c.args.mission.now before.cycle before.slot (received node.channel) node c.in-Channels.targets
    c.every_channel.result c.flags.ensures.members c.every_channel.ensures)
    (c.send_targets.ensures.some received stands))

pub returns-in-Switchboard-clause-sent : goal.returns-in-Switchboard-clause-sent
returns-in-Switchboard-clause-sent g c = λ received stands.
    let node = c.args.node.now in
    let before = c.args.traffic.now in
    let held = c.requires in
    rw (c.in-Switchboard.is) (subst
    (λ (l : List SendValue). SendsSlot g.B.Bus.may (g.B.Bus.seen c.args.bus.now).script
    (g.B.Bus.seen c.args.bus.now).log (g.B.Bus.seen c.args.bus.now).log l before before)
    (none_outside c.args.mission.now before.cycle before.slot (received node.channel) (held.0 node.channel) node
    (ap has_targets (sym c.slot.ensures) ∙ sym c.has_targets.ensures ∙ c.if-has_targets.true) held.2.fits)
    (sends_none g.B.Bus.may (g.B.Bus.seen c.args.bus.now).script (g.B.Bus.seen c.args.bus.now).log before))
