use Rattle.std.proofs.Common.{◌≡◌, ◌∙◌, ◌+◌, ◌∷◌, ◌++◌, [], List, ℕ, ap, drop, filter, rules, refl, subst, sym, take, arith}
use Rattle.std.proofs.lemmas.List.{take_more}
use Rattle.std.proofs.lemmas.Result.{err_from_is_err_and}
use Rattle.guards_model.specs.Channels.{has}
use Rattle.guards_nodes.specs.NodeFrames.{framed}
use Rattle.guards_world.specs.NodeLists.{AllReceived, StandsForReceived}
use Rattle.guards_world.specs.OwedFrames.{body_of}
use Rattle.guards_world.specs.SlotSends.{SendValue, MaySend, SendsSlot, SendsFirstOfSlot, sends_by, sends_of}
use Rattle.world_traffic.proofs.Growing.{sends_none, on_same, sent_on, some_on, some_first}
use Rattle.world_traffic.proofs.NodeSends.{target_sent, other_passed, with_later_targets}
use Rattle.world_traffic.proofs.sending.send_targets.Goals.{then-has+in_ok-send_owed, else-has}
use Rattle.world_traffic.proofs.sending.send_targets.Goals as goal

pub loop-target-init : goal.loop-target-init
loop-target-init g c = record {
  script = refl;
  sent = λ received stands. sends_none g.B.Bus.may (g.B.Bus.seen c.args.bus.now).script
      (g.B.Bus.seen c.args.bus.now).log c.args.traffic.now;
}

pub send_owed-requires : goal.send_owed-requires
send_owed-requires g c =
    let held = c.requires in
    let M = c.args.mission.now in
    let node = c.args.node.now in
    let before = c.args.traffic.now in
    let between = c.loop-target.traffic in
    let ready : (received : AllReceived) × StandsForReceived received node
    × MaySend M between.cycle between.slot received node = (
      held.0,
      held.1,
      on_same g.B.Bus.may (g.B.Bus.seen c.args.bus.now).script (g.B.Bus.seen c.args.bus.now).log
          (g.B.Bus.seen c.loop-target.bus).log
          (sends_of M before.cycle before.slot
          (filter (has c.args.targets) (take c.loop-target.target-index c.args.channels.now))
          (held.0 node.channel) node) before between
          (λ cycle slot. MaySend M cycle slot held.0 node) (c.loop-target.invariant.sent held.0 held.1) held.2,
    ) in
    search (rules, ready)

pub loop-target-preserved : goal.loop-target-preserved
loop-target-preserved g c =
    let M = c.args.mission.now in
    let node = c.args.node.now in
    let channels = c.args.channels.now in
    let i = c.loop-target.target-index in
    let target = c.target-item.result in
    let earlier = take i channels in
    let before = c.args.traffic.now in
    let script = (g.B.Bus.seen c.args.bus.now).script in
    let log = (g.B.Bus.seen c.args.bus.now).log in
    let mid = g.B.Bus.seen c.loop-target.bus in
    let more : earlier ++ target ∷ [] ≡ take (i + 1) channels =
    ap (λ (t : ℕ). earlier ++ t ∷ []) c.target-item.is ∙ sym (take_more channels i target (omega arith)) in
    elim c.if-has.branch [
      | then-has+in_ok-send_owed w ↦
          rw (w.traffic-is, w.bus-is) (record {
            script = w.send_owed.ensures.script ∙ c.loop-target.invariant.script;
            sent = λ received stands.
                let mine = received node.channel in
                subst (λ (sends : List SendValue).
                SendsSlot g.B.Bus.may script log (g.B.Bus.seen w.send_owed.new.bus).log sends before
                w.send_owed.new.traffic)
                (target_sent M before.cycle before.slot mine node c.args.targets w.set_of_one.result earlier target
                (sym c.has.ensures ∙ w.if-has.true) w.set_of_one.ensures
                ∙ ap (λ (ts : List ℕ). sends_of M before.cycle before.slot (filter (has c.args.targets) ts) mine node)
                more)
                (sent_on g.B.Bus.may script mid.script log mid.log (g.B.Bus.seen w.send_owed.new.bus).log
                (sends_of M before.cycle before.slot (filter (has c.args.targets) earlier) mine node)
                (λ cycle slot. sends_by cycle slot w.set_of_one.result
                (framed node cycle (body_of M mine slot target node.state)))
                before c.loop-target.traffic w.send_owed.new.traffic c.loop-target.invariant.script
                (c.loop-target.invariant.sent received stands) (w.in_ok-send_owed.ensures.sent received stands));
          })
      | else-has w ↦
          rw (w.traffic-is, w.bus-is) (record {
            script = c.loop-target.invariant.script;
            sent = λ received stands.
                let mine = received node.channel in
                subst (λ (sends : List SendValue).
                SendsSlot g.B.Bus.may script log mid.log sends before c.loop-target.traffic)
                (other_passed M before.cycle before.slot mine node c.args.targets earlier target
                (sym c.has.ensures ∙ w.if-has.false)
                ∙ ap (λ (ts : List ℕ). sends_of M before.cycle before.slot (filter (has c.args.targets) ts) mine node)
                more)
                (c.loop-target.invariant.sent received stands);
          })
    ]

pub returns-in_err-send_owed-clause-some : goal.returns-in_err-send_owed-clause-some
returns-in_err-send_owed-clause-some g c =
    let p = err_from_is_err_and c.from_residual.result c.from_residual.ensures.1 in
    let M = c.args.mission.now in
    let node = c.args.node.now in
    let channels = c.args.channels.now in
    let i = c.loop-target.target-index in
    let target = c.target-item.result in
    let before = c.args.traffic.now in
    let script = (g.B.Bus.seen c.args.bus.now).script in
    let log = (g.B.Bus.seen c.args.bus.now).log in
    let mid = g.B.Bus.seen c.loop-target.bus in
    let new = (g.B.Bus.seen c.send_owed.new.bus).log in
    rw p.1 (λ received stands.
    let mine = received node.channel in
    let earlier = sends_of M before.cycle before.slot (filter (has c.args.targets) (take i channels)) mine node in
    let here = sends_by before.cycle before.slot c.set_of_one.result
    (framed node before.cycle (body_of M mine before.slot target node.state)) in
    subst (λ (sends : List SendValue).
    SendsFirstOfSlot g.B.Bus.may script log new sends before c.send_owed.new.traffic)
    (with_later_targets M before.cycle before.slot mine node c.args.targets c.set_of_one.result channels i target
    (omega arith) c.target-item.is (sym c.has.ensures ∙ c.if-has.true) c.set_of_one.ensures)
    (some_first g.B.Bus.may script log new (earlier ++ here)
    (sends_of M before.cycle before.slot (filter (has c.args.targets) (drop (i + 1) channels)) mine node) before
    c.send_owed.new.traffic
    (some_on g.B.Bus.may script mid.script log mid.log new earlier
    (λ cycle slot. sends_by cycle slot c.set_of_one.result
    (framed node cycle (body_of M mine slot target node.state)))
    before c.loop-target.traffic c.send_owed.new.traffic c.loop-target.invariant.script
    (c.loop-target.invariant.sent received stands) (c.in_err-send_owed.ensures.some received stands))))
