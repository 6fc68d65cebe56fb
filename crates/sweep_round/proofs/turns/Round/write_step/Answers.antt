use Rattle.std.proofs.Common.{◌≡◌, ◌∙◌, refl, sym, ap, subst, map, ℕ, ◌+◌, ◌<◌, ◌≤◌, List, [], ◌∷◌, ◌++◌, length, rules, arith}
use Rattle.sweep_round.specs.Replay.{origin_of, actors_of, IsReplay, AreMade}
use Rattle.sweep_round.specs.Rounds.{start_origin, round_start}
use Rattle.guards_model.specs.Records.{step_number}
use Rattle.sweep_round.proofs.RoundSteps.{numbers_more, Wrote, wrote}
use Rattle.sweep_round.proofs.turns.Round.write_step.Goals as goal

pub invariant_of-self-clause-replay : goal.invariant_of-self-clause-replay
invariant_of-self-clause-replay g c =
    let r = c.args.self.now in
    let o = start_origin (round_start r) in
    let w = wrote o r.history.items r.context c.apply_write.new.ctx r.feed.producer.end.past r.writes r.copies
    c.apply_write.result r.replay r.made (omega (arith, c.if-self.false, r.due_is.0)) c.apply_write.ensures in
    subst (λ l. IsReplay o (actors_of l) c.apply_write.new.ctx r.feed.producer.end.past)
    (sym c.push_reserved.ensures.items) w.replay

pub invariant_of-self-clause-made : goal.invariant_of-self-clause-made
invariant_of-self-clause-made g c =
    let r = c.args.self.now in
    let o = start_origin (round_start r) in
    let w = wrote o r.history.items r.context c.apply_write.new.ctx r.feed.producer.end.past r.writes r.copies
    c.apply_write.result r.replay r.made (omega (arith, c.if-self.false, r.due_is.0)) c.apply_write.ensures in
    subst (λ l. AreMade o (actors_of l) (r.writes + 1) r.copies) (sym c.push_reserved.ensures.items) w.made_are

pub invariant_of-self-clause-blocks : goal.invariant_of-self-clause-blocks
invariant_of-self-clause-blocks g c =
    let r = c.args.self.now in
    let o = start_origin (round_start r) in
    let w = wrote o r.history.items r.context c.apply_write.new.ctx r.feed.producer.end.past r.writes r.copies
    c.apply_write.result r.replay r.made (omega (arith, c.if-self.false, r.due_is.0)) c.apply_write.ensures in
    (w.length_is ∙ r.blocks.0, r.blocks.1, r.blocks.2)

pub invariant_of-self-clause-numbers : goal.invariant_of-self-clause-numbers
invariant_of-self-clause-numbers g c =
    let r = c.args.self.now in
    subst (λ l. l ≡ map step_number (actors_of l)) (sym c.push_reserved.ensures.items)
    (numbers_more r.history.items 0 refl r.numbers)
