use Rattle.std.proofs.Common.{◌≡◌, ◌∙◌, refl, sym, ap, subst, map, ℕ, ◌+◌, ◌<◌, ◌≤◌, List, [], ◌∷◌, ◌++◌, length, rules, arith}
use Rattle.sweep_round.specs.Replay.{origin_of, actors_of, IsReplay, AreMade}
use Rattle.sweep_round.specs.Rounds.{start_origin, round_start}
use Rattle.guards_model.specs.Records.{step_number}
use Rattle.sweep_round.proofs.RoundSteps.{numbers_more, Copied, copied}
use Rattle.sweep_round.proofs.turns.Round.sweep_step.Goals as goal

pub invariant_of-self-clause-replay : goal.invariant_of-self-clause-replay
invariant_of-self-clause-replay g c =
    let r = c.args.self.now in
    let o = start_origin (round_start r) in
    let d =
    copied o r.history.items r.context r.feed.producer.end.past r.writes r.copies c.get-block.result
    c.get-words.result.words r.replay r.made
    (omega (arith, c.if-self-len.false, c.len.ensures.value)) c.get-block.ensures c.get-words.ensures in
    subst (λ l. IsReplay o (actors_of l) r.context c.put.new.self.producer.end.past) (sym c.push_reserved.ensures.items)
    (subst (λ p. IsReplay o (actors_of (r.history.items ++ 1 ∷ [])) r.context p) (sym c.put.ensures.sent) d.replay)

pub invariant_of-self-clause-made : goal.invariant_of-self-clause-made
invariant_of-self-clause-made g c =
    let r = c.args.self.now in
    let o = start_origin (round_start r) in
    let d =
    copied o r.history.items r.context r.feed.producer.end.past r.writes r.copies c.get-block.result
    c.get-words.result.words r.replay r.made
    (omega (arith, c.if-self-len.false, c.len.ensures.value)) c.get-block.ensures c.get-words.ensures in
    subst (λ l. AreMade o (actors_of l) r.writes (r.copies + 1)) (sym c.push_reserved.ensures.items) d.made_are

pub invariant_of-self-clause-numbers : goal.invariant_of-self-clause-numbers
invariant_of-self-clause-numbers g c =
    let r = c.args.self.now in
    subst (λ l. l ≡ map step_number (actors_of l)) (sym c.push_reserved.ensures.items)
    (numbers_more r.history.items 1 refl r.numbers)
