use Rattle.std.proofs.Common.{[], refl, sym, ◌∙◌}
use Rattle.told_cycles.specs.declared.auditor.Place.TheVariants as at
use Rattle.told_cycles.proofs.StandLemmas.{between_still, differ, head_no, head_yes}
use Rattle.told_cycles.proofs.auditor.Auditor.take_head.Goals as goal

pub returns-then-not-is_head : goal.returns-then-not-is_head
returns-then-not-is_head c =
    λ p h. head_no c.args.mission.now p c.args.self.now c.args.channels c.args.cycles h
    (λ is. differ (sym is ∙ sym c.is_head.ensures ∙ c.if-not-is_head.true))

pub returns-then-not-is_head_of : goal.returns-then-not-is_head_of
returns-then-not-is_head_of c =
    λ p h. head_no c.args.mission.now p c.args.self.now c.args.channels c.args.cycles h
    (λ is. sym c.is_head_of.ensures ∙ c.if-not-is_head_of.true)

pub returns : goal.returns
returns c =
    λ p h. head_yes c.args.mission.now p c.args.self.now (record c.args.self.now { place = at.Between }) c.args.channels
    c.args.cycles h (sym c.is_head.ensures ∙ c.if-not-is_head.false)
    (sym c.is_head_of.ensures ∙ c.if-not-is_head_of.false)
    (λ k. (refl, between_still c.args.mission.now [] c.args.self.now at.Between k))
