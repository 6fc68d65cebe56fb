use Rattle.std.proofs.Common.{◌==◌, ◌&&◌, refl, sym, ap, ◌∙◌}
use Rattle.told_cycles.specs.declared.auditor.Place.TheVariants as at
use Rattle.told_cycles.proofs.StandLemmas.{differ, done_no, done_yes}
use Rattle.told_cycles.proofs.auditor.Auditor.take_done.Goals as goal

pub returns-then-not-is_between : goal.returns-then-not-is_between
returns-then-not-is_between c =
    λ p h. done_no c.args.mission.now p c.args.self.now c.args.cycles h
    (λ is told k. differ (sym is ∙ sym c.is_between.ensures ∙ c.if-not-is_between.true))

pub returns-then-not-are_all_done : goal.returns-then-not-are_all_done
returns-then-not-are_all_done c =
    λ p h. done_no c.args.mission.now p c.args.self.now c.args.cycles h
    (λ is told k. ap (λ n. n == c.args.mission.now.cycles && c.args.cycles == c.args.mission.now.cycles)
    (sym k.knows.done) ∙ sym c.are_all_done.ensures ∙ c.if-not-are_all_done.true)

pub returns : goal.returns
returns c =
    λ p h. done_yes c.args.mission.now p c.args.self.now (record c.args.self.now { place = at.Over }) c.args.cycles h
    (sym c.is_between.ensures ∙ c.if-not-is_between.false)
    (λ told k. ap (λ n. n == c.args.mission.now.cycles && c.args.cycles == c.args.mission.now.cycles) (sym k.knows.done)
    ∙ sym c.are_all_done.ensures ∙ c.if-not-are_all_done.false) refl
