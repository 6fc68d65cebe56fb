use Rattle.std.proofs.Common.{◌<◌, [], ◌∷◌, sym, ap, subst, ◌∙◌, arith}
use Rattle.guards_model.specs.Channels.{ChannelSet, union}
use Rattle.guards_audit.specs.Consistency as place
use Rattle.guards_audit.specs.Told.{with_steps}
use Rattle.told_cycles.specs.Standing.{StandsAt}
use Rattle.told_cycles.proofs.StandLemmas.{amid_is, differ, steps_no, steps_yes}
use Rattle.told_cycles.proofs.ChannelLemmas.{steps_stand}
use Rattle.told_cycles.proofs.auditor.Auditor.take_steps.Goals as goal

pub returns-then-not-is_amid : goal.returns-then-not-is_amid
returns-then-not-is_amid c =
    λ p h. steps_no c.args.mission.now p c.args.self.now c.args.trace.now h
    (λ is told r k. differ (sym is ∙ sym c.is_amid.ensures ∙ c.if-not-is_amid.true))

pub returns-then-not-steps_fit : goal.returns-then-not-steps_fit
returns-then-not-steps_fit c =
    λ p h. steps_no c.args.mission.now p c.args.self.now c.args.trace.now h
    (λ is told r k. sym (c.steps_fit.ensures told r k) ∙ c.if-not-steps_fit.true)

pub returns : goal.returns
returns c =
    let M = c.args.mission.now in
    let old = c.args.self.now in
    let amid = sym c.is_amid.ensures ∙ c.if-not-is_amid.false in
    let low : c.args.trace.now.channel < 7 = omega arith in
    λ p h. steps_yes M p old (record old { part = record old.part { traced = c.with-self.result } }) c.args.trace.now h
    amid
    (λ told r k. (
      sym (c.steps_fit.ensures told r k) ∙ c.if-not-steps_fit.false,
      subst (λ (s : ChannelSet).
          StandsAt M (place.amid told (with_steps r c.args.trace.now))
          (record old { part = record old.part { traced = s } }))
          (sym (c.with-self.ensures ∙ ap (λ q. union old.part.traced (q ∷ [])) c.worker_of-chan.ensures))
          (steps_stand M told r old c.args.trace.now k (amid_is old.place amid) low),
    ))
