use Rattle.std.proofs.Common.{ℕ, List, length, take, refl, sym, ap, ◌∙◌}
use Rattle.guards_audit.specs.Tests.{are_same_words}
use Rattle.told_cycles.specs.declared.auditor.Place.TheVariants as at
use Rattle.told_cycles.proofs.StandLemmas.{between_still, differ, out_no, out_yes, words_same}
use Rattle.told_cycles.proofs.auditor.Auditor.take_out.Goals as goal

pub returns-then-not-is_awaiting : goal.returns-then-not-is_awaiting
returns-then-not-is_awaiting c =
    λ p h. out_no c.args.mission.now p c.args.self.now (take (length c.args.mission.now.outputs) c.args.words.now) h
    (λ is told k some. differ (sym is ∙ sym c.is_awaiting.ensures ∙ c.if-not-is_awaiting.true))

pub returns-then-not-are_same_words : goal.returns-then-not-are_same_words
returns-then-not-are_same_words c =
    let M = c.args.mission.now in
    let same = c.are_same_words.ensures
    ∙ ap (λ (os : List (ℕ × ℕ)).
    are_same_words (take (length os) c.args.words.now) (take (length os) c.args.self.now.words))
    c.outputs-outputs.ensures in
    λ p h. out_no M p c.args.self.now (take (length M.outputs) c.args.words.now) h
    (λ is told k some. words_same M told c.args.self.now (take (length M.outputs) c.args.words.now)
    c.are_same_words.result k some same ∙ c.if-not-are_same_words.true)

pub returns : goal.returns
returns c =
    let M = c.args.mission.now in
    let same = c.are_same_words.ensures
    ∙ ap (λ (os : List (ℕ × ℕ)).
    are_same_words (take (length os) c.args.words.now) (take (length os) c.args.self.now.words))
    c.outputs-outputs.ensures in
    λ p h. out_yes M p c.args.self.now (record c.args.self.now { place = at.Between })
    (take (length M.outputs) c.args.words.now) h (sym c.is_awaiting.ensures ∙ c.if-not-is_awaiting.false)
    (λ told k some. (
      words_same M told c.args.self.now (take (length M.outputs) c.args.words.now) c.are_same_words.result k some same
          ∙ c.if-not-are_same_words.false,
      (refl, between_still M told c.args.self.now at.Between k),
    ))
