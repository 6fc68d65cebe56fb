use Rattle.std.proofs.Common.{◌≡◌, ◌<◌, ◌≤◌, ◌∙◌, List, ℕ, length, flat_map, sym, ap, subst, arith, IfOk, string_bytes}
use Rattle.std.proofs.lemmas.List.{take_all}
use Rattle.guards_model.specs.Texts.{step_text}
use Rattle.guards_model.specs.Records.{actor_of_step}
use Rattle.report_text.proofs.ListTexts.{steps_text_none, steps_text_some, flat_map_at}
use Rattle.report_text.proofs.lines.steps_text.Goals as goal

pub returns-then-is_empty : goal.returns-then-is_empty
returns-then-is_empty c =
    subst (λ (t : List ℕ). IfOk c.from_str.result (λ text. string_bytes text ≡ t))
    (sym (steps_text_none c.args.steps.now (sym c.if-is_empty.ensures))) c.from_str.ensures.ok

pub loop-step-preserved : goal.loop-step-preserved
loop-step-preserved c =
    let below : c.loop-step.step-index < length c.args.steps.now = omega arith in
    let next = flat_map_at (λ s. step_text (actor_of_step s)) c.args.steps.now c.loop-step.step-index 0 below in
    cc (
      next,
      c.in_ok-push.ensures.bytes,
      c.push.ensures.ascii c.letter.ensures.ascii,
      c.letter.ensures.letter,
      c.loop-step.invariant,
    )

pub returns : goal.returns
returns c =
    let whole : length c.args.steps.now ≤ c.loop-step.step-index = omega arith in
    c.loop-step.invariant ∙ ap (λ (l : List ℕ). flat_map (λ s. step_text (actor_of_step s)) l)
    (take_all c.loop-step.step-index c.args.steps.now whole)
    ∙ sym (steps_text_some c.args.steps.now (sym c.if-is_empty.ensures))
