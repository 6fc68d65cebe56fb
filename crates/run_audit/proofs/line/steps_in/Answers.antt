use Rattle.std.proofs.Common.{◌≡◌, [], ◌∷◌, Some, refl, ap, ◌∙◌}
use Rattle.std.specs.Fmt.{decimal}
use Rattle.guards_model.specs.Texts.{steps_text}
use Rattle.guards_audit.specs.Lines.{steps_told}
use Rattle.guards_audit.proofs.ReadBack.{lacks-decimal}
use Rattle.run_audit.proofs.LineLemmas.{lacks_steps}
use Rattle.guards_audit.specs.Reading.{steps_read}
use Rattle.guards_audit.proofs.ReadBack.{steps_back}
use Rattle.run_audit.proofs.LineLemmas.{not_none}
use Rattle.run_audit.proofs.line.steps_in.Goals as goal

pub returns-in_default-clause-read : goal.returns-in_default-clause-read
returns-in_default-clause-read c =
    λ s t form size e.
    let a = c.piece.ensures.cut (decimal t.channel) (steps_text t.steps ∷ []) (lacks-decimal 32 t.channel refl) e in
    not_none c.channel.result t.channel c.in_default.is (c.channel.ensures t.channel form a.0)

pub returns-clause-read : goal.returns-clause-read
returns-clause-read c =
    λ s t form size e.
    let a = c.piece.ensures.cut (decimal t.channel) (steps_text t.steps ∷ []) (lacks-decimal 32 t.channel refl) e in
    let b = c.piece-2.ensures.cut (steps_text t.steps) [] (lacks_steps t.steps) a.1 in
    let chan : c.in-Some.chan ≡ t.channel = cc (c.channel.ensures t.channel form a.0, c.in-Some.is) in
    let steps = c.in_ok-steps.ensures.read ∙ ap steps_read b.0 ∙ steps_back t.steps in
    λ i. Some (steps_told (record { channel = chan i; steps = steps i }))
