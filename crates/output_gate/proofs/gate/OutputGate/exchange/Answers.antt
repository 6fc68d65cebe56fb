use Rattle.std.proofs.Common.{◌≡◌, ℤ, List, length, ap, sym, ◌∙◌}
use Rattle.guards_model.specs.Texts.{LineValue, RecordValue}
use Rattle.guards_model.specs.Actuators.{words_moved}
use Rattle.guards_model.specs.Settled.{SettledValue}
use Rattle.output_gate.specs.Gates.{GateValue}
use Rattle.output_gate.specs.Sending.{TakenValue}
use Rattle.output_gate.specs.Exchanging.{is_third}
use Rattle.output_gate.proofs.WordsSettled.{exchange_moves}
use Rattle.output_gate.proofs.gate.OutputGate.exchange.Goals as goal

pub returns-clause-exchanged : goal.returns-clause-exchanged
returns-clause-exchanged g c =
    let gate : GateValue = c.args.self.now in
    let words : c.self.inside.words ≡ c.args.self.now.words = ap (λ (v : GateValue). v.words) c.self.view_is in
    exchange_moves g.B.Bus.may (g.B.Bus.seen c.args.bus.now).script (g.B.Bus.seen c.args.bus.now).log
    (g.B.Bus.seen c.send_lines.new.bus).log c.args.version c.args.part.now c.args.settled.now c.args.self.now
    c.apply.new.self
    c.count_of.result c.part.inside.cycle c.settled.inside.disturbed c.as_slice.result.now c.part.inside.active
    c.in_ok-taken.taken
    (c.count_of.ensures.value ∙ ap (λ (ws : List ℤ). length ws) words)
    (ap (λ (r : RecordValue). r.cycle) c.part.view_is)
    (ap (λ (r : SettledValue). r.disturbed) c.settled.view_is)
    (c.as_slice.ensures ∙ ap (λ (r : RecordValue). r.lines) c.part.view_is)
    (ap (λ (r : RecordValue). r.active) c.part.view_is)
    c.requires c.is_third.ensures.members c.in_ok-taken.ensures.sent
    (sym (c.is_third.ensures.value ∙ ap (λ (t : TakenValue). is_third c.part.inside.active t.disturbed) c.taken.view_is)
    ∙ c.if-is_third.false)
    (c.apply.ensures ∙ ap (λ (t : TakenValue). record gate { words = words_moved gate.steps gate.words t.frames })
    c.taken.view_is)
