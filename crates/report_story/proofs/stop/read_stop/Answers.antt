use Rattle.std.proofs.Common.{◌≡◌, Some, None, true, false, sym, ap, ◌∙◌, arith}
use Rattle.std.specs.Str.{bytes_eq}
use Rattle.std.proofs.lemmas.Slice.Eq.{bytes_eq-Decides}
use Rattle.std.proofs.lemmas.Str.Pattern.{strip_suffix_char}
use Rattle.guards_audit.specs.Lines.{stop_told}
use Rattle.run_audit.proofs.LineLemmas.{no_end, no_text}
use Rattle.report_story.proofs.StopLemmas.{no_stop, stop_read}
use Rattle.report_story.proofs.stop.read_stop.Goals as goal

pub returns-in_default : goal.returns-in_default
returns-in_default c = λ s h. no_text c.args.bytes.now (stop_told s) c.in_default.ensures.cases.0 h

pub returns-in_default-strip_suffix : goal.returns-in_default-strip_suffix
returns-in_default-strip_suffix c =
    λ s h.
    no_end c.args.bytes.now (stop_told s)
    (λ front e. strip_suffix_char 10 c.in-Ok.text.now None c.in_default-strip_suffix.ensures.cases (omega arith)
    front (c.in-Ok.ensures.cases.0 ∙ e)) h

pub returns-then-eq : goal.returns-then-eq
returns-then-eq c =
    let same : c.as_str.result.now ≡ c.in-Ok.text.now =
    (bytes_eq-Decides c.as_str.result.now c.in-Ok.text.now).0 (sym c.eq.ensures ∙ c.if-eq.true) in
    stop_read c.args.bytes.now c.stop_in-stop.result c.stop_in-stop.ensures.formed
    (sym c.in_ok-spelled.ensures ∙ sym c.as_str.ensures ∙ same ∙ c.in-Ok.ensures.cases.0)

pub returns : goal.returns
returns c =
    let ends = strip_suffix_char 10 c.in-Ok.text.now (Some c.in-Some.body) c.in-Some.ensures.cases (omega arith) in
    let other : bytes_eq c.as_str.result.now c.in-Ok.text.now ≡ false = sym c.eq.ensures ∙ c.if-eq.false in
    no_stop c.args.bytes.now c.in-Some.body.now c.piece.result.1.now c.stop_in-stop.result
    (sym c.in-Ok.ensures.cases.0 ∙ ends)
    (λ first pieces h e. (c.piece.ensures.cut first pieces h e).1) c.stop_in-stop.ensures.read
    (λ e.
    let same : c.as_str.result.now ≡ c.in-Ok.text.now =
    c.as_str.ensures ∙ c.in_ok-spelled.ensures ∙ e ∙ sym c.in-Ok.ensures.cases.0 in
    let equal : bytes_eq c.as_str.result.now c.in-Ok.text.now ≡ true =
    (bytes_eq-Decides c.as_str.result.now c.in-Ok.text.now).1 same in
    let wrong : true ≡ false = sym equal ∙ other in
    cc)
