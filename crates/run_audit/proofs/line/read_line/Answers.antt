use Rattle.std.proofs.Common.{◌≡◌, Some, None, true, false, sym, ap, ◌∙◌, arith}
use Rattle.std.specs.Str.{bytes_eq}
use Rattle.std.proofs.lemmas.Slice.Eq.{bytes_eq-Decides}
use Rattle.std.proofs.lemmas.Str.Pattern.{strip_suffix_char}
use Rattle.run_audit.specs.Values.{is_formed}
use Rattle.run_audit.proofs.LineLemmas.{no_end, no_text, none_read, other_spelling, some_read}
use Rattle.run_audit.proofs.line.read_line.Goals as goal

pub returns-in_default : goal.returns-in_default
returns-in_default c = λ line h. absurd (no_text c.args.bytes.now line c.in_default.ensures.cases.0 h)

pub returns-in_default-strip_suffix : goal.returns-in_default-strip_suffix
returns-in_default-strip_suffix c =
    λ line h.
    absurd (no_end c.args.bytes.now line
    (λ front e. strip_suffix_char 10 c.in-Ok.text.now None c.in_default-strip_suffix.ensures.cases (omega arith)
    front (c.in-Ok.ensures.cases.0 ∙ e)) h)

pub returns-in_default-2 : goal.returns-in_default-2
returns-in_default-2 c =
    let ends = strip_suffix_char 10 c.in-Ok.text.now (Some c.in-Some.body) c.in-Some.ensures.cases (omega arith) in
    none_read c.args.sizes c.args.bytes.now c.in-Some.body.now c.in_ok-line.field-0 (sym c.in-Ok.ensures.cases.0 ∙ ends)
    c.in_default-2.is c.in_ok-line.ensures.read

pub returns-then-eq : goal.returns-then-eq
returns-then-eq c =
    let same : c.as_str.result.now ≡ c.in-Ok.text.now =
    (bytes_eq-Decides c.as_str.result.now c.in-Ok.text.now).0 (sym c.eq.ensures ∙ c.if-eq.true) in
    some_read c.args.sizes c.args.bytes.now c.in-Some-2.line
    (ap (is_formed c.args.sizes) (sym c.in-Some-2.is) ∙ c.in_ok-line.ensures.formed)
    (sym c.in_ok-spelled.ensures ∙ sym c.as_str.ensures ∙ same ∙ c.in-Ok.ensures.cases.0)

pub returns : goal.returns
returns c =
    let ends = strip_suffix_char 10 c.in-Ok.text.now (Some c.in-Some.body) c.in-Some.ensures.cases (omega arith) in
    let other : bytes_eq c.as_str.result.now c.in-Ok.text.now ≡ false = sym c.eq.ensures ∙ c.if-eq.false in
    other_spelling c.args.sizes c.args.bytes.now c.in-Some.body.now c.in-Some-2.line c.in_ok-line.field-0
    (sym c.in-Ok.ensures.cases.0 ∙ ends) c.in-Some-2.is c.in_ok-line.ensures.read
    (λ e.
    let same : c.as_str.result.now ≡ c.in-Ok.text.now =
    c.as_str.ensures ∙ c.in_ok-spelled.ensures ∙ e ∙ sym c.in-Ok.ensures.cases.0 in
    let equal : bytes_eq c.as_str.result.now c.in-Ok.text.now ≡ true =
    (bytes_eq-Decides c.as_str.result.now c.in-Ok.text.now).1 same in
    let wrong : true ≡ false = sym equal ∙ other in
    cc)
