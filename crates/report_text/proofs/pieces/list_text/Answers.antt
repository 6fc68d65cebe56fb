use Rattle.std.proofs.Common.{◌≡◌, List, ℕ, sym, subst, IfOk, string_bytes}
use Rattle.report_text.proofs.ListTexts.{list_text_none, list_text_some}
use Rattle.report_text.proofs.pieces.list_text.Goals as goal

pub returns : goal.returns
returns c = subst (λ (t : List ℕ). IfOk c.joined.result (λ text. string_bytes text ≡ t))
    (sym (list_text_some c.args.numbers.now (sym c.if-is_empty.ensures))) c.joined.ensures

pub returns-then-is_empty : goal.returns-then-is_empty
returns-then-is_empty c =
    subst (λ (t : List ℕ). IfOk c.from_str.result (λ text. string_bytes text ≡ t))
    (sym (list_text_none c.args.numbers.now (sym c.if-is_empty.ensures))) c.from_str.ensures.ok
