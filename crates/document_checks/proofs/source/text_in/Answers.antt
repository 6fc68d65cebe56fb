use Rattle.std.proofs.lemmas.Str.{is_utf8-from_IsUtf8}
use Rattle.document_checks.proofs.Utf8.{is_utf8-false}
use Rattle.document_checks.proofs.source.text_in.Goals as goal

pub returns-in-Ok : goal.returns-in-Ok
returns-in-Ok c = (is_utf8-from_IsUtf8 _ c.in-Ok.ensures.cases.1, c.in-Ok.ensures.cases.0)

pub returns-in-Err : goal.returns-in-Err
returns-in-Err c = is_utf8-false _ c.in-Err.ensures.cases.0
