-- The texts of a table's rows, written one after the other.
use Rattle.std.proofs.Common.{◌≡◌, ◌<◌, ◌+◌, ℕ, List, [], ◌++◌, length, take, get_or, Ok, Err, refl, sym, ap, subst, ◌∙◌, arith}
use Rattle.std.proofs.lemmas.List.{length-take-le}
use Rattle.std.proofs.lemmas.Option.{unwrap_or-slice_get}
use Rattle.guards_model.specs.Tasks.{TaskValue}
use Rattle.task_table.specs.Tables.{tasks_in_row}
use Rattle.check_text.specs.Check.{row_text, texts_from}
use Rattle.check_text.proofs.PlaceTexts.{place_more, place_front}
use Rattle.guards_io.specs.declared.writing.WriteStop.{WriteStop}
use Rattle.guards_io.specs.Writes.{Writes}
use Rattle.guards_io.specs.Views.{SinkView}
use Rattle.guards_io.proofs.WritesLemmas.{writes_then, writes_stop}

-- the lines of the rows before this one
abbrev pub rows_before : List (List TaskValue) → ℕ → List ℕ
rows_before rows at = texts_from row_text 0 (take at rows)

-- one more row
next : (rows : List (List TaskValue)) (at : ℕ) → at < length rows →
    rows_before rows at ++ row_text at (tasks_in_row rows at) ≡ rows_before rows (at + 1)
next rows at low =
    ap (λ row. rows_before rows at ++ row_text at row) (unwrap_or-slice_get rows at [])
    ∙ place_more [] rows at [] (rows_before rows at) (rows_before rows at ++ row_text at (get_or rows at [])) row_text
    low (length-take-le at rows (omega (arith, low))) refl refl

module _ (rows : List (List TaskValue)) (at : ℕ) (a b c : SinkView) where
  pub rows_more : at < length rows → Writes a b (rows_before rows at) (Ok tt) →
      Writes b c (row_text at (tasks_in_row rows at)) (Ok tt) → Writes a c (rows_before rows (at + 1)) (Ok tt)
  rows_more low first second =
      subst (λ (text : List ℕ). Writes a c text (Ok tt)) (next rows at low)
      (writes_then a b c (rows_before rows at) (row_text at (tasks_in_row rows at)) (Ok tt) first second)

  pub rows_stop : (e : WriteStop) → at < length rows → Writes a b (rows_before rows at) (Ok tt) →
      Writes b c (row_text at (tasks_in_row rows at)) (Err e) → Writes a c (texts_from row_text 0 rows) (Err e)
  rows_stop e low first second =
      let (later, whole) = place_front row_text rows (at + 1) in
      let this = subst (λ (text : List ℕ). Writes a c text (Err e)) (next rows at low)
      (writes_then a b c (rows_before rows at) (row_text at (tasks_in_row rows at)) (Err e) first second) in
      subst (λ (text : List ℕ). Writes a c text (Err e)) (sym whole)
      (writes_stop a c (rows_before rows (at + 1)) later e this)
