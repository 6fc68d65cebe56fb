-- The texts of an ideal report that are written one after the other.
use Rattle.std.proofs.Common.{◌≡◌, ◌≤◌, ◌<◌, ◌+◌, ◌-◌, add-zero, add-one, ℕ, zero, suc, List, [], ◌++◌, Result, Ok, Err, sym, ap, subst, ◌∙◌, append_assoc, append-nil, arith}
use Rattle.std.proofs.Math.Nat.{add-suc}
use Rattle.guards_model.specs.Missions.{MissionValue}
use Rattle.guards_io.specs.declared.writing.WriteStop.{WriteStop}
use Rattle.guards_runs.specs.IdealReport.{head, last, part, parts_below, ideal_report}
use Rattle.guards_io.specs.Writes.{Writes}
use Rattle.guards_io.proofs.WritesLemmas.{writes_then, writes_stop}
use Rattle.guards_io.specs.Views.{SinkView}

-- the parts of some cycles are a front of the parts of more
parts_more : (M : MissionValue) (cycle more : ℕ) →
    (later : List ℕ) × (parts_below M (cycle + more) ≡ parts_below M cycle ++ later)
parts_more M cycle zero = ([], rw add-zero (sym (append-nil (parts_below M cycle))))
parts_more M cycle (suc more) =
    let (later, whole) = parts_more M cycle more in (
      later ++ part M (cycle + more),
      rw add-suc (ap (λ (l : List ℕ). l ++ part M (cycle + more)) whole
          ∙ append_assoc (parts_below M cycle) later (part M (cycle + more))),
    )

parts_front : (M : MissionValue) (cycle cycles : ℕ) → cycle ≤ cycles →
    (later : List ℕ) × (parts_below M cycles ≡ parts_below M cycle ++ later)
parts_front M cycle cycles le =
    let (later, whole) = parts_more M cycle (cycles - cycle) in
    let all : cycle + (cycles - cycle) ≡ cycles = omega arith in
    (later, rw all at whole)

module _ (M : MissionValue) (cycle : ℕ) (a b c : SinkView) where
  -- the part of a cycle after the parts of those before it
  pub cycles_more : Writes a b (parts_below M cycle) (Ok tt) → Writes b c (part M cycle) (Ok tt) →
      Writes a c (parts_below M (cycle + 1)) (Ok tt)
  cycles_more first second = rw add-one (writes_then a b c (parts_below M cycle) (part M cycle) (Ok tt) first second)

  pub cycles_stop : (e : WriteStop) → cycle < M.cycles → Writes a b (parts_below M cycle) (Ok tt) →
      Writes b c (part M cycle) (Err e) → Writes a c (parts_below M M.cycles) (Err e)
  cycles_stop e lt first second =
      let (later, whole) = parts_front M (suc cycle) M.cycles (omega arith) in
      subst (λ (text : List ℕ). Writes a c text (Err e)) (sym whole)
      (writes_stop a c (parts_below M (suc cycle)) later e
      (writes_then a b c (parts_below M cycle) (part M cycle) (Err e) first second))

pub report_head : (M : MissionValue) (a b : SinkView) (e : WriteStop) → Writes a b (head M) (Err e) →
    Writes a b (ideal_report M) (Err e)
report_head M a b e first =
    writes_stop a b (head M ++ parts_below M M.cycles) (last M) e
    (writes_stop a b (head M) (parts_below M M.cycles) e first)

module _ (M : MissionValue) (a b c : SinkView) where
  pub report_cycles : (e : WriteStop) → Writes a b (head M) (Ok tt) → Writes b c (parts_below M M.cycles) (Err e) →
      Writes a c (ideal_report M) (Err e)
  report_cycles e first second =
      writes_stop a c (head M ++ parts_below M M.cycles) (last M) e
      (writes_then a b c (head M) (parts_below M M.cycles) (Err e) first second)

  pub report_last : (d : SinkView) (r : Result (Unit {0}) WriteStop) → Writes a b (head M) (Ok tt) →
      Writes b c (parts_below M M.cycles) (Ok tt) → Writes c d (last M) r → Writes a d (ideal_report M) r
  report_last d r first second third =
      writes_then a c d (head M ++ parts_below M M.cycles) (last M) r
      (writes_then a b c (head M) (parts_below M M.cycles) (Ok tt) first second) third
