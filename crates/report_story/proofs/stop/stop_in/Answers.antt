use Rattle.std.proofs.Common.{suc, ◌^◌, ◌&&◌, [], ◌∷◌, refl}
use Rattle.std.specs.Prelude.{codes}
use Rattle.std.specs.Fmt.{decimal}
use Rattle.std.proofs.lemmas.Bool.{leb-true}
use Rattle.guards_model.specs.Frames.{is_set}
use Rattle.guards_model.specs.Slots.{slot_text}
use Rattle.guards_model.specs.Texts.{set_text}
use Rattle.guards_model.proofs.BoolTests.{both}
use Rattle.guards_audit.specs.Lines.{is_small}
use Rattle.guards_audit.proofs.ReadBack.{lacks-decimal}
use Rattle.run_audit.proofs.LineLemmas.{lacks_set}
use Rattle.report_story.proofs.StopLemmas.{lacks_slot}
use Rattle.report_story.proofs.stop.stop_in.Goals as goal

pub returns-clause-read : goal.returns-clause-read
returns-clause-read c =
    λ s form e.
    let parts = both (is_small s.cycle) (is_set s.set && is_set s.active) form in
    let more = both (is_set s.set) (is_set s.active) parts.1 in
    let active = codes "active" ∷ set_text s.active ∷ [] in
    let set = codes "disturbed" ∷ set_text s.set ∷ active in
    let a = c.labelled.ensures (codes "cycle") (decimal s.cycle) (codes "slot" ∷ slot_text s.slot ∷ set) refl
    (lacks-decimal 32 s.cycle refl) e in
    let b = c.labelled-2.ensures (codes "slot") (slot_text s.slot) set refl (lacks_slot s.slot) a.1 in
    let d = c.labelled-3.ensures (codes "disturbed") (set_text s.set) active refl (lacks_set s.set) b.1 in
    let f = c.labelled-4.ensures (codes "active") (set_text s.active) [] refl (lacks_set s.active) d.1 in
    let n = c.number.ensures.read s.cycle (leb-true (suc s.cycle) (2 ^ 32) parts.0) a.0 in
    let w = c.slot.ensures s.slot b.0 in
    let g = c.set.ensures.read s.set more.0 d.0 in
    let h = c.set-2.ensures.read s.active more.1 f.0 in
    λ i. record { cycle = n i; slot = w i; set = g i; active = h i }
