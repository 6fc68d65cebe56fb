-- The line of a stop.
use Rattle.std.proofs.Common.{◌≡◌, Bool, true, false, List, [], ◌∷◌, ◌++◌, Option, Some, refl, sym, ap, ◌∙◌}
use Rattle.std.specs.List.{join_with_byte}
use Rattle.guards_model.specs.declared.Slot.{Slot}
use Rattle.guards_model.specs.declared.Slot.TheVariants as slot
use Rattle.guards_model.specs.Slots.{slot_text}
use Rattle.guards_model.specs.Texts.{TextValue, StopValue, line_end}
use Rattle.guards_audit.specs.Lines.{stop_told, line_spelling, is_form}
use Rattle.guards_audit.specs.Reading.{line_read, slot_in}
use Rattle.guards_audit.proofs.LinesBack.{line_back, line_is}
use Rattle.report_story.specs.declared.stop.StopLine.{StopLine}
use Rattle.run_audit.specs.Pieces.{lacks}
use Rattle.run_audit.specs.Values.{fields, first_word}
use Rattle.report_story.specs.Stops.{story_stop}
use Rattle.run_audit.proofs.LineLemmas.{body_is}

pub lacks_slot : (s : Slot) → lacks 32 (slot_text s) ≡ true
lacks_slot slot.Request = refl
lacks_slot slot.Round1 = refl
lacks_slot slot.Round2 = refl
lacks_slot slot.Round3 = refl
lacks_slot slot.Tasks = refl
lacks_slot slot.Vote = refl
lacks_slot slot.Sweep = refl
lacks_slot slot.Final = refl
lacks_slot slot.Switch = refl
lacks_slot slot.Output = refl

slot_back : (s : Slot) → slot_in (slot_text s) ≡ Some s
slot_back slot.Request = refl
slot_back slot.Round1 = refl
slot_back slot.Round2 = refl
slot_back slot.Round3 = refl
slot_back slot.Tasks = refl
slot_back slot.Vote = refl
slot_back slot.Sweep = refl
slot_back slot.Final = refl
slot_back slot.Switch = refl
slot_back slot.Output = refl

some_is : (a b : Slot) → Some a ≡ Some b → a ≡ b
some_is a b e = cc

-- a slot has a name of its own
pub slot_is : (a b : Slot) → slot_text a ≡ slot_text b → a ≡ b
slot_is a b e = some_is a b (sym (slot_back a) ∙ ap slot_in e ∙ slot_back b)

-- a stop that is read and spelled again is the line of the text
pub stop_read : (text : TextValue) (s : StopLine) → is_form (stop_told (story_stop s)) ≡ true →
    line_spelling (stop_told (story_stop s)) ≡ text → line_read text ≡ Some (stop_told (story_stop s))
stop_read text s form e = ap line_read (sym e) ∙ line_back (stop_told (story_stop s)) form

-- and where it is spelled otherwise, the text is no stop
pub no_stop : (text body rest : TextValue) (got : StopLine) → text ≡ body ++ line_end →
    ((first : TextValue) (pieces : List TextValue) → lacks 32 first ≡ true → body ≡ join_with_byte 32 (first ∷ pieces) →
    rest ≡ join_with_byte 32 pieces) →
    ((s : StopValue) → is_form (stop_told s) ≡ true → rest ≡ join_with_byte 32 (fields (stop_told s)) →
    story_stop got ≡ s) →
    (line_spelling (stop_told (story_stop got)) ≡ text → ⊥) → (s : StopValue) → line_read text ≡ Some (stop_told s) → ⊥
no_stop text body rest got e cut read differs s h =
    let parts = body_is text body (stop_told s) e h in
    let after = cut (first_word (stop_told s)) (fields (stop_told s)) refl parts.0 in
    differs (ap (λ v. line_spelling (stop_told v)) (read s parts.1 after) ∙ sym (line_is text (stop_told s) h).0)
