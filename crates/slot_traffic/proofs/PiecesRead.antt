-- What is read of pieces.
use Rattle.std.proofs.Common.{◌≡◌, List, [], ◌∷◌, length, Some, sym, refl, arith}
use Rattle.std.specs.Prelude.{IsTrue, IfOk}
use Rattle.std.specs.Prelude.{Result, Ok, Err}
use Rattle.guards_model.specs.Frames.{FrameValue, in_range, spelling}
use Rattle.guards_model.specs.Fields.{frame_in}
use Rattle.guards_model.proofs.FrameCodec.{only}

-- the spelling of a frame is read as the frame
pub own_frame : (f : FrameValue) → IsTrue (in_range f) → Some f ≡ frame_in (spelling f)
own_frame f fits = sym (only (spelling f) f (fits, refl))

-- two facts of one value make a third
pub both_ok : {A E : Type 0} (P Q R : A → Type 0) (r : Result A E) → ((x : A) → P x → Q x → R x) → IfOk r P → IfOk r Q →
    IfOk r R
both_ok P Q R (Ok x) f p q = f x p q
both_ok P Q R (Err e) f p q = tt

pub no_items : {A : Type 0} (xs : List A) → length xs ≡ 0 → xs ≡ []
no_items [] h = refl
no_items (x ∷ xs) h = absurd (omega (arith, h))
