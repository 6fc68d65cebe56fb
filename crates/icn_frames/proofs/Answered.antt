-- What the reading function answers, in terms of spellings.
use Rattle.std.proofs.Common.{◌≡◌, ℕ, List, Option, Some, None, Result, Ok, Err, sym, ◌∙◌}
use Rattle.std.specs.Prelude.{IfOk, IfSome}
use Rattle.std.specs.declared.alloc.AllocError.{AllocError}
use Rattle.guards_model.specs.Frames.{FrameValue, Spells}
use Rattle.guards_model.specs.Fields.{frame_in}
use Rattle.guards_model.proofs.Codecs.{IsBytes}
use Rattle.guards_model.proofs.FrameCodec.{found, only}

pub answers_spelled : (bytes : List ℕ) (r : Result (Option FrameValue) AllocError) → IsBytes bytes →
    IfOk r (λ f. f ≡ frame_in bytes) → IfOk r (λ f. IfSome f (Spells bytes))
answers_spelled bytes (Ok (Some f)) ok h = found bytes f ok (sym h)
answers_spelled bytes (Ok None) ok h = tt
answers_spelled bytes (Err e) ok h = tt

pub answers_read : (bytes : List ℕ) (r : Result (Option FrameValue) AllocError) (f : FrameValue) → Spells bytes f →
    IfOk r (λ found. found ≡ frame_in bytes) → IfOk r (λ found. found ≡ Some f)
answers_read bytes (Ok x) f spells h = h ∙ only bytes f spells
answers_read bytes (Err e) f spells h = tt
