-- The contents of final frames that are in range, and a set with one channel more.
use Rattle.std.proofs.Common.{◌≡◌, ℕ, ◌<◌, ◌==◌, ◌&&◌, ◌||◌, Bool, true, false, List, [], ◌∷◌, ◌++◌, Some, refl, ◌∙◌}
use Rattle.std.specs.List.{list_all}
use Rattle.guards_model.specs.Channels.{Channel, ChannelSet, has, union}
use Rattle.guards_model.specs.Frames.{final_body, FinalValue, counts_in_range, control_in_range, is_channel, fits_u32, law_in_range, names_law, is_set}
use Rattle.guards_model.proofs.BoolTests.{both, and_true}
use Rattle.guards_model.proofs.Tables.{has-channels_where}
use Rattle.guards_world.specs.NodeLists.{Bodies, AreInRange}

pub counts_fit : (got : Bodies) (j q : ℕ) (f : FinalValue) → AreInRange got → got j q ≡ Some (final_body f) →
    counts_in_range f.control.counts ≡ true
counts_fit got j q f ranges h =
    let v = ranges j q (final_body f) h in
    let a = both (is_channel f.target) _ v.1 in
    let b = both (fits_u32 f.start) _ a.1 in
    let c = both _ (control_in_range v.0 f.control) b.1 in
    let d = both (law_in_range (names_law v.0) f.control.law) _ c.1 in
    let e = both (is_set f.control.active) _ d.1 in
    (both (is_set f.control.fresh) (counts_in_range f.control.counts) e.1).1

pub all_more : (fits : FinalValue → Bool) (xs : List FinalValue) (x : FinalValue) → list_all fits xs ≡ true →
    fits x ≡ true → list_all fits (xs ++ x ∷ []) ≡ true
all_more fits [] x h k = and_true (fits x) true k refl
all_more fits (y ∷ xs) x h k =
    let parts = both (fits y) (list_all fits xs) h in
    and_true (fits y) (list_all fits (xs ++ x ∷ [])) parts.0 (all_more fits xs x parts.1 k)

or_swapped : (a b : Bool) → (a || (b || false)) ≡ ((true && b) || a)
or_swapped true true = refl
or_swapped true false = refl
or_swapped false true = refl
or_swapped false false = refl

pub with_one : (set : ChannelSet) (c q : Channel) → q < 7 →
    has (union set (c ∷ [])) q ≡ ((true && (c == q)) || has set q)
with_one set c q low = has-channels_where (λ k. has set k || has (c ∷ []) k) q low ∙ or_swapped (has set q) (c == q)
