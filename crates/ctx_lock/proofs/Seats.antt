-- Where a seat is after a few steps in a row.
use Rattle.std.proofs.Common.{◌≡◌, ℕ, List, [], ◌∷◌, ◌++◌, length, drop, ap, sym, ◌∙◌, Option, Some, None}
use Rattle.atomic_table.specs.Table.{rest}
use Rattle.guards_model.specs.declared.Actor.{Actor}
use Rattle.ctx_lock.specs.declared.view.Stage.TheVariants.{Waits, Opens}
use Rattle.ctx_lock.specs.declared.view.View.{View}
use Rattle.ctx_lock.specs.Views.{winner, released, opener}
use Rattle.ctx_lock.specs.Plays.{Sat}

module _ {T O : Type 0} where
  -- a seat as it was, which holds no slot
  pub idle : (n m : Sat T O) → n ≡ m → m.1 ≡ [] → n ≡ (m.0, [])
  idle n m e none = e ∙ ap (λ (l : List (ℕ × Option T)). (m.0, l)) none

  -- a seat that took the slot
  pub holds_slot : (n : Sat T O) (w : View O) (x : Option T) (more : List (ℕ × Option T)) → n ≡ (w, (0, x) ∷ more) →
      (y : Option T) × (n.1 ≡ (0, y) ∷ rest n.1)
  holds_slot n w x more e = let slots = ap (λ (m : Sat T O). m.1) e in
      (x, slots ∙ ap (λ (l : List (ℕ × Option T)). (0, x) ∷ rest l) (sym slots))

  -- the value was put into the empty slot
  pub puts_in : (n m : Sat T O) (y : T) → m.1 ≡ (0, None) ∷ [] → n ≡ (m.0, (0, Some y) ∷ rest m.1) →
      n ≡ (m.0, (0, Some y) ∷ [])
  puts_in n m y slot e = e ∙ ap (λ (l : List (ℕ × Option T)). (m.0, (0, Some y) ∷ rest l)) slot

  -- the turn was won at the history xs, and given back at the history ys
  pub turned : (n m k : Sat T O) (xs ys : List Actor) → m ≡ (winner xs k.0, (0, None) ∷ []) →
      n ≡ (released ys m.0, []) → n ≡ (released ys (winner xs k.0), [])
  turned n m k xs ys won e = e ∙ ap (λ (u : Sat T O). (released ys u.0, [])) won

  -- what that leaves of a pass
  pub turned_seat : (n : Sat T O) (v : View O) (a : Actor) (xs ys : List Actor) → n ≡ (released ys (winner xs v), []) →
      v.actors ≡ a ∷ []
      → (n.1 ≡ []) × (n.0.stage ≡ Waits) × (n.0.actors ≡ a ∷ []) × (n.0.steps ≡ v.steps ++ drop (length xs) ys)
  turned_seat n v a xs ys e acts = (
    ap (λ (u : Sat T O). u.1) e,
    ap (λ (u : Sat T O). u.0.stage) e,
    ap (λ (u : Sat T O). u.0.actors) e ∙ acts,
    ap (λ (u : Sat T O). u.0.steps) e,
  )

  -- the seat that is to open the table
  pub opens_as : (n : Sat T O) (o : O) (first : List Actor) → n ≡ (opener o first, []) →
      (n.0.origin ≡ Some o) × (n.0.stage ≡ Opens)
  opens_as n o first e = (ap (λ (u : Sat T O). u.0.origin) e, ap (λ (u : Sat T O). u.0.stage) e)

  -- and after a step that leaves it as it was
  pub still_opens : (n m : Sat T O) (o : O) (first : List Actor) → n ≡ (m.0, m.1) → m ≡ (opener o first, []) →
      (n.0.origin ≡ Some o) × (n.0.stage ≡ Opens)
  still_opens n m o first same e = opens_as n o first (same ∙ e)
