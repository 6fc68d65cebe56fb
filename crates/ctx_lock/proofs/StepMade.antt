-- What a step made under the turn says of the pass.
use Rattle.std.proofs.Common.{◌≡◌, ℕ, ◌+◌, ◌<◌, List, [], ◌∷◌, ◌++◌, length, drop, sym, refl, ap, ◌∙◌, subst, arith}
use Rattle.std.proofs.Math.Seq.{drop-append_seam}
use Rattle.guards_model.specs.declared.Actor.{Actor}
use Rattle.guards_model.specs.declared.Actor.TheVariants.{Task, Sweep}
use Rattle.ctx_lock.specs.declared.view.View.{View}
use Rattle.ctx_lock.specs.History.{one_if, times}
use Rattle.ctx_lock.specs.Views.{has, winner, released}
use Rattle.ctx_lock.specs.Plays.{Sat, IsFound}
use Rattle.ctx_lock.specs.Passes.{AreStepsOf, IsNext}
use Rattle.ctx_lock.proofs.Histories.{times-append}

past_one : (xs ys : List Actor) (a : Actor) → ys ≡ xs ++ a ∷ [] → drop (length xs) ys ≡ a ∷ []
past_one xs ys a e = ap (drop (length xs)) e ∙ drop-append_seam xs (a ∷ [])

pub one_self : (a : Actor) → one_if a a ≡ 1
one_self Task = refl
one_self Sweep = refl

-- one step more, and no other
pub steps_more : (a : Actor) (n : ℕ) (steps xs ys after : List Actor) → AreStepsOf a n steps → ys ≡ xs ++ a ∷ [] →
    after ≡ steps ++ drop (length xs) ys → AreStepsOf a (n + 1) after
steps_more a n steps xs ys after before grew is = subst (λ (l : List Actor). AreStepsOf a (n + 1) l) (sym is) record {
  count = (let t = times-append a steps (drop (length xs) ys) in let d = ap (times a) (past_one xs ys a grew) in
      omega (arith, before.count, one_self a));
  alone = λ b other. (let t = times-append b steps (drop (length xs) ys) in let d =
      ap (times b) (past_one xs ys a grew) in omega (arith, before.alone b other));
}

module _ {T O : Type 0} (origin : T → O) (history : T → List Actor) (due : O → Actor → ℕ) (a : Actor) (v : View O)
    (y z : T) (found : IsFound origin history due v y) (acts : v.actors ≡ a ∷ []) where
  some_has : 0 < has a v
  some_has = let e = ap (times a) acts in omega (arith, one_self a)

  grown : history z ≡ history y ++ a ∷ [] → times a (history y) < due (origin y) a →
      IsNext due a v (released (history z) (winner (history y) v))
  grown grew room = record {
    between = found.seen.0;
    others = (let e = ap (times a) found.seen.1 in let t = times-append a v.seen found.seen.0 in
        omega (arith, found.same a some_has));
    seen = grew ∙ ap (λ (l : List Actor). l ++ a ∷ []) found.seen.1;
    count = (let t = times-append a v.steps (drop (length (history y)) (history z)) in let d =
        ap (times a) (past_one (history y) (history z) a grew) in omega (arith, one_self a));
    origin = (origin y, found.origin_is);
    room = λ o is. (let same : origin y ≡ o = (let e = sym found.origin_is ∙ is in cc) in let d =
        ap (λ p. due p a) same in omega (arith, found.counted a some_has));
  }

  -- a step was made
  pub next : (n : Sat T O) → n ≡ (released (history z) (winner (history y) v), []) → history z ≡ history y ++ a ∷ [] →
      times a (history y) < due (origin y) a → IsNext due a v n.0
  next n is grew room = subst (λ (m : Sat T O). IsNext due a v m.0) (sym is) (grown grew room)
