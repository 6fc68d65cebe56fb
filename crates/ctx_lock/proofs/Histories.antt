-- Beginnings of histories.
use Rattle.std.proofs.Common.{◌≡◌, ◌+◌, ◌≤◌, List, [], ◌∷◌, ◌++◌, length, sym, refl, ap, ◌∙◌, arith, append_assoc, length-append}
use Rattle.std.proofs.lemmas.List.{append-nil}
use Rattle.guards_model.specs.declared.Actor.{Actor}
use Rattle.guards_model.specs.declared.Actor.TheVariants.{Task, Sweep}
use Rattle.ctx_lock.specs.History.{one_if, times, StartsWith}

pub times-append : (a : Actor) (xs ys : List Actor) → times a (xs ++ ys) ≡ times a xs + times a ys
times-append a [] ys = omega arith
times-append a (x ∷ xs) ys = omega (arith, times-append a xs ys)

pub times_push : (a b : Actor) (xs : List Actor) → times a (xs ++ b ∷ []) ≡ times a xs + one_if a b
times_push a b xs = omega (arith, times-append a xs (b ∷ []))

-- each step is one of Task's or one of Sweep's
pub length_times : (xs : List Actor) → length xs ≡ times Task xs + times Sweep xs
length_times [] = refl
length_times (x ∷ xs) = omega (arith, length_times xs, one x)
  where
    one : (y : Actor) → one_if Task y + one_if Sweep y ≡ 1
    one Task = refl
    one Sweep = refl

pub times_mono : (a : Actor) (xs ys : List Actor) → StartsWith ys xs → times a xs ≤ times a ys
times_mono a xs ys p = omega (arith, ap (times a) p.1, times-append a xs p.0)

module _ {A : Type 0} where
  pub starts_same : (xs : List A) → StartsWith xs xs
  starts_same xs = ([], sym (append-nil xs))

  pub starts_none : (xs : List A) → StartsWith xs []
  starts_none xs = (xs, refl)

  pub starts_more : (xs ys : List A) → StartsWith (xs ++ ys) xs
  starts_more xs ys = (ys, refl)

  pub starts_trans : (xs ys zs : List A) → StartsWith zs ys → StartsWith ys xs → StartsWith zs xs
  starts_trans xs ys zs p q = (q.0 ++ p.0, p.1 ∙ ap (λ l. l ++ p.0) q.1 ∙ append_assoc xs q.0 p.0)

  -- of two beginnings of one list the shorter begins the longer
  pub starts_order : (h xs ys : List A) → StartsWith h xs → StartsWith h ys → length xs ≤ length ys → StartsWith ys xs
  starts_order h [] ys p q le = (ys, refl)
  starts_order h (x ∷ xs) [] p q le = absurd (omega arith)
  starts_order [] (x ∷ xs) (y ∷ ys) p q le = absurd (cc (p.1))
  starts_order (z ∷ h) (x ∷ xs) (y ∷ ys) p q le =
      let head_p : z ≡ x = (let e = p.1 in cc) in
      let tail_p : h ≡ xs ++ p.0 = (let e = p.1 in cc) in
      let head_q : z ≡ y = (let e = q.1 in cc) in
      let tail_q : h ≡ ys ++ q.0 = (let e = q.1 in cc) in
      let more : StartsWith ys xs = starts_order h xs ys (p.0, tail_p) (q.0, tail_q) (omega arith) in
      (more.0, (let e = more.1 in cc))

  -- a beginning that is as long is the whole
  pub starts_whole : (xs ys : List A) → StartsWith ys xs → StartsWith xs ys → xs ≡ ys
  starts_whole xs ys p q =
      let n = ap length p.1 in
      let m = ap length q.1 in
      let none : length p.0 ≡ 0 = omega (arith, length-append xs p.0, length-append ys q.0, n, m) in
      let nil : p.0 ≡ [] = empty p.0 none in
      sym (p.1 ∙ ap (λ l. xs ++ l) nil ∙ append-nil xs)
    where
      empty : (l : List A) → length l ≡ 0 → l ≡ []
      empty [] e = refl
      empty (x ∷ xs) e = absurd (omega arith)
