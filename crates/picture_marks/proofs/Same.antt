-- Two that show the same are one, and so are two lanes of one kind and place.
use Rattle.std.proofs.Common.{◌≡◌, ℕ, ◌==◌, ℤ, nat_abs, true, false, cond, refl, sym, ap, ◌∙◌, eqb-true, eq-eqb}
use Rattle.std.specs.Ordering.{int_eq}
use Rattle.std.proofs.lemmas.Bool.Decides.{Decides-int_eq}
use Rattle.guards_model.proofs.BoolTests.{both, and_true, differ}
use Rattle.picture_marks.specs.declared.shown.Lane.{Lane}
use Rattle.picture_marks.specs.declared.shown.Lane.TheVariants as lane
use Rattle.picture_marks.specs.declared.shown.Shown.{Shown}
use Rattle.picture_marks.specs.declared.shown.Shown.TheVariants as shown
use Rattle.picture_marks.specs.Shown.{look, amount, same, is_drawn, lane_kind, lane_place, same_lane}

-- what looks so and has this amount
abbrev of_look : ℕ → ℤ → Shown
of_look n w =
    cond (n == 0) shown.Nothing
    (cond (n == 1) shown.Runs
    (cond (n == 2) shown.Silent
    (cond (n == 3) shown.Off
    (cond (n == 4) shown.Judged
    (cond (n == 5) (shown.Restored (nat_abs w))
    (cond (n == 6) (shown.Removed (nat_abs w))
    (cond (n == 7) (shown.Joined (nat_abs w))
    (cond (n == 8) (shown.Dropped (nat_abs w))
    (cond (n == 9) (shown.Count (nat_abs w))
    (cond (n == 10) (shown.Blocks (nat_abs w))
    (cond (n == 11) (shown.Vote w)
    (cond (n == 12) (shown.Threshold (nat_abs w)) (shown.Final (nat_abs w))))))))))))))

look_back : (v : Shown) → of_look (look v) (amount v) ≡ v
look_back shown.Nothing = refl
look_back shown.Runs = refl
look_back shown.Silent = refl
look_back shown.Off = refl
look_back shown.Judged = refl
look_back (shown.Restored start) = refl
look_back (shown.Removed cycle) = refl
look_back (shown.Joined cycle) = refl
look_back (shown.Dropped cycle) = refl
look_back (shown.Count count) = refl
look_back (shown.Blocks left) = refl
look_back (shown.Vote word) = refl
look_back (shown.Threshold count) = refl
look_back (shown.Final blocks) = refl

pub same_is : (v w : Shown) → same v w ≡ true → v ≡ w
same_is v w e =
    let b = both (look v == look w) (int_eq (amount v) (amount w)) e in
    sym (look_back v) ∙ ap (λ n. of_look n (amount v)) (eqb-true (look v) (look w) b.0)
    ∙ ap (λ z. of_look (look w) z) ((Decides-int_eq (amount v) (amount w)).0 b.1) ∙ look_back w

pub undrawn : (v : Shown) → is_drawn v ≡ false → v ≡ shown.Nothing
undrawn shown.Nothing h = refl
undrawn _ h = differ h

abbrev of_kind : ℕ → ℕ → Lane
of_kind n k =
    cond (n == 0) (lane.State k)
    (cond (n == 1) (lane.Judged k)
    (cond (n == 2) (lane.Count k)
    (cond (n == 3) (lane.Removed k)
    (cond (n == 4) (lane.Joined k)
    (cond (n == 5) (lane.Dropped k)
    (cond (n == 6) lane.Remaining
    (cond (n == 7) (lane.Output k)
    (cond (n == 8) (lane.Threshold k) lane.Final))))))))

kind_back : (l : Lane) → of_kind (lane_kind l) (lane_place l) ≡ l
kind_back (lane.State q) = refl
kind_back (lane.Judged q) = refl
kind_back (lane.Count q) = refl
kind_back (lane.Removed q) = refl
kind_back (lane.Joined q) = refl
kind_back (lane.Dropped q) = refl
kind_back lane.Remaining = refl
kind_back (lane.Output k) = refl
kind_back (lane.Threshold q) = refl
kind_back lane.Final = refl

pub same_lane_is : (a b : Lane) → same_lane a b ≡ true → a ≡ b
same_lane_is a b e =
    let k = both (lane_kind a == lane_kind b) (lane_place a == lane_place b) e in
    sym (kind_back a) ∙ ap (λ n. of_kind n (lane_place a)) (eqb-true (lane_kind a) (lane_kind b) k.0)
    ∙ ap (λ p. of_kind (lane_kind b) p) (eqb-true (lane_place a) (lane_place b) k.1) ∙ kind_back b

pub own_lane : (l : Lane) → same_lane l l ≡ true
own_lane l =
    and_true (lane_kind l == lane_kind l) (lane_place l == lane_place l) (eq-eqb (lane_kind l) (lane_kind l) refl)
    (eq-eqb (lane_place l) (lane_place l) refl)
