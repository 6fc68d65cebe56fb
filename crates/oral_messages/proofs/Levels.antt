-- What the levels of a tree say of its paths.
use Rattle.std.proofs.Common.{◌≡◌, ℕ, zero, suc, ◌+◌, ◌-◌, ◌*◌, ◌<◌, ◌≤◌, Bool, true, false, not, ◌||◌, ◌==◌, List, [], ◌∷◌, length, take, drop, get_or, Option, Some, None, refl, sym, ap, subst, ◌∙◌, arith}
use Rattle.std.specs.Prelude.{slice_get, option_map}
use Rattle.std.proofs.lemmas.Option.{slice_get-map}
use Rattle.guards_model.specs.Channels.{Channel, ChannelSet, has, tolerated_faults}
use Rattle.guards_model.specs.Frames.{SourceValue, is_set, is_distinct}
use Rattle.guards_model.specs.OralMessages.{PathValue, held_value, resolved_value, majority_value, paths}
use Rattle.oral_messages.specs.Ranks.{is_path, rank}
use Rattle.std.specs.List.{list_all}
use Rattle.std.proofs.lemmas.Bool.{eqb-true}
use Rattle.guards_model.proofs.BoolTests.{both, and_true}
use Rattle.oral_messages.specs.Trees.{TreeValue, ReceivedItems, Holds, tree_level}
use Rattle.oral_messages.proofs.RankLaws.{path_at}
use Rattle.oral_messages.proofs.RankedTables.{rank_within}
use Rattle.oral_messages.proofs.Formulas.{AreSized, sizes}
use Rattle.oral_messages.proofs.Resolving.{last_but_one, two_up}

pub source_path : (active : ChannelSet) (s : Channel) → has active s ≡ true → is_path active (s ∷ []) ≡ true
unfolding is_distinct
source_path active s h = and_true (has active s) true h refl

abbrev pub resolved : TreeValue → ReceivedItems → ℕ → Channel → Option SourceValue
resolved t received k s = resolved_value t.members t.width t.me t.own received k (s ∷ [])

pub at_rank : (t : TreeValue) (received : ReceivedItems) (y : PathValue) (k : ℕ) → is_set t.members ≡ true →
    is_path t.members y ≡ true → length y ≡ k → k ≤ 3 →
    slice_get (tree_level t received k) (rank t.members y) ≡ Some (held_value t.members t.width t.me t.own received y)
unfolding tree_level
at_rank t received y k set path long small =
    let S : PathValue → Option SourceValue = held_value t.members t.width t.me t.own received in
    let there : slice_get (paths t.members k) (rank t.members y) ≡ Some y =
    subst (λ n. slice_get (paths t.members n) (rank t.members y) ≡ Some y) long
    (path_at t.members y set path (omega (arith, long, small))) in
    slice_get-map S (paths t.members k) (rank t.members y) ∙ ap (option_map S) there

pub resolved_at_once : (t : TreeValue) (received : ReceivedItems) (s : Channel) → is_set t.members ≡ true →
    has t.members s ≡ true → length t.members < 4 → Holds t received →
    slice_get t.first (rank t.members (s ∷ [])) ≡ Some (resolved t received (tolerated_faults t.members) s)
resolved_at_once t received s set member few holds =
    let none : 0 ≡ tolerated_faults t.members = omega (arith, few) in
    ap (λ xs. slice_get xs (rank t.members (s ∷ []))) holds.first
    ∙ at_rank t received (s ∷ []) 1 set (source_path t.members s member) refl (omega arith)
    ∙ ap (λ k. Some (resolved t received k s)) none

pub value_at : (items : List (Option SourceValue)) (p : ℕ) (x : Option SourceValue) (v : Option SourceValue) →
    x ≡ get_or items p x → slice_get items p ≡ Some v → x ≡ v
value_at [] p x v e h = absurd cc
value_at (i ∷ items) zero x v e h = e ∙ cc
value_at (i ∷ items) (suc p) x v e h = value_at items p x v e h

-- the place of a source
pub record SourcePlace (members : ChannelSet) (s : Channel) : Type 0 where
  pub seven : length members ≤ 7
  pub within : rank members (s ∷ []) < length members
  pub branches : rank members (s ∷ []) * (length members - 1) + (length members - 1)
      ≤ length members * (length members - 1)

product_within : (r n w : ℕ) → r < n → r * w + w ≤ n * w
product_within r n w h = let m : (suc r) * w ≤ n * w = grind (arith, h) in omega (arith, m)

pub source_place : (members : ChannelSet) (s : Channel) → is_set members ≡ true → has members s ≡ true →
    SourcePlace members s
source_place members s set member =
    let sized : AreSized members = sizes members set in
    let within : rank members (s ∷ []) < length members =
    subst (λ n. rank members (s ∷ []) < n) sized.first
    (rank_within members (s ∷ []) 1 set (source_path members s member) refl (omega arith)) in
    record {
      seven = sized.seven;
      within = within;
      branches = product_within (rank members (s ∷ [])) (length members) (length members - 1) within;
    }

pub resolved_by_branches : (t : TreeValue) (received : ReceivedItems) (s : Channel) → is_set t.members ≡ true →
    has t.members s ≡ true → 4 ≤ length t.members → length t.members < 7 → Holds t received →
    majority_value (take (length t.members - 1) (drop (rank t.members (s ∷ []) * (length t.members - 1)) t.second))
    ≡ resolved t received (tolerated_faults t.members) s
unfolding tree_level
resolved_by_branches t received s set member some few holds =
    let one : 1 ≡ tolerated_faults t.members = omega (arith, some, few) in
    let path = source_path t.members s member in
    ap (λ xs. majority_value (take (length t.members - 1) (drop (rank t.members (s ∷ []) * (length t.members - 1)) xs)))
    (holds.second some)
    ∙ last_but_one t.members t.width t.me t.own received 1 (rank t.members (s ∷ []))
    (rank t.members (s ∷ []) * (length t.members - 1)) (length t.members - 1) (s ∷ []) set (omega arith)
    (path_at t.members (s ∷ []) set path (omega arith)) refl refl
    ∙ ap (λ k. resolved t received k s) one

pub resolved_by_levels : (t : TreeValue) (received : ReceivedItems) (s : Channel)
    (branches : List (Option SourceValue)) → is_set t.members ≡ true → has t.members s ≡ true → length t.members ≡ 7 →
    length branches ≡ 6 →
    ((k : ℕ) → k < 6 → get_or branches k None
    ≡ majority_value (take 5 (drop ((rank t.members (s ∷ []) * 6 + k) * 5) t.third))) → Holds t received →
    majority_value branches ≡ resolved t received (tolerated_faults t.members) s
unfolding tree_level
resolved_by_levels t received s branches set member seven six each holds =
    let two : 2 ≡ tolerated_faults t.members = omega (arith, seven) in
    let path = source_path t.members s member in
    let less : length t.members - 1 ≡ 6 = omega (arith, seven) in
    let lesser : length t.members - 2 ≡ 5 = omega (arith, seven) in
    two_up t.members t.width t.me t.own received s branches set path (six ∙ sym less)
    (λ k h.
    each k (omega (arith, h, less))
    ∙ ap (λ xs. majority_value (take 5 (drop ((rank t.members (s ∷ []) * 6 + k) * 5) xs)))
    (holds.third (omega (arith, seven)))
    ∙ ap (λ n. majority_value (take n (drop ((rank t.members (s ∷ []) * 6 + k) * n) (tree_level t received 3))))
    (sym lesser)
    ∙ ap (λ n. majority_value
    (take (length t.members - 2)
    (drop ((rank t.members (s ∷ []) * n + k) * (length t.members - 2)) (tree_level t received 3)))) (sym less))
    ∙ ap (λ k. resolved t received k s) two

-- ---- the bounds of places

small_product : (n : ℕ) → n ≤ 7 → n * (n - 1) ≤ 42
small_product zero le = omega arith
small_product (suc zero) le = omega arith
small_product (suc (suc zero)) le = omega arith
small_product (suc (suc (suc zero))) le = omega arith
small_product (suc (suc (suc (suc zero)))) le = omega arith
small_product (suc (suc (suc (suc (suc zero))))) le = omega arith
small_product (suc (suc (suc (suc (suc (suc zero)))))) le = omega arith
small_product (suc (suc (suc (suc (suc (suc (suc zero))))))) le = omega arith
small_product (suc (suc (suc (suc (suc (suc (suc (suc n)))))))) le = absurd (omega (arith, le))

small_volume : (n : ℕ) → n ≤ 7 → n * (n - 1) * (n - 2) ≤ 210
small_volume zero le = omega arith
small_volume (suc zero) le = omega arith
small_volume (suc (suc zero)) le = omega arith
small_volume (suc (suc (suc zero))) le = omega arith
small_volume (suc (suc (suc (suc zero)))) le = omega arith
small_volume (suc (suc (suc (suc (suc zero))))) le = omega arith
small_volume (suc (suc (suc (suc (suc (suc zero)))))) le = omega arith
small_volume (suc (suc (suc (suc (suc (suc (suc zero))))))) le = omega arith
small_volume (suc (suc (suc (suc (suc (suc (suc (suc n)))))))) le = absurd (omega (arith, le))

pub first_below : (members : ChannelSet) (y : PathValue) → is_set members ≡ true → is_path members y ≡ true →
    length y ≡ 1 → (rank members y < length members) × (length members ≤ 7)
first_below members y set path long =
    let sized : AreSized members = sizes members set in
    (subst (λ n. rank members y < n) sized.first (rank_within members y 1 set path long (omega arith)), sized.seven)

pub second_below : (members : ChannelSet) (y : PathValue) → is_set members ≡ true → is_path members y ≡ true →
    length y ≡ 2 → (rank members y < length members * (length members - 1)) × (rank members y < 42)
second_below members y set path long =
    let sized : AreSized members = sizes members set in
    let h : rank members y < length members * (length members - 1) =
    subst (λ n. rank members y < n) sized.second (rank_within members y 2 set path long (omega arith)) in
    let few = small_product (length members) sized.seven in
    (h, omega (arith, h, few))

pub third_below : (members : ChannelSet) (y : PathValue) → is_set members ≡ true → is_path members y ≡ true →
    length y ≡ 3 → rank members y < 210
third_below members y set path long =
    let sized : AreSized members = sizes members set in
    let h : rank members y < length members * (length members - 1) * (length members - 2) =
    subst (λ n. rank members y < n) sized.third (rank_within members y 3 set path long (omega arith)) in
    let few = small_volume (length members) sized.seven in
    omega (arith, h, few)

pub few_members : (members : ChannelSet) → is_set members ≡ true → length members ≤ 7
few_members members set = let sized : AreSized members = sizes members set in sized.seven

-- the place of a stored path
pub stored_at : (active shown : ChannelSet) (count place : ℕ) (path y : PathValue) → is_set active ≡ true →
    active ≡ shown → is_path shown path ≡ true → path ≡ y → length y ≡ count → count ≤ 3 → place ≡ rank active y →
    slice_get (paths shown count) place ≡ Some path
stored_at active shown count place path y set same is_one e long small at =
    let other : is_set shown ≡ true = subst (λ s. is_set s ≡ true) same set in
    ap (slice_get (paths shown count)) (at ∙ ap (λ s. rank s y) same)
    ∙ subst (λ n. slice_get (paths shown n) (rank shown y) ≡ Some y) long
    (path_at shown y other (subst (λ p. is_path shown p ≡ true) e is_one) (omega (arith, long, small)))
    ∙ ap (λ p. Some p) (sym e)

-- ---- the path that the holder goes on from

pub own_path : (members : ChannelSet) (me : Channel) (y : PathValue) → is_path members y ≡ true →
    has members me ≡ true → has y me ≡ false → is_path members (me ∷ y) ≡ true
unfolding is_distinct
own_path members me y path mine apart =
    let parts = both (is_distinct y) (list_all (has members) y) path in
    and_true (is_distinct (me ∷ y)) (list_all (has members) (me ∷ y))
    (and_true (not (has y me)) (is_distinct y) (ap not apart) parts.0)
    (and_true (has members me) (list_all (has members) y) mine parts.1)

unequal : (a b : ℕ) (e : Bool) → (a == b) ≡ e → (a ≡ b → ⊥) → (a == b) ≡ false
unequal a b true h ne = absurd (ne (eqb-true a b h))
unequal a b false h ne = h

pub apart_one : (a me : Channel) → (a ≡ me → ⊥) → has (a ∷ []) me ≡ false
apart_one a me ne = ap (λ b. b || false) (unequal a me (a == me) refl ne)

pub apart_two : (a b me : Channel) → (a ≡ me → ⊥) → (b ≡ me → ⊥) → has (b ∷ a ∷ []) me ≡ false
apart_two a b me ne other = ap (λ x. x || has (a ∷ []) me) (unequal b me (b == me) refl other) ∙ apart_one a me ne
