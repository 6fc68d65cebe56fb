-- How the parts of a running channel stay fit for one another.
use Rattle.std.proofs.Common.{◌≡◌, ℕ, zero, suc, ℤ, pos, ◌-◌, ◌++◌, take, drop, replicate, ◌+◌, ◌<◌, ◌≤◌, ◌==◌, Bool, true, false, not, ◌&&◌, ◌||◌, List, [], ◌∷◌, length, set, Option, Some, None, refl, ap, sym, ◌∙◌, arith}
use Rattle.std.specs.Prelude.{nat_lt, nat_le, slice_index_or, All, filter, if◌then◌else◌}
use Rattle.std.specs.List.{list_all, range_with_len}
use Rattle.std.proofs.lemmas.List.{take-append-drop, length-take-le}
use Rattle.std.proofs.lemmas.Bool.{eqb-true, leb-true, le-leb}
use Rattle.guards_model.specs.Channels.{ChannelSet, has}
use Rattle.guards_model.specs.Decisions.{DecisionValue}
use Rattle.guards_model.specs.Missions.{RulesValue}
use Rattle.guards_model.specs.Transfers.{TransferValue}
use Rattle.guards_model.specs.Tags.{tags_of, tags_noted, tags_closed}
use Rattle.guards_model.specs.Controls.{SweepingValue, ControlValue, sweeping_for, tags_for, control_decided, sweeping_after, goes_on, joined_by, blocks_remaining, rest_if_joined, control_closed, closed_by}
use Rattle.channel_node.specs.Fits.{tags_fit, rest_fits, are_codes}

-- ---- codes

both_true : (a b : Bool) → a ≡ true → b ≡ true → (a && b) ≡ true
both_true a b h k = ap (λ x. x && b) h ∙ k

first : (a b : Bool) → (a && b) ≡ true → a ≡ true
first true b h = refl
first false b h = absurd cc

second : (a b : Bool) → (a && b) ≡ true → b ≡ true
second true b h = h
second false b h = absurd cc

pub set_code : (codes : List ℕ) (at code : ℕ) → are_codes codes ≡ true → code ≤ 2 → are_codes (set codes at code) ≡ true
set_code [] at code h small = refl
set_code (x ∷ codes) zero code h small =
    both_true (nat_le code 2) (are_codes codes) (le-leb code 2 small) (second (nat_le x 2) (are_codes codes) h)
set_code (x ∷ codes) (suc at) code h small =
    both_true (nat_le x 2) (are_codes (set codes at code)) (first (nat_le x 2) (are_codes codes) h)
    (set_code codes at code (second (nat_le x 2) (are_codes codes) h) small)

-- ---- the decision

same_is : (a b : ℕ) → a ≡ b → (a == b) ≡ true
same_is a b e = grind (arith, e)

either : (starts : Bool) (blocks b : ℕ) (s : SweepingValue) → b ≡ blocks → (s.tags.blocks == b) ≡ true →
    ((if starts then tags_of blocks [] [] else s.tags).blocks == b) ≡ true
unfolding tags_of
either true blocks b s same h = same_is blocks b (sym same)
either false blocks b s same h = h

tags_for_fit : (blocks c b : ℕ) (s : Option SweepingValue) (t : TransferValue) → b ≡ blocks → tags_fit b s ≡ true →
    ((tags_for blocks c s t).blocks == b) ≡ true
unfolding tags_of
tags_for_fit blocks c b None t same h = same_is blocks b (sym same)
tags_for_fit blocks c b (Some s) t same h = either (t.start == c) blocks b s same h

for_fit : (blocks c b : ℕ) (s : Option SweepingValue) (t : Option TransferValue) → b ≡ blocks → tags_fit b s ≡ true →
    tags_fit b (sweeping_for blocks c s t) ≡ true
for_fit blocks c b s None same h = refl
for_fit blocks c b s (Some t) same h = tags_for_fit blocks c b s t same h

pub decided_fit : (rules : RulesValue) (c b : ℕ) (k : ControlValue) (d : DecisionValue) → b ≡ rules.blocks →
    tags_fit b k.sweeping ≡ true →
    tags_fit b (control_decided rules c k d).sweeping ≡ true
unfolding control_decided
decided_fit rules c b k d same h = for_fit rules.blocks c b k.sweeping d.transfer same h

-- ---- the close

after_fit : (planned written : List ℕ) (b : ℕ) (s : Option SweepingValue) → tags_fit b s ≡ true →
    tags_fit b (sweeping_after planned written s) ≡ true
unfolding tags_closed tags_noted
after_fit planned written b None h = refl
after_fit planned written b (Some s) h = h

goes_fit : (joined : ChannelSet) (b : ℕ) (s : Option SweepingValue) → tags_fit b s ≡ true →
    tags_fit b (goes_on joined s) ≡ true
goes_fit [] b s h = h
goes_fit (q ∷ joined) b s h = refl

pub closed_fit : (last : ℕ) (removed planned written : List ℕ) (b : ℕ) (k : ControlValue) →
    tags_fit b k.sweeping ≡ true →
    tags_fit b (control_closed last removed planned written k).sweeping ≡ true
unfolding control_closed
closed_fit last removed planned written b k h =
    goes_fit (joined_by last (sweeping_after planned written k.sweeping)) b (sweeping_after planned written k.sweeping)
    (after_fit planned written b k.sweeping h)

-- numbers from a place on, of which some are kept, stay below the end
kept_next : (p : ℕ → Bool) (a n end : ℕ) (here : Bool) → p a ≡ here → a < end →
    list_all (λ b. nat_lt b end) (filter p (range_with_len (a + 1) n)) ≡ true →
    list_all (λ b. nat_lt b end) (filter p (a ∷ range_with_len (a + 1) n)) ≡ true
kept_next p a n end true e h rest =
    rw e (both_true (nat_lt a end) (list_all (λ b. nat_lt b end) (filter p (range_with_len (a + 1) n)))
    (le-leb (suc a) end (omega (arith, h))) rest)
kept_next p a n end false e h rest = rw e rest

kept_below : (p : ℕ → Bool) (a n end : ℕ) → a + n ≤ end →
    list_all (λ b. nat_lt b end) (filter p (range_with_len a n)) ≡ true
kept_below p a zero end h = refl
kept_below p a (suc n) end h =
    kept_next p a n end (p a) refl (grind (arith, h)) (kept_below p (a + 1) n end (omega (arith, h)))

remaining_below : (planned written : List ℕ) (b : ℕ) (s : Option SweepingValue) → tags_fit b s ≡ true →
    list_all (λ x. nat_lt x b) (blocks_remaining (sweeping_after planned written s)) ≡ true
unfolding tags_closed tags_noted
remaining_below planned written b None h = refl
remaining_below planned written b (Some s) h =
    let same : s.tags.blocks ≡ b = eqb-true s.tags.blocks b h in
    kept_below (λ x. has (tags_noted written s.tags).written x || (not (has planned x) && has s.tags.remaining x)) 0
    s.tags.blocks b (omega (arith, same))

rest_below : (joined : ChannelSet) (b : ℕ) (s : Option SweepingValue) →
    list_all (λ x. nat_lt x b) (blocks_remaining s) ≡ true →
    list_all (λ x. nat_lt x b) (rest_if_joined joined s) ≡ true
rest_below [] b s h = refl
rest_below (q ∷ joined) b s h = h

pub closed_rest : (last : ℕ) (planned written : List ℕ) (b : ℕ) (k : ControlValue) → tags_fit b k.sweeping ≡ true →
    rest_fits b (Some (closed_by last planned written k)) ≡ true
unfolding closed_by
closed_rest last planned written b k h =
    rest_below (joined_by last (sweeping_after planned written k.sweeping)) b
    (sweeping_after planned written k.sweeping)
    (remaining_below planned written b k.sweeping h)

at_place : (b x : ℕ) (xs : List ℕ) → suc x ≤ b → All (λ y. y < b) xs → (k d : ℕ) → k < length (x ∷ xs) →
    slice_index_or (x ∷ xs) k d < b
at_place b x xs here rest zero d low = omega (arith, here)
at_place b x xs here rest (suc k) d low = rest k d (omega (arith, low))

-- the blocks that a test passes are below
pub all_below : (b : ℕ) (xs : List ℕ) → list_all (λ x. nat_lt x b) xs ≡ true → All (λ x. x < b) xs
all_below b [] h = λ k d low. absurd (omega (arith, low))
all_below b (x ∷ xs) h =
    λ k d low. at_place b x xs (leb-true (suc x) b (first (nat_lt x b) (list_all (λ y. nat_lt y b) xs) h))
    (all_below b xs (second (nat_lt x b) (list_all (λ y. nat_lt y b) xs) h)) k d low

-- ---- the inputs

-- words past the width are 0
pub padded_inputs : (width : ℕ) (inputs : List ℤ) → width ≤ 4 → length inputs ≡ 4 →
    drop width inputs ≡ replicate (4 - width) (pos 0) →
    inputs ≡ take width inputs ++ replicate (4 - length (take width inputs)) (pos 0)
padded_inputs width inputs narrow four rest =
    let long : length (take width inputs) ≡ width = length-take-le width inputs (omega (arith, four)) in
    sym (take-append-drop width inputs)
    ∙ ap (λ zeros. take width inputs ++ zeros) (rest ∙ ap (λ n. replicate (4 - n) (pos 0)) (sym long))
