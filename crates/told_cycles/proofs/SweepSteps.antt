-- What is kept of a transfer's cycles, cycle by cycle.
use Rattle.std.proofs.Common.{◌≡◌, ℕ, zero, suc, ◌+◌, ◌-◌, ◌<◌, ◌≤◌, Bool, true, false, cond, not, ◌&&◌, ◌||◌, List, [], ◌∷◌, ◌++◌, length, Option, None, Some, refl, sym, ap, subst, ◌∙◌, arith, get_or, set, take, length-append, get_or-set_other, get_or-set_same, eq-eqb}
use Rattle.std.specs.Prelude.{◌==◌, nat_le, nat_lt, filter, slice_index_or, replicate}
use Rattle.std.specs.List.{range_with_len, last_or, list_any}
use Rattle.std.proofs.lemmas.Bool.{leb-true, le-leb, eqb-true}
use Rattle.std.proofs.lemmas.List.Folds.{list_any-append}
use Rattle.std.proofs.Math.Seq.{take-suc}
use Rattle.std.proofs.lemmas.List.{get_or-replicate}
use Rattle.guards_model.specs.Channels.{has, numbers_below}
use Rattle.guards_model.specs.Transfers.{TransferCycle, remains, remaining_blocks, planned_blocks, cyclic_from, cursor_after, sweep_cursor}
use Rattle.guards_model.proofs.TagLaw.{remains-step}
use Rattle.guards_model.proofs.TagSteps.{filter_alike, in_cycle}
use Rattle.dirty_tags.specs.Marks.{marked}
use Rattle.dirty_tags.proofs.MarkSteps.{filter_range_more}
use Rattle.dirty_tags.proofs.MarkedLists.{below_of, has-marked, cyclic_plan}
use Rattle.told_cycles.specs.Sweeping.{SweepsFor, is_before, is_flagged, remains_by}
use Rattle.told_cycles.specs.declared.sweeps.Sweeps.{Sweeps}

-- ---- one block

le_not : (a b : ℕ) → nat_lt b a ≡ true → nat_le a b ≡ false
le_not a b h = by_test (nat_le a b) refl
  where
    by_test : (s : Bool) → nat_le a b ≡ s → s ≡ false
    by_test false e = refl
    by_test true e = absurd (omega (arith, leb-true a b e, leb-true (suc b) a h))

pub remains_closed : (next : ℕ) (planned wrote before : Bool) (p w : Option ℕ) → remains_by p w ≡ before →
    is_before next p ≡ true → is_before next w ≡ true →
    remains_by (cond planned (Some next) p) (cond wrote (Some next) w) ≡ (wrote || (not planned && before))
remains_closed next true true before p w e low under = le-leb next next (omega arith)
remains_closed next true false before p None e low under = refl
remains_closed next true false before p (Some x) e low under = le_not next x under
remains_closed next false true before None w e low under = refl
remains_closed next false true before (Some x) w e low under = le-leb x next (omega (arith, leb-true (suc x) next low))
remains_closed next false false before p w e low under = e

pub before_closed : (next : ℕ) (now : Bool) (o : Option ℕ) → is_before next o ≡ true →
    is_before (next + 1) (cond now (Some next) o) ≡ true
before_closed next true o h = le-leb (suc next) (next + 1) (omega arith)
before_closed next false None h = refl
before_closed next false (Some x) h = le-leb (suc x) (next + 1) (omega (arith, leb-true (suc x) next h))

-- ---- all blocks

pub remaining_are : (s : Sweeps) (flags : List Bool) (next : ℕ) (cycles : List TransferCycle) →
    SweepsFor s.blocks next cycles s →
    ((b : ℕ) → b < 256 → is_flagged flags b
    ≡ remains_by (slice_index_or s.planned b None) (slice_index_or s.written b None)) →
    filter (is_flagged flags) (range_with_len 0 s.blocks) ≡ remaining_blocks s.blocks cycles
remaining_are s flags next cycles h alike =
    filter_alike (is_flagged flags) (remains cycles) (numbers_below s.blocks)
    (λ b there. let low : b < 256 = omega (arith, below_of s.blocks b there, h.few) in alike b low ∙ h.each b low)

pub plan_is : (s : Sweeps) (flags : List Bool) (sweep next : ℕ) (cycles : List TransferCycle) (plan : List ℕ) →
    SweepsFor s.blocks next cycles s →
    ((b : ℕ) → b < 256 → is_flagged flags b
    ≡ remains_by (slice_index_or s.planned b None) (slice_index_or s.written b None)) →
    plan ≡ take sweep (take sweep (filter (is_flagged flags) (range_with_len s.cursor (s.blocks - s.cursor)))
    ++ filter (is_flagged flags) (range_with_len 0 (s.cursor - 0))) →
    plan ≡ planned_blocks s.blocks sweep cycles
plan_is s flags sweep next cycles plan h alike e =
    e ∙ cyclic_plan s.blocks s.cursor sweep flags h.low
    ∙ ap (take sweep)
    (filter_alike (has (marked s.blocks flags)) (remains cycles) (cyclic_from s.blocks s.cursor)
    (λ b there.
    let under : b < s.blocks = below_of s.blocks b (in_cycle s.blocks s.cursor b there) in
    let low : b < 256 = omega (arith, h.few) in
    has-marked s.blocks flags b under ∙ alike b low ∙ h.each b low))
    ∙ ap (λ from. take sweep (filter (remains cycles) (cyclic_from s.blocks from))) h.cursor

pub cursor_low : (blocks cursor : ℕ) (last : Option ℕ) → 1 ≤ blocks → cursor < blocks →
    cursor_after blocks cursor last < blocks
cursor_low blocks cursor None some low = low
cursor_low blocks cursor (Some b) some low = omega arith

pub none_kept : (s : Sweeps) (blocks next : ℕ) → s.blocks ≡ blocks → 1 ≤ blocks → blocks ≤ 256 →
    s.planned ≡ replicate 256 None → s.written ≡ replicate 256 None → s.cursor ≡ 0 → SweepsFor blocks next [] s
none_kept s blocks next size some few planned written cursor =
    record {
      size = size;
      some = some;
      few = few;
      low = omega (arith, cursor);
      each = λ b low. ap (λ o. remains_by o (slice_index_or s.written b None)) (is_none s.planned planned b low);
      planned = λ b low. ap (is_before next) (is_none s.planned planned b low);
      written = λ b low. ap (is_before next) (is_none s.written written b low);
      cursor = cursor;
    }
  where
    is_none : (table : List (Option ℕ)) → table ≡ replicate 256 None → (b : ℕ) → b < 256 →
        slice_index_or table b None ≡ None
    is_none table e b low = ap (λ t. slice_index_or t b None) e ∙ get_or-replicate 256 b None None low

pub kept_closed : (s t : Sweeps) (cycle : ℕ) (plan list wrote : List ℕ) (cycles : List TransferCycle) →
    SweepsFor s.blocks cycle cycles s → t.blocks ≡ s.blocks →
    ((b : ℕ) → b < 256 → slice_index_or t.planned b None
    ≡ cond (has plan b) (Some cycle) (slice_index_or s.planned b None)) →
    ((b : ℕ) → b < 256 → slice_index_or t.written b None
    ≡ cond (has wrote b) (Some cycle) (slice_index_or s.written b None)) →
    ((b : ℕ) → b < 256 → has wrote b ≡ has list b) → t.cursor ≡ cursor_after s.blocks s.cursor (last_or None plan) →
    SweepsFor s.blocks (cycle + 1) (record { planned = plan; written = list } ∷ cycles) t
kept_closed s t cycle plan list wrote cycles h size planned written same cursor =
    record {
      size = size;
      some = h.some;
      few = h.few;
      low = subst (λ n. n < s.blocks) (sym cursor) (cursor_low s.blocks s.cursor (last_or None plan) h.some h.low);
      each = λ b low.
          (λ i. remains_by (planned b low i) (written b low i))
          ∙ remains_closed cycle (has plan b) (has wrote b) (remains cycles b) (slice_index_or s.planned b None)
          (slice_index_or s.written b None) (h.each b low) (h.planned b low) (h.written b low)
          ∙ ap (λ w. w || (not (has plan b) && remains cycles b)) (same b low)
          ∙ sym (remains-step (record { planned = plan; written = list }) cycles b);
      planned = λ b low. ap (is_before (cycle + 1)) (planned b low)
          ∙ before_closed cycle (has plan b) (slice_index_or s.planned b None) (h.planned b low);
      written = λ b low. ap (is_before (cycle + 1)) (written b low)
          ∙ before_closed cycle (has wrote b) (slice_index_or s.written b None) (h.written b low);
      cursor = cursor ∙ ap (λ k. cursor_after s.blocks k (last_or None plan)) h.cursor;
    }

-- ---- the steps of the loops

pub count_more : (flags : List Bool) (n : ℕ) (here : Bool) → is_flagged flags n ≡ here →
    length (filter (is_flagged flags) (range_with_len 0 (n + 1)))
    ≡ length (filter (is_flagged flags) (range_with_len 0 n)) + cond here 1 0
count_more flags n here h =
    let more : n + 1 ≡ suc n = omega arith in
    ap (λ k. length (filter (is_flagged flags) (range_with_len 0 k))) more
    ∙ ap length (filter_range_more (is_flagged flags) 0 n n (omega arith))
    ∙ length-append (filter (is_flagged flags) (range_with_len 0 n)) (cond (is_flagged flags n) (n ∷ []) [])
    ∙ ap (λ b. length (filter (is_flagged flags) (range_with_len 0 n)) + length (cond b (n ∷ []) [])) h
    ∙ by_here here
  where
    by_here : (b : Bool) → length (filter (is_flagged flags) (range_with_len 0 n)) + length (cond b (n ∷ []) [])
        ≡ length (filter (is_flagged flags) (range_with_len 0 n)) + cond b 1 0
    by_here true = refl
    by_here false = refl

has_more : (plan : List ℕ) (k b : ℕ) → k < length plan →
    has (take (k + 1) plan) b ≡ (has (take k plan) b || (get_or plan k 0 == b))
has_more plan k b low =
    let more : k + 1 ≡ suc k = omega arith in
    ap (λ n. has (take n plan) b) more ∙ ap (λ xs. has xs b) (take-suc plan k 0 low)
    ∙ list_any-append (λ p. p == b) (take k plan) (get_or plan k 0 ∷ []) ∙ last (get_or plan k 0 == b)
  where
    last : (s : Bool) → (has (take k plan) b || (s || false)) ≡ (has (take k plan) b || s)
    last true = refl
    last false = refl

noted_by : (table : List (Option ℕ)) (x b cycle : ℕ) (before : Option ℕ) (was same : Bool) → (x == b) ≡ same →
    x < length table → get_or table b None ≡ cond was (Some cycle) before →
    get_or (set table x (Some cycle)) b None ≡ cond (was || same) (Some cycle) before
noted_by table x b cycle before was true e low h =
    let here : x ≡ b = eqb-true x b e in
    ap (λ n. get_or (set table x (Some cycle)) n None) (sym here) ∙ get_or-set_same table x (Some cycle) None low
    ∙ yes was
  where
    yes : (s : Bool) → Some cycle ≡ cond (s || true) (Some cycle) before
    yes true = refl
    yes false = refl
noted_by table x b cycle before was false e low h =
    get_or-set_other table x b (Some cycle) None (λ same. differ (sym (eq-eqb x b (sym same)) ∙ e)) ∙ h ∙ as_was was
  where
    differ : true ≡ false → ⊥
    differ k = cc

    as_was : (s : Bool) → cond s (Some cycle) before ≡ cond (s || false) (Some cycle) before
    as_was true = refl
    as_was false = refl

-- one more planned block is noted
pub noted_more : (table : List (Option ℕ)) (plan : List ℕ) (k x b cycle : ℕ) (before : Option ℕ) → k < length plan →
    x ≡ get_or plan k 0 → x < length table →
    get_or table b None ≡ cond (has (take k plan) b) (Some cycle) before →
    get_or (set table x (Some cycle)) b None ≡ cond (has (take (k + 1) plan) b) (Some cycle) before
noted_more table plan k x b cycle before low is there h =
    noted_by table x b cycle before (has (take k plan) b) (get_or plan k 0 == b) (ap (λ n. n == b) is) there h
    ∙ ap (λ s. cond s (Some cycle) before) (sym (has_more plan k b low))

-- ---- with the number of blocks that they have

pub at_size : (s : Sweeps) (blocks next : ℕ) (cycles : List TransferCycle) → SweepsFor blocks next cycles s →
    SweepsFor s.blocks next cycles s
at_size s blocks next cycles h = subst (λ b. SweepsFor b next cycles s) (sym h.size) h

pub kept_closed_at : (s t : Sweeps) (blocks cycle : ℕ) (plan list wrote : List ℕ) (cycles : List TransferCycle) →
    SweepsFor blocks cycle cycles s → t.blocks ≡ s.blocks →
    ((b : ℕ) → b < 256 → slice_index_or t.planned b None
    ≡ cond (has plan b) (Some cycle) (slice_index_or s.planned b None)) →
    ((b : ℕ) → b < 256 → slice_index_or t.written b None
    ≡ cond (has wrote b) (Some cycle) (slice_index_or s.written b None)) →
    ((b : ℕ) → b < 256 → has wrote b ≡ has list b) → t.cursor ≡ cursor_after s.blocks s.cursor (last_or None plan) →
    SweepsFor blocks (cycle + 1) (record { planned = plan; written = list } ∷ cycles) t
kept_closed_at s t blocks cycle plan list wrote cycles h size planned written same cursor =
    subst (λ b. SweepsFor b (cycle + 1) (record { planned = plan; written = list } ∷ cycles) t) h.size
    (kept_closed s t cycle plan list wrote cycles (at_size s blocks cycle cycles h) size planned written same cursor)
