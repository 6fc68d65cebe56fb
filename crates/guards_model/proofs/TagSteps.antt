-- Tags that stand for a list of cycles plan, remain and close as the cycles say.
use Rattle.std.proofs.Common.{◌≡◌, ℕ, zero, suc, ◌<◌, ◌==◌, ◌⊎◌, inl, inr, Bool, true, false, not, ◌&&◌, ◌||◌, List, [], ◌∷◌, ◌++◌, refl, sym, ap, ◌∙◌, eq-eqb}
use Rattle.std.specs.Prelude.{filter, take, drop}
use Rattle.guards_model.specs.Channels.{has, numbers_below}
use Rattle.guards_model.specs.Transfers.{TransferCycle, remains, remaining_blocks, sweep_cursor, cyclic_from, planned_blocks}
use Rattle.guards_model.specs.Tags.{TagsValue, StandFor, blocks_in, tags_of, tags_written, tags_noted, tags_closed, plan_by_tags}
use Rattle.guards_model.proofs.Tables.{has-filter}
use Rattle.guards_model.proofs.TagLaw.{remains-step}
use Rattle.guards_model.proofs.NumbersBelow.{below_there}

or_right : (a b : Bool) → b ≡ true → (a || b) ≡ true
or_right true b h = refl
or_right false b h = h

or_left : (a b : Bool) → a ≡ true → (a || b) ≡ true
or_left true b h = refl
or_left false b h = absurd cc

or_cases : (a b : Bool) → (a || b) ≡ true → (a ≡ true) ⊎ (b ≡ true)
or_cases true b h = inl refl
or_cases false b h = inr h

and_with : (a b : Bool) → b ≡ true → (a && b) ≡ a
and_with true b h = h
and_with false b h = refl

-- two tests that agree on the members keep the same ones
pub filter_alike : (f g : ℕ → Bool) (xs : List ℕ) → ((b : ℕ) → has xs b ≡ true → f b ≡ g b) → filter f xs ≡ filter g xs
filter_alike f g [] alike = refl
filter_alike f g (x ∷ xs) alike =
    let here : f x ≡ g x = alike x (ap (λ s. s || has xs x) (eq-eqb x x refl)) in
    let rest : filter f xs ≡ filter g xs = filter_alike f g xs (λ b h. alike b (or_right (x == b) (has xs b) h)) in
    rw (here, rest) refl

filter_none : (xs : List ℕ) → filter (λ b. false) xs ≡ []
filter_none [] = refl
filter_none (x ∷ xs) = filter_none xs

-- a kept block passes the test
pub kept_test : (test : ℕ → Bool) (blocks b : ℕ) → has (numbers_below blocks) b ≡ true →
    has (filter test (numbers_below blocks)) b ≡ test b
kept_test test blocks b h =
    has-filter test (numbers_below blocks) b ∙ and_with (test b) (has (numbers_below blocks) b) h

pub has-blocks_in : (blocks : ℕ) (list : List ℕ) (b : ℕ) → has (numbers_below blocks) b ≡ true →
    has (blocks_in blocks list) b ≡ has list b
has-blocks_in blocks list b h = kept_test (has list) blocks b h

-- ---- blocks in cyclic order are blocks

in_drop : (k : ℕ) (xs : List ℕ) (b : ℕ) → has (drop k xs) b ≡ true → has xs b ≡ true
in_drop zero xs b h = h
in_drop (suc k) [] b h = h
in_drop (suc k) (x ∷ xs) b h = or_right (x == b) (has xs b) (in_drop k xs b h)

in_take : (k : ℕ) (xs : List ℕ) (b : ℕ) → has (take k xs) b ≡ true → has xs b ≡ true
in_take zero xs b h = absurd cc
in_take (suc k) [] b h = h
in_take (suc k) (x ∷ xs) b h =
    elim (or_cases (x == b) (has (take k xs) b) h) [
      | inl e ↦ or_left (x == b) (has xs b) e
      | inr e ↦ or_right (x == b) (has xs b) (in_take k xs b e)
    ]

in_append : (xs ys : List ℕ) (b : ℕ) → has (xs ++ ys) b ≡ true → (has xs b ≡ true) ⊎ (has ys b ≡ true)
in_append [] ys b h = inr h
in_append (x ∷ xs) ys b h =
    elim (or_cases (x == b) (has (xs ++ ys) b) h) [
      | inl e ↦ inl (or_left (x == b) (has xs b) e)
      | inr e ↦ elim (in_append xs ys b e) [ inl i ↦ inl (or_right (x == b) (has xs b) i) | inr i ↦ inr i ]
    ]

pub in_cycle : (blocks from b : ℕ) → has (cyclic_from blocks from) b ≡ true → has (numbers_below blocks) b ≡ true
in_cycle blocks from b h =
    elim (in_append (drop from (numbers_below blocks)) (take from (numbers_below blocks)) b h) [
      | inl i ↦ in_drop from (numbers_below blocks) b i
      | inr i ↦ in_take from (numbers_below blocks) b i
    ]

-- ---- the four calls

module _ (blocks : ℕ) (cycles : List TransferCycle) (written : List ℕ) where
  -- a block has its tag exactly where it remains
  pub tag_remains : (b : ℕ) → b < blocks → has (tags_of blocks cycles written).remaining b ≡ remains cycles b
  unfolding tags_of
  tag_remains b h = kept_test (remains cycles) blocks b (below_there blocks b h)

  pub tags_remain : (tags_of blocks cycles written).remaining ≡ remaining_blocks blocks cycles
  unfolding tags_of
  tags_remain = refl

  pub tags_plan : (sweep : ℕ) → plan_by_tags sweep (tags_of blocks cycles written) ≡ planned_blocks blocks sweep cycles
  unfolding tags_of plan_by_tags
  tags_plan sweep =
      ap (take sweep)
      (filter_alike (has (remaining_blocks blocks cycles)) (remains cycles)
      (cyclic_from blocks (sweep_cursor blocks cycles))
      (λ b h. kept_test (remains cycles) blocks b (in_cycle blocks (sweep_cursor blocks cycles) b h)))

  pub tags_write : (block : ℕ) →
      tags_written block (tags_of blocks cycles written) ≡ tags_of blocks cycles (block ∷ written)
  unfolding tags_of tags_written
  tags_write block =
      ap (λ list. record {
        blocks = blocks;
        remaining = remaining_blocks blocks cycles;
        cursor = sweep_cursor blocks cycles;
        written = list;
      })
      (filter_alike (has (block ∷ blocks_in blocks written)) (has (block ∷ written)) (numbers_below blocks)
      (λ b h. ap (λ t. (block == b) || t) (has-blocks_in blocks written b h)))

  pub tags_close : (planned : List ℕ) →
      tags_closed planned (tags_of blocks cycles written)
      ≡ tags_of blocks (record { planned = planned; written = written } ∷ cycles) []
  unfolding tags_of tags_closed
  tags_close planned =
      let e : TransferCycle = record { planned = planned; written = written } in
      let kept : (b : ℕ) → has (numbers_below blocks) b ≡ true →
      (has (blocks_in blocks written) b || (not (has planned b) && has (remaining_blocks blocks cycles) b))
      ≡ remains (e ∷ cycles) b
      = λ b h. ap (λ t. t || (not (has planned b) && has (remaining_blocks blocks cycles) b))
      (has-blocks_in blocks written b h)
      ∙ ap (λ t. has written b || (not (has planned b) && t)) (kept_test (remains cycles) blocks b h)
      ∙ sym (remains-step e cycles b)
      in
      ap (λ list. record { blocks = blocks; remaining = list; cursor = sweep_cursor blocks (e ∷ cycles); written = [] })
      (filter_alike (λ b. has (blocks_in blocks written) b
      || (not (has planned b) && has (remaining_blocks blocks cycles) b)) (remains (e ∷ cycles))
      (numbers_below blocks) kept)
      ∙ ap (λ list. record {
        blocks = blocks;
        remaining = remaining_blocks blocks (e ∷ cycles);
        cursor = sweep_cursor blocks (e ∷ cycles);
        written = list;
      })
      (sym (filter_none (numbers_below blocks)))

-- ---- tags that stand for a list of cycles

module _ (t : TagsValue) (cycles : List TransferCycle) (written : List ℕ) (stands : StandFor t cycles written) where
  pub stand_remain : t.remaining ≡ remaining_blocks t.blocks cycles
  stand_remain = ap (λ s. s.remaining) stands ∙ tags_remain t.blocks cycles written

  pub stand_at : (b : ℕ) → b < t.blocks → has t.remaining b ≡ remains cycles b
  stand_at b h = ap (λ s. has s.remaining b) stands ∙ tag_remains t.blocks cycles written b h

  pub stand_plan : (sweep : ℕ) → plan_by_tags sweep t ≡ planned_blocks t.blocks sweep cycles
  stand_plan sweep = ap (plan_by_tags sweep) stands ∙ tags_plan t.blocks cycles written sweep

  pub stand_written : (block : ℕ) → tags_written block t ≡ tags_of t.blocks cycles (block ∷ written)
  stand_written block = ap (tags_written block) stands ∙ tags_write t.blocks cycles written block

  pub stand_closed : (planned : List ℕ) →
      tags_closed planned t ≡ tags_of t.blocks (record { planned = planned; written = written } ∷ cycles) []
  stand_closed planned = ap (tags_closed planned) stands ∙ tags_close t.blocks cycles written planned

-- writes to all blocks of a list, after none
pub stand_noted : (t : TagsValue) (cycles : List TransferCycle) (list : List ℕ) → StandFor t cycles [] →
    tags_noted list t ≡ tags_of t.blocks cycles list
unfolding tags_of tags_noted
stand_noted t cycles list stands =
    let with_written : List ℕ → TagsValue
    = λ ws. record {
      blocks = t.blocks;
      remaining = remaining_blocks t.blocks cycles;
      cursor = sweep_cursor t.blocks cycles;
      written = ws;
    } in
    ap (tags_noted list) stands
    ∙ ap with_written
    (filter_alike (λ b. has list b || has (blocks_in t.blocks []) b) (has list) (numbers_below t.blocks)
    (λ b h. ap (λ w. has list b || w) (has-blocks_in t.blocks [] b h) ∙ or_false (has list b)))
  where
    or_false : (b : Bool) → (b || false) ≡ b
    or_false true = refl
    or_false false = refl

-- all blocks remain at the start
pub stand_all : (blocks : ℕ) → StandFor (tags_of blocks [] []) [] []
unfolding tags_of
stand_all blocks = refl
