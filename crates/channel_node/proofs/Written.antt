-- The set of the blocks that are written closes a cycle as the list of them does.
use Rattle.std.proofs.Common.{◌≡◌, length, ℕ, zero, suc, ◌+◌, ◌<◌, ◌≤◌, ◌==◌, ◌⊎◌, inl, inr, Bool, true, false, ◌||◌, List, Option, Some, None, refl, ap, ◌∙◌, arith}
use Rattle.std.specs.List.{range_with_len}
use Rattle.std.proofs.lemmas.Bool.{eqb-true}
use Rattle.context_blocks.specs.BlockSets.{blocks_where, numbers_where}
use Rattle.guards_model.specs.Channels.{has, numbers_below}
use Rattle.guards_model.specs.Tags.{TagsValue, tags_noted}
use Rattle.guards_model.specs.Controls.{SweepingValue, ControlValue, ClosedValue, sweeping_after, control_closed, closed_by}
use Rattle.guards_model.proofs.NumbersBelow.{below_there}
use Rattle.guards_model.proofs.TagSteps.{filter_alike, kept_test}
use Rattle.guards_model.specs.Missions.{RulesValue}
use Rattle.guards_nodes.specs.NodeStates.{DecidedValue, RunningValue}
use Rattle.guards_nodes.specs.NodeSteps.{plan_in, after_close}
use Rattle.channel_node.specs.Fits.{tags_fit}

or_cases : (a b : Bool) → (a || b) ≡ true → (a ≡ true) ⊎ (b ≡ true)
or_cases true b h = inl refl
or_cases false b h = inr h

there_below : (a n b : ℕ) → has (range_with_len a n) b ≡ true → b < a + n
there_below a zero b h = absurd cc
there_below a (suc n) b h =
    elim (or_cases (a == b) (has (range_with_len (a + 1) n) b) h) [
      | inl e ↦ let same : a ≡ b = eqb-true a b e in omega (arith, same)
      | inr e ↦ let low : b < a + 1 + n = there_below (a + 1) n b e in omega (arith, low)
    ]

in_set : (ws : List ℕ) (n b : ℕ) → n ≤ 256 → has (numbers_below n) b ≡ true → has (blocks_where (has ws)) b ≡ has ws b
unfolding numbers_where
in_set ws n b few h =
    let low : b < 0 + n = there_below 0 n b h in
    kept_test (has ws) 256 b (below_there 256 b (omega (arith, low)))

noted_alike : (ws written : List ℕ) (tags : TagsValue) → written ≡ blocks_where (has ws) → tags.blocks ≤ 256 →
    tags_noted written tags ≡ tags_noted ws tags
unfolding tags_noted
noted_alike ws written tags same few =
    ap (λ xs. record { blocks = tags.blocks; remaining = tags.remaining; cursor = tags.cursor; written = xs })
    (filter_alike (λ b. has written b || has tags.written b) (λ b. has ws b || has tags.written b)
    (numbers_below tags.blocks)
    (λ b h. ap (λ x. x || has tags.written b) (ap (λ xs. has xs b) same ∙ in_set ws tags.blocks b few h)))

after_alike : (planned ws written : List ℕ) (blocks : ℕ) (s : Option SweepingValue) → written ≡ blocks_where (has ws) →
    blocks ≤ 256 → tags_fit blocks s ≡ true →
    sweeping_after planned written s ≡ sweeping_after planned ws s
after_alike planned ws written blocks None same few h = refl
after_alike planned ws written blocks (Some s) same few h =
    let fit : s.tags.blocks ≡ blocks = eqb-true s.tags.blocks blocks h in
    rw (noted_alike ws written s.tags same (omega (arith, fit))) refl

pub close_alike : (last : ℕ) (removed planned ws written : List ℕ) (blocks : ℕ) (k : ControlValue) →
    written ≡ blocks_where (has ws) → blocks ≤ 256 → tags_fit blocks k.sweeping ≡ true →
    control_closed last removed planned written k ≡ control_closed last removed planned ws k
unfolding control_closed
close_alike last removed planned ws written blocks k same few h =
    rw (after_alike planned ws written blocks k.sweeping same few h) refl

pub answer_alike : (last : ℕ) (planned ws written : List ℕ) (blocks : ℕ) (k : ControlValue) →
    written ≡ blocks_where (has ws) → blocks ≤ 256 → tags_fit blocks k.sweeping ≡ true →
    closed_by last planned written k ≡ closed_by last planned ws k
unfolding closed_by
answer_alike last planned ws written blocks k same few h =
    rw (after_alike planned ws written blocks k.sweeping same few h) refl

pub after_close_alike : (rules : RulesValue) (ws written : List ℕ) (d : DecidedValue) (r : RunningValue) →
    written ≡ blocks_where (has ws) →
    length r.context ≤ 256 → tags_fit (length r.context) r.control.sweeping ≡ true →
    after_close rules written d r ≡ after_close rules ws d r
after_close_alike rules ws written d r same few h =
    rw (
      close_alike rules.last d.removed (plan_in rules r.held) ws written (length r.context) r.control same few h,
      answer_alike rules.last (plan_in rules r.held) ws written (length r.context) r.control same few h,
    ) refl

-- an answer by its parts
pub answered : (a b : ClosedValue) → a.joined ≡ b.joined → a.start ≡ b.start → a.remaining ≡ b.remaining →
    a.rest ≡ b.rest → a ≡ b
answered a b joined start remaining rest = rw (joined, start, remaining, rest) refl
