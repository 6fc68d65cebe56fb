use Rattle.std.proofs.Common.{◌≤◌, ◌<◌, ◌+◌, ◌∙◌, [], length, sym, ap, arith}
use Rattle.std.proofs.lemmas.Bool.{le-leb}
use Rattle.guards_model.specs.Tags.{StandFor, tags_of}
use Rattle.recovery_laws.specs.Lengths.{fits_after, transfer_cycles, transfer_length}
use Rattle.mission_lint.proofs.FirstNumber.{found_next, found_none, le_false}
use Rattle.mission_lint.proofs.Length.{fits_is, none_more, one_longer}
use Rattle.mission_lint.proofs.transfer.transfer_length.Goals as goal

pub loop-before-init : goal.loop-before-init
loop-before-init c =
    record {
      within = omega arith;
      blocks = c.all-tags.ensures.blocks ∙ c.blocks_of.ensures.value;
      stands = c.all-tags.ensures.tags ∙ ap (λ b. tags_of b [] []) (sym c.all-tags.ensures.blocks);
      unfit = λ j low high. absurd (omega (arith, low, high));
    }

pub loop-before-preserved : goal.loop-before-preserved
loop-before-preserved c =
    let M = c.args.mission.now in
    let row = c.args.row in
    let n = c.loop-before.before in
    let new = c.pass_cycle-remaining.new.tags in
    let inv = c.loop-before.invariant in
    let blocks = c.pass_cycle-remaining.ensures.blocks ∙ inv.blocks in
    let stands : StandFor new (transfer_cycles M row (n + 1)) [] =
    one_longer M row n new (c.from.result + n) (ap (λ k. k + n) c.from.ensures)
    (c.pass_cycle-remaining.ensures.stands (transfer_cycles M row n) inv.stands) in
    let more : M.rules.last < length new.remaining =
    omega (
      arith,
      c.if-remaining-last.false,
      c.pass_cycle-remaining.ensures.remaining,
      c.from-last.ensures,
      c.last_of.ensures,
    ) in
    record {
      within = omega (arith, c.loop-before-test.true);
      blocks = blocks;
      stands = stands;
      unfit = none_more (fits_after M row) n inv.unfit
          (fits_is M row n new blocks stands ∙ le_false (length new.remaining) M.rules.last more);
    }

pub returns-then-remaining-last : goal.returns-then-remaining-last
unfolding transfer_length
returns-then-remaining-last c =
    let M = c.args.mission.now in
    let row = c.args.row in
    let n = c.loop-before.before in
    let new = c.pass_cycle-remaining.new.tags in
    let inv = c.loop-before.invariant in
    let blocks = c.pass_cycle-remaining.ensures.blocks ∙ inv.blocks in
    let stands : StandFor new (transfer_cycles M row (n + 1)) [] =
    one_longer M row n new (c.from.result + n) (ap (λ k. k + n) c.from.ensures)
    (c.pass_cycle-remaining.ensures.stands (transfer_cycles M row n) inv.stands) in
    let fit : length new.remaining ≤ M.rules.last =
    omega (
      arith,
      c.if-remaining-last.true,
      c.pass_cycle-remaining.ensures.remaining,
      c.from-last.ensures,
      c.last_of.ensures,
    ) in
    found_next (fits_after M row) n inv.unfit c.loop-before-test.true
    (fits_is M row n new blocks stands ∙ le-leb (length new.remaining) M.rules.last fit)

pub returns : goal.returns
unfolding transfer_length
returns c =
    found_none (fits_after c.args.mission.now c.args.row) c.loop-before.before c.loop-before.invariant.unfit
    (omega (arith, c.loop-before-test.false, c.loop-before.invariant.within))
