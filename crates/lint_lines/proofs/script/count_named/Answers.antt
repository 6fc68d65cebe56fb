use Rattle.std.proofs.Common.{◌≡◌, ◌≤◌, ◌∙◌, Bool, true, false, cond, length, filter, refl, ap, arith}
use Rattle.guards_model.specs.Channels.{numbers_below}
use Rattle.lint_lines.specs.ScriptLines.{is_named}
use Rattle.lint_lines.proofs.LineSteps.{count_more}
use Rattle.lint_lines.proofs.script.count_named.Goals as goal

at_most_one : (b : Bool) → cond b 1 0 ≤ 1
at_most_one true = omega arith
at_most_one false = omega arith

pub loop-channel-init : goal.loop-channel-init
loop-channel-init c = record { within = omega arith; count = refl; few = omega arith }

pub loop-channel-preserved : goal.loop-channel-preserved
loop-channel-preserved c =
    let one : c.one_if-count.result ≡ cond (is_named c.args.script.now c.args.cycle c.loop-channel.channel) 1 0 =
    c.one_if-count.ensures ∙ ap (λ b. cond b 1 0) c.is_named.ensures in
    let small = at_most_one (is_named c.args.script.now c.args.cycle c.loop-channel.channel) in
    record {
      within = omega (arith, c.loop-channel-test.true);
      count = count_more (is_named c.args.script.now c.args.cycle) c.loop-channel.channel c.loop-channel.count
          c.one_if-count.result c.loop-channel.invariant.count one;
      few = omega (arith, c.loop-channel.invariant.few, one, small);
    }

pub returns-clause-count : goal.returns-clause-count
returns-clause-count c =
    let end : c.loop-channel.channel ≡ c.args.channels =
    omega (arith, c.loop-channel-test.false, c.loop-channel.invariant.within) in
    c.loop-channel.invariant.count
    ∙ ap (λ n. length (filter (is_named c.args.script.now c.args.cycle) (numbers_below n))) end
