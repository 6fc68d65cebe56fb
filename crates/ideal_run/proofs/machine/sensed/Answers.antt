use Rattle.std.proofs.Common.{◌≡◌, map, ap, sym, ◌∙◌, arith}
use Rattle.std.proofs.lemmas.List.{length-set, take_all}
use Rattle.guards_model.specs.Channels.{by_channel, numbers_below}
use Rattle.guards_runs.specs.IdealMachine.{sensed_at}
use Rattle.ideal_run.proofs.Shown.{table_more}
use Rattle.ideal_run.proofs.machine.sensed.Goals as goal

pub loop-number-preserved : goal.loop-number-preserved
loop-number-preserved c =
    let seven = c.loop-number.invariant.seven in
    record {
      filled = table_more (sensed_at c.args.mission.now c.args.cycle) c.loop-number.words c.loop-number.number
          c.word_at.result (omega arith) c.word_at.ensures c.loop-number.invariant.filled;
      seven = length-set c.loop-number.words c.loop-number.number c.word_at.result ∙ seven;
    }

pub returns : goal.returns
unfolding by_channel
returns c =
    let seven = c.loop-number.invariant.seven in
    let all : c.loop-number.number ≡ 7 = omega arith in
    sym (take_all c.loop-number.number c.loop-number.words (omega (arith, all, seven)))
    ∙ c.loop-number.invariant.filled
    ∙ ap (λ n. map (sensed_at c.args.mission.now c.args.cycle) (numbers_below n)) all
