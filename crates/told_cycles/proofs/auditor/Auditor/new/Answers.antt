use Rattle.std.proofs.Common.{[], refl, subst}
use Rattle.told_cycles.specs.Sweeping.{SweepsFor}
use Rattle.told_cycles.proofs.StandLemmas.{no_some, zero_at}
use Rattle.told_cycles.proofs.auditor.Auditor.new.Goals as goal

pub returns : goal.returns
returns c = (
  refl,
  record {
    knows = record {
      done = refl;
      active = c.everyone.ensures;
      joined = c.empty.ensures;
      transfer = refl;
      started = λ t is. no_some t is;
      context = c.in_ok-context.ensures;
      counts = zero_at;
      words = c.first_words.ensures;
    };
    sweeps = record {
      cycles = [];
      stand = subst (λ b. SweepsFor b 0 [] c.none.result) c.block_count.ensures.value (c.none.ensures 0);
      same = λ t is. no_some t is;
    };
  },
)
