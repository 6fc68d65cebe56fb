use Rattle.std.proofs.Common.{◌&&◌, ap, ◌∙◌}
use Rattle.std.specs.Prelude.{nat_lt}
use Rattle.std.specs.List.{list_all}
use Rattle.told_cycles.proofs.SetLemmas.{same_members}
use Rattle.told_cycles.proofs.rules.comes_next.Goals as goal

pub returns : goal.returns
returns c =
    λ chans same.
    let below = c.all_below.ensures ∙ same_members (λ q. nat_lt q c.index.result) c.args.before chans same
    ∙ ap (λ n. list_all (λ q. nat_lt q n) chans) c.index.ensures.number in
    c.both.ensures ∙ (λ i. c.has.ensures i && below i)
