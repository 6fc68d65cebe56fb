use Rattle.std.proofs.Common.{◌≡◌, ◌∙◌, true, sym, ap, subst}
use Rattle.std.specs.List.{list_all}
use Rattle.guards_model.specs.Frames.{FinalValue, counts_in_range}
use Rattle.join_vote.proofs.Taken.{taken_is_good, capped_counts}
use Rattle.join_vote.proofs.replica.Replica.take_final.Goals as goal

pub from_word-requires : goal.from_word-requires
from_word-requires c =
    capped_counts c.content.inside.control.counts
    (subst (λ (f : FinalValue). counts_in_range f.control.counts ≡ true) (sym c.content.view_is)
    (taken_is_good (λ f. counts_in_range f.control.counts) c.as_slice.result.now c.args.self.now c.in-Some.content.now
    (sym c.in-Some.ensures.content)
    (ap (list_all (λ f. counts_in_range f.control.counts)) c.as_slice.ensures ∙ c.requires.capped)))
