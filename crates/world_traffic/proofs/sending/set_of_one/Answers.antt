use Rattle.std.proofs.Common.{List, ℕ, ◌<◌, ap, subst, ◌∙◌, [], ◌∷◌}
use Rattle.guards_model.specs.Channels.{union}
use Rattle.world_traffic.proofs.NodeSends.{single_set}
use Rattle.world_traffic.proofs.sending.set_of_one.Goals as goal

pub returns : goal.returns
returns c =
    c.with.ensures ∙ ap (λ (s : List ℕ). union s (c.args.c ∷ [])) c.empty.ensures
    ∙ single_set c.args.c (subst (λ (n : ℕ). n < 7) c.index.ensures.number c.index.ensures.below)
