use Rattle.std.proofs.Common.{rules, Some}
use Rattle.std.proofs.lemmas.List.Elements.{All-pop}
use Rattle.world_nodes.proofs.Traces.{all_stepped}
use Rattle.world_nodes.proofs.beside.+each_beside+fn-each_beside-join+arg2.Goals as goal

pub join-others-requires-after_bounds : goal.join-others-requires-after_bounds
join-others-requires-after_bounds g t c κs within =
    let parts = All-pop (λ x. g.F.Fn.pre c.args.step.now (x, tt)) c.args.items.items c.pop.new.self.items
    (Some c.in-Some.last) c.in-Some.ensures.items c.requires in
    search (rules, parts)

pub returns-clause-made : goal.returns-clause-made
returns-clause-made g t c =
    all_stepped (λ x y. g.F.Fn.post c.args.step.now (x, tt) y) c.args.items.items c.pop.new.self.items
    c.join-others.result.0.0.items c.push_reserved-2.new.self.items
    c.in-Some.last c.join-others.result.1.0 c.join-others.result.0.1 c.join-others.result.1.1 c.and.result
    c.in-Some.ensures.items c.push_reserved-2.ensures.items c.and.ensures c.join-others.ensures.first.0
    c.join-others.ensures.second
