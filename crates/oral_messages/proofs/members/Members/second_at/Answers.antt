use Rattle.std.proofs.Common.{◌-◌, ◌+◌, ◌/◌, ◌%◌, ◌∙◌, ◌∷◌, [], sym, ap, get_or}
use Rattle.std.specs.Prelude.{nat_le}
use Rattle.oral_messages.proofs.PathsBack.{skipped}
use Rattle.oral_messages.proofs.RankedTables.{byte_is, two_back_at}
use Rattle.oral_messages.proofs.members.Members.second_at.Goals as goal

pub returns : goal.returns
returns c =
    let p = c.args.place in
    let labels = c.self.inside.labels in
    let left = c.from-left.result - 1 in
    two_back_at c.self.inside.active c.self.inside.count labels c.self.inside.below c.args.self.now c.self.invariant
    c.self.view_is p c.requires
    ∙ ap (λ n. get_or labels (skipped (p / (n - 1)) (p % (n - 1))) 0 ∷ get_or labels (p / (n - 1)) 0 ∷ [])
    (sym c.from-left.ensures)
    ∙ ap (λ s. get_or labels (p % left + s) 0 ∷ get_or labels (p / left) 0 ∷ [])
    (byte_is (nat_le (p / left) (p % left)) ∙ sym c.from-skip.ensures)
