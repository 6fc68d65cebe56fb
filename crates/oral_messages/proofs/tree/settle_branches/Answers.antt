use Rattle.std.proofs.Common.{◌≡◌, ◌+◌, ◌-◌, ◌*◌, ◌∙◌, ap, take, drop, arith}
use Rattle.guards_model.specs.OralMessages.{majority_value}
use Rattle.oral_messages.proofs.tree.settle_branches.Goals as goal

pub returns : goal.returns
returns c =
    let width : (c.args.place * c.args.branches + c.args.branches) - c.args.place * c.args.branches ≡ c.args.branches =
    omega arith in
    c.settle.ensures
    ∙ ap (λ n. majority_value (take n (drop (c.args.place * c.args.branches) c.args.values.now))) width
